-- Rows in order are cut in two by a test.
use Rattle.std.proofs.Common.{◌≡◌, ℕ, zero, suc, ◌-◌, ◌<◌, ◌≤◌, ℤ, Bool, true, false, not, List, [], ◌∷◌, length, take, drop, filter}
use Rattle.std.proofs.Common.{refl, sym, ap, ◌∙◌, subst, inl, inr, arith}
use Rattle.std.specs.Prelude.{int_le, int_lt, slice_index_or}
use Rattle.std.specs.List.{list_all}
use Rattle.std.specs.List.Sorted.{IsPartitionPoint, IsPartitionedBy}
use Rattle.std.proofs.lemmas.Int.{ints}
use Rattle.std.proofs.lemmas.List.{take_all, length-drop}
use Rattle.std.proofs.lemmas.Bool.{cases_Bool, and_parts}
use Rattle.row_index.specs.Orders.{IsRisingBy, in_window}

module _ {A : Type 0} where
  none_pass : (p : A → Bool) (xs : List A) → ((k : ℕ) (d : A) → 0 ≤ k → k < length xs → p (slice_index_or xs k d) ≡ false)
      → filter p xs ≡ []
  none_pass p [] h = refl
  none_pass p (x ∷ xs) h =
      let e : p x ≡ false = h 0 x (omega arith) (omega arith) in
      rw e (none_pass p xs (λ k d a b. h (suc k) d (omega arith) (omega (arith, b))))

  all_pass : (p : A → Bool) (xs : List A) → ((k : ℕ) (d : A) → 0 ≤ k → k < length xs → p (slice_index_or xs k d) ≡ false)
      → filter (λ x. not (p x)) xs ≡ xs
  all_pass p [] h = refl
  all_pass p (x ∷ xs) h =
      let e : p x ≡ false = h 0 x (omega arith) (omega arith) in
      rw e (ap (λ z. x ∷ z) (all_pass p xs (λ k d a b. h (suc k) d (omega arith) (omega (arith, b)))))

  pub front_passes : (p : A → Bool) (xs : List A) (i : ℕ) → i ≤ length xs → IsPartitionPoint (λ y. p y ≡ true) (λ y. p y ≡ false) xs i
      → take i xs ≡ filter p xs
  front_passes p xs zero w h = sym (none_pass p xs h.1)
  front_passes p [] (suc i) w h = absurd (omega (arith, w))
  front_passes p (x ∷ xs) (suc i) w h =
      let e : p x ≡ true = h.0 0 x (omega arith) (omega arith) in
      let r = front_passes p xs i (omega (arith, w))
      ((λ k d a b. h.0 (suc k) d (omega arith) (omega (arith, b))), (λ k d a b. h.1 (suc k) d (omega (arith, a)) (omega (arith, b)))) in
      rw e (ap (λ z. x ∷ z) r)

  pub rest_fails : (p : A → Bool) (xs : List A) (i : ℕ) → i ≤ length xs → IsPartitionPoint (λ y. p y ≡ true) (λ y. p y ≡ false) xs i
      → drop i xs ≡ filter (λ x. not (p x)) xs
  rest_fails p xs zero w h = sym (all_pass p xs h.1)
  rest_fails p [] (suc i) w h = absurd (omega (arith, w))
  rest_fails p (x ∷ xs) (suc i) w h =
      let e : p x ≡ true = h.0 0 x (omega arith) (omega arith) in
      let r = rest_fails p xs i (omega (arith, w))
      ((λ k d a b. h.0 (suc k) d (omega arith) (omega (arith, b))), (λ k d a b. h.1 (suc k) d (omega (arith, a)) (omega (arith, b)))) in
      rw e r

  take_rest : (xs : List A) (i : ℕ) → take (length xs - i) (drop i xs) ≡ drop i xs
  take_rest xs i =
      let e : length (drop i xs) ≡ length xs - i = length-drop i xs in
      take_all (length xs - i) (drop i xs) (omega (arith, e))

  pub rest_as_taken : (p : A → Bool) (xs : List A) (i : ℕ) → i ≤ length xs → IsPartitionPoint (λ y. p y ≡ true) (λ y. p y ≡ false) xs i
      → take (length xs - i) (drop i xs) ≡ filter (λ x. not (p x)) xs
  rest_as_taken p xs i w h = take_rest xs i ∙ rest_fails p xs i w h

module _ {A : Type 0} (f : A → ℤ) where
  all_at : (p : A → Bool) (xs : List A) (k : ℕ) (d : A) → list_all p xs ≡ true → k < length xs → p (slice_index_or xs k d) ≡ true
  all_at p [] k d h w = absurd (omega (arith, w))
  all_at p (x ∷ xs) zero d h w = (and_parts (p x) (list_all p xs) h).0
  all_at p (x ∷ xs) (suc k) d h w = all_at p xs k d (and_parts (p x) (list_all p xs) h).1 (omega (arith, w))

  le_self : (x : ℤ) → int_le x x ≡ true
  le_self x = grind (arith, ints)

  pub rising_at : (xs : List A) (i j : ℕ) (d : A) → IsRisingBy f xs → i ≤ j → j < length xs
      → int_le (f (slice_index_or xs i d)) (f (slice_index_or xs j d)) ≡ true
  rising_at [] i j d r a w = absurd (omega (arith, w))
  rising_at (x ∷ xs) zero zero d r a w = le_self (f x)
  rising_at (x ∷ xs) zero (suc j) d r a w = all_at (λ y. int_le (f x) (f y)) xs j d r.0 (omega (arith, w))
  rising_at (x ∷ xs) (suc i) zero d r a w = absurd (omega (arith, a))
  rising_at (x ∷ xs) (suc i) (suc j) d r a w = rising_at xs i j d r.1 (omega (arith, a)) (omega (arith, w))

  lt_down : (x y m : ℤ) → int_le x y ≡ true → int_lt y m ≡ true → int_lt x m ≡ true
  lt_down x y m h k = grind (arith, ints)

  le_down : (x y m : ℤ) → int_le x y ≡ true → int_le y m ≡ true → int_le x m ≡ true
  le_down x y m h k = grind (arith, ints)

  -- the rows before a moment come before the others
  pub before_first : (m : ℤ) (xs : List A) → IsRisingBy f xs → IsPartitionedBy (λ x. int_lt (f x) m) xs
  before_first m xs r i j d a w h = lt_down _ _ m (rising_at xs i j d r a w) h

  -- and so do those up to a moment
  pub up_to_first : (m : ℤ) (xs : List A) → IsRisingBy f xs → IsPartitionedBy (λ x. int_le (f x) m) xs
  up_to_first m xs r i j d a w h = le_down _ _ m (rising_at xs i j d r a w) h

  all_kept : (p q : A → Bool) (xs : List A) → list_all p xs ≡ true → list_all p (filter q xs) ≡ true
  all_kept p q [] h = refl
  all_kept p q (x ∷ xs) h =
      let a = and_parts (p x) (list_all p xs) h in
      elim (cases_Bool (q x)) [
        | inl e ↦ rw (e, a.0) (all_kept p q xs a.1)
        | inr e ↦ rw e (all_kept p q xs a.1)
      ]

  -- rows that are left out don't change the order
  pub rising_kept : (q : A → Bool) (xs : List A) → IsRisingBy f xs → IsRisingBy f (filter q xs)
  rising_kept q [] r = tt
  rising_kept q (x ∷ xs) r =
      elim (cases_Bool (q x)) [
        | inl e ↦ rw e (all_kept (λ y. int_le (f x) (f y)) q xs r.0, rising_kept q xs r.1)
        | inr e ↦ rw e (rising_kept q xs r.1)
      ]

  not_lt : (x y : ℤ) → not (int_lt x y) ≡ int_le y x
  not_lt x y = grind (arith, ints)

  -- the same, of rows that are given so
  pub rising_left : (high : ℤ) (xs ys : List A) → IsRisingBy f xs → ys ≡ filter (λ x. int_lt (f x) high) xs → IsRisingBy f ys
  rising_left high xs ys r e = subst (IsRisingBy f) (sym e) (rising_kept (λ x. int_lt (f x) high) xs r)

  -- those from low on of those before high
  pub window_is : (low high : ℤ) (xs : List A)
      → filter (λ x. not (int_lt (f x) low)) (filter (λ x. int_lt (f x) high) xs) ≡ in_window f low high xs
  window_is low high [] = refl
  window_is low high (x ∷ xs) =
      let r = window_is low high xs in
      let e = not_lt (f x) low in
      elim (cases_Bool (int_lt (f x) high)) [
        | inl h ↦
            elim (cases_Bool (int_le low (f x))) [
              | inl l ↦ rw (h, e, l) (ap (λ z. x ∷ z) r)
              | inr l ↦ rw (h, e, l) r
            ]
        | inr h ↦
            elim (cases_Bool (int_le low (f x))) [
              | inl l ↦ rw (h, l) r
              | inr l ↦ rw (h, l) r
            ]
      ]

  pub window_of : (low high : ℤ) (xs ys zs : List A) → ys ≡ filter (λ x. int_lt (f x) high) xs
      → zs ≡ filter (λ x. not (int_lt (f x) low)) ys → zs ≡ in_window f low high xs
  window_of low high xs ys zs e k = k ∙ rw e (window_is low high xs)
