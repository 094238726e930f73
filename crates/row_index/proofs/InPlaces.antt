-- Rows in their places.
use Rattle.std.proofs.Common.{◌≡◌, ℕ, zero, suc, ◌+◌, ◌-◌, ◌<◌, ◌^◌, ℤ, pos, ◌≤ℤ◌, Bool, true, false, List, [], ◌∷◌, ◌++◌, None, length}
use Rattle.std.proofs.Common.{refl, sym, ◌∙◌, subst, arith, nat_eq, length-append}
use Rattle.std.specs.Prelude.{int_le, slice_get, ◌≤◌}
use Rattle.std.specs.List.{find, list_all}
use Rattle.std.proofs.lemmas.Int.{ints}
use Rattle.std.proofs.lemmas.Bool.{and_parts}
use Rattle.tap_rows.specs.declared.rows.Doc.{Doc}
use Rattle.tap_rows.specs.Arrivals.{Arrived}
use Rattle.tap_rows.specs.Kept.{Each}
use Rattle.tap_rows.proofs.Tests.{le_from, le_yes}
use Rattle.row_index.specs.Orders.{InPlace, Numbered, IsRisingBy, doc_number, doc_arrival}
use Rattle.tap_base.specs.Numbers.{IsMoment}

nat_other : (m n : ℕ) → m < n → nat_eq n m ≡ false
nat_other m n h = grind (arith, h)

nat_after : (m n k : ℕ) → m ≡ n → nat_eq m (n + suc k) ≡ false
nat_after m n k e = grind (arith, e)

plus_zero : (m n : ℕ) → m ≡ n → nat_eq m (n + 0) ≡ true
plus_zero m n e = grind (arith, e)

module _ {A : Type 0} (number : A → ℕ) where
  -- no row has a number below the first one's
  pub none_before : (m n : ℕ) (xs : List A) → Numbered number n xs → m < n → find (λ x. nat_eq (number x) m) xs ≡ None
  none_before m n [] h w = refl
  none_before m n (x ∷ xs) h w =
      let e : nat_eq (number x) m ≡ false = nat_other m (number x) (subst (λ z. m < z) (sym h.0) w) in
      rw e (none_before m (n + 1) xs h.1 (omega (arith, w)))

  found_from : (n k : ℕ) (xs : List A) → Numbered number n xs → find (λ x. nat_eq (number x) (n + k)) xs ≡ slice_get xs k
  found_from n k [] h = refl
  found_from n zero (x ∷ xs) h = rw (plus_zero (number x) n h.0) refl
  found_from n (suc k) (x ∷ xs) h =
      let e : n + 1 + k ≡ n + suc k = omega arith in
      let r = found_from (n + 1) k xs h.1 in
      rw (nat_after (number x) n k h.0) (subst (λ z. find (λ x. nat_eq (number x) z) xs ≡ slice_get xs k) e r)

  -- the row of a number stands at the place before it
  pub found_at : (m : ℕ) (xs : List A) → Numbered number 1 xs → 0 < m → slice_get xs (m - 1) ≡ find (λ x. nat_eq (number x) m) xs
  found_at m xs h w =
      let e : 1 + (m - 1) ≡ m = omega (arith, w) in
      sym (subst (λ z. find (λ x. nat_eq (number x) z) xs ≡ slice_get xs (m - 1)) e (found_from 1 (m - 1) xs h))

  le_ranks : (a b : ℕ) → a ≤ b → int_le (pos a) (pos b) ≡ true
  le_ranks a b h = grind (arith, ints)

  no_lower : (low n : ℕ) (xs : List A) → Numbered number n xs → low ≤ n → list_all (λ x. int_le (pos low) (pos (number x))) xs ≡ true
  no_lower low n [] h w = refl
  no_lower low n (x ∷ xs) h w =
      let e : low ≤ number x = subst (λ z. low ≤ z) (sym h.0) w in
      rw (le_ranks low (number x) e) (no_lower low (n + 1) xs h.1 (omega (arith, w)))

  -- the numbers of rows in their places rise
  pub numbers_rise : (n : ℕ) (xs : List A) → Numbered number n xs → IsRisingBy (λ x. pos (number x)) xs
  numbers_rise n [] h = tt
  numbers_rise n (x ∷ xs) h =
      let e : number x ≡ n = h.0 in
      (no_lower (number x) (n + 1) xs h.1 (omega (arith, e)), numbers_rise (n + 1) xs h.1)

-- documents in their places arrived one after another
arrived_from : (n : ℕ) (low : ℤ) (docs : List Doc) → Numbered doc_number n docs → IsRisingBy doc_arrival docs
    → Each (λ doc. low ≤ℤ doc.arrival) docs → Arrived n low docs
arrived_from n low [] h r e = tt
arrived_from n low (doc ∷ docs) h r e =
    (e.0, h.0, subst (λ z. Arrived z doc.arrival docs) (omega arith) (arrived_from (n + 1) doc.arrival docs h.1 r.1 (all_from docs r.0)))
  where
    all_from : (ds : List Doc) → list_all (λ d. int_le doc.arrival d.arrival) ds ≡ true → Each (λ d. doc.arrival ≤ℤ d.arrival) ds
    all_from [] a = tt
    all_from (d ∷ ds) a =
        let p = and_parts (int_le doc.arrival d.arrival) (list_all (λ d. int_le doc.arrival d.arrival) ds) a in
        (le_from _ _ p.0, all_from ds p.1)

early_each : (docs : List Doc) → Each (λ doc. IsMoment doc.arrival) docs → Each (λ doc. pos 0 ≤ℤ doc.arrival) docs
early_each [] e = tt
early_each (doc ∷ docs) e = (e.0.0, early_each docs e.1)

pub arrived_of : (docs : List Doc) → InPlace doc_number doc_arrival docs → Arrived 1 (pos 0) docs
arrived_of docs h = arrived_from 1 (pos 0) docs h.numbered h.rising (early_each docs h.moments)

-- one row more, or the last one less

module _ {A : Type 0} where
  each_onto : (P : A → Type 0) (xs : List A) (x : A) → Each P xs → P x → Each P (xs ++ x ∷ [])
  each_onto P [] x e p = (p, tt)
  each_onto P (y ∷ ys) x e p = (e.0, each_onto P ys x e.1 p)

  each_front : (P : A → Type 0) (xs : List A) (x : A) → Each P (xs ++ x ∷ []) → Each P xs
  each_front P [] x e = tt
  each_front P (y ∷ ys) x e = (e.0, each_front P ys x e.1)

  all_onto : (t : A → Bool) (xs : List A) (x : A) → list_all t xs ≡ true → t x ≡ true → list_all t (xs ++ x ∷ []) ≡ true
  all_onto t [] x h k = rw k refl
  all_onto t (y ∷ ys) x h k = let a = and_parts (t y) (list_all t ys) h in rw a.0 (all_onto t ys x a.1 k)

  all_front : (t : A → Bool) (xs : List A) (x : A) → list_all t (xs ++ x ∷ []) ≡ true → list_all t xs ≡ true
  all_front t [] x h = refl
  all_front t (y ∷ ys) x h = let a = and_parts (t y) (list_all t (ys ++ x ∷ [])) h in rw a.0 (all_front t ys x a.1)

  numbered_onto : (number : A → ℕ) (n : ℕ) (xs : List A) (x : A) → Numbered number n xs → number x ≡ n + length xs
      → Numbered number n (xs ++ x ∷ [])
  numbered_onto number n [] x h e = (e ∙ omega arith, tt)
  numbered_onto number n (y ∷ ys) x h e = (h.0, numbered_onto number (n + 1) ys x h.1 (e ∙ omega arith))

  numbered_front : (number : A → ℕ) (n : ℕ) (xs : List A) (x : A) → Numbered number n (xs ++ x ∷ []) → Numbered number n xs
  numbered_front number n [] x h = tt
  numbered_front number n (y ∷ ys) x h = (h.0, numbered_front number (n + 1) ys x h.1)

  number_last : (number : A → ℕ) (n : ℕ) (xs : List A) (x : A) → Numbered number n (xs ++ x ∷ []) → number x ≡ n + length xs
  number_last number n [] x h = h.0 ∙ omega arith
  number_last number n (y ∷ ys) x h = number_last number (n + 1) ys x h.1 ∙ omega arith

  rising_onto : (f : A → ℤ) (xs : List A) (x : A) → IsRisingBy f xs → Each (λ y. f y ≤ℤ f x) xs → IsRisingBy f (xs ++ x ∷ [])
  rising_onto f [] x r e = (refl, tt)
  rising_onto f (y ∷ ys) x r e = (all_onto (λ z. int_le (f y) (f z)) ys x r.0 (le_yes _ _ e.0), rising_onto f ys x r.1 e.1)

  rising_front : (f : A → ℤ) (xs : List A) (x : A) → IsRisingBy f (xs ++ x ∷ []) → IsRisingBy f xs
  rising_front f [] x r = tt
  rising_front f (y ∷ ys) x r = (all_front (λ z. int_le (f y) (f z)) ys x r.0, rising_front f ys x r.1)

  module _ (number : A → ℕ) (arrival : A → ℤ) (xs : List A) (x : A) where
    one_longer : length (xs ++ x ∷ []) ≡ length xs + 1
    one_longer = length-append xs (x ∷ [])

    pub in_place_more : InPlace number arrival xs → number x ≡ length xs + 1 → number x < 2 ^ 32 → IsMoment (arrival x)
        → Each (λ y. arrival y ≤ℤ arrival x) xs → InPlace number arrival (xs ++ x ∷ [])
    in_place_more h e w m a = record {
      numbered = numbered_onto number 1 xs x h.numbered (e ∙ omega arith);
      rising = rising_onto arrival xs x h.rising a;
      moments = each_onto (λ row. IsMoment (arrival row)) xs x h.moments m;
      room = subst (λ n. n < 2 ^ 32) (e ∙ sym one_longer) w;
    }

    pub in_place_less : InPlace number arrival (xs ++ x ∷ []) → InPlace number arrival xs
    in_place_less h = record {
      numbered = numbered_front number 1 xs x h.numbered;
      rising = rising_front arrival xs x h.rising;
      moments = each_front (λ row. IsMoment (arrival row)) xs x h.moments;
      room = let o = one_longer in let r = h.room in omega (arith, o, r);
    }

    pub number_of_last : InPlace number arrival (xs ++ x ∷ []) → number x ≡ length xs + 1
    number_of_last h = number_last number 1 xs x h.numbered ∙ omega arith
