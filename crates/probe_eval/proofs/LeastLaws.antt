-- The first of the least elements of a list, as it is looked for one by one.
use Rattle.std.proofs.Common.{◌≡◌, ◌∙◌, ℕ, ◌≤◌, ◌<◌, Bool, true, false, ◌&&◌, Option, Some, None, List, [], ◌∷◌, refl, arith, sym, ap, inl}
use Rattle.std.proofs.Common.{inr, if◌then◌else◌}
use Rattle.std.specs.Prelude.{fold, nat_le, nat_lt}
use Rattle.std.specs.List.{find, list_all}
use Rattle.std.proofs.lemmas.Bool.{cases_Bool, and_parts, false≢true}
use Rattle.tap_rows.specs.Kept.{In}

module _ {A : Type 0} where
  find_agree : (p q : A → Bool) (xs : List A) → ((x : A) → p x ≡ q x) → find p xs ≡ find q xs
  find_agree p q [] h = refl
  find_agree p q (x ∷ xs) h = elim (cases_Bool (q x)) [
    | inl e ↦ rw (h x, e) refl
    | inr e ↦ rw (h x, e) (find_agree p q xs h)
  ]

  pub found_in : (p : A → Bool) (xs : List A) (x : A) → find p xs ≡ Some x → In x xs
  found_in p [] x e = absurd cc
  found_in p (y ∷ xs) x e = elim (cases_Bool (p y)) [
    | inl h ↦ inl (sym (same (rw h at e)))
    | inr h ↦ inr (found_in p xs x (rw h at e))
  ]
    where
      same : Some y ≡ Some x → y ≡ x
      same e = cc

module _ {A : Type 0} (f : A → ℕ) where
  -- is none of these less?
  abbrev least : List A → A → Bool
  least xs a = list_all (λ b. nat_le (f a) (f b)) xs

  -- of two elements the lesser, of equal ones the first
  abbrev lesser : Option A → A → Option A
  lesser None a = Some a
  lesser (Some b) a = if nat_lt (f a) (f b) then Some a else Some b

  le_is : (a b : ℕ) → nat_le a b ≡ true → a ≤ b
  le_is a b h = grind arith

  is_le : (a b : ℕ) → a ≤ b → nat_le a b ≡ true
  is_le a b h = grind arith

  lt_is : (a b : ℕ) → nat_lt a b ≡ true → a < b
  lt_is a b h = grind arith

  not_lt : (a b : ℕ) → nat_lt a b ≡ false → b ≤ a
  not_lt a b h = grind arith

  both_true : (a b : Bool) → a ≡ true → b ≡ true → (a && b) ≡ true
  both_true a b h k = rw (h, k) refl

  not_first : (a b : Bool) → a ≡ false → (a && b) ≡ false
  not_first a b h = rw h refl

  alike : (x y : Bool) → (x ≡ true → y ≡ true) → (y ≡ true → x ≡ true) → x ≡ y
  alike true y g k = sym (g refl)
  alike false true g k = k refl
  alike false false g k = refl

  -- if one before is greater than another, it is never the least
  greater_first : (b x : A) (xs : List A) → f x < f b → find (least (b ∷ x ∷ xs)) (b ∷ x ∷ xs) ≡ find (least (x ∷ xs)) (x ∷ xs)
  greater_first b x xs h =
      let out : least (b ∷ x ∷ xs) b ≡ false = no_least in
      let agree : (a : A)
      → least (b ∷ x ∷ xs) a ≡ least (x ∷ xs) a = λ a. alike _ _ (λ k. (and_parts (nat_le (f a) (f b)) (least (x ∷ xs) a) k).1) (λ k.
      both_true (nat_le (f a) (f b)) (least (x ∷ xs) a) (is_le (f a) (f b) (under a k)) k) in
      skip out ∙ find_agree (least (b ∷ x ∷ xs)) (least (x ∷ xs)) (x ∷ xs) agree
    where
      not_le : (m n : ℕ) → n < m → nat_le m n ≡ false
      not_le m n l = grind arith

      second_false : (p q r : Bool) → q ≡ false → (p && (q && r)) ≡ false
      second_false true q r e = rw e refl
      second_false false q r e = refl

      no_least : least (b ∷ x ∷ xs) b ≡ false
      no_least = second_false (nat_le (f b) (f b)) (nat_le (f b) (f x)) (least xs b) (not_le (f b) (f x) h)

      under : (a : A) → least (x ∷ xs) a ≡ true → f a ≤ f b
      under a k = let l = le_is (f a) (f x) (and_parts (nat_le (f a) (f x)) (least xs a) k).0 in omega (arith, l, h)

      skip : least (b ∷ x ∷ xs) b ≡ false → find (least (b ∷ x ∷ xs)) (b ∷ x ∷ xs) ≡ find (least (b ∷ x ∷ xs)) (x ∷ xs)
      skip e = rw e refl

  -- if it isn't, the other changes nothing
  lesser_first : (b x : A) (xs : List A) → f b ≤ f x → find (least (b ∷ x ∷ xs)) (b ∷ x ∷ xs) ≡ find (least (b ∷ xs)) (b ∷ xs)
  lesser_first b x xs h =
      find_agree (least (b ∷ x ∷ xs)) (least (b ∷ xs)) (b ∷ x ∷ xs) agree
      ∙ elim (cases_Bool (least (b ∷ xs) b)) [
        | inl e ↦ rw e refl
        | inr e ↦ let k : least (b ∷ xs) x ≡ false = out e in rw (e, k) refl
      ]
    where
      agree : (a : A) → least (b ∷ x ∷ xs) a ≡ least (b ∷ xs) a
      agree a = alike _ _ (λ k.
          let p = and_parts (nat_le (f a) (f b)) (nat_le (f a) (f x) && least xs a) k in
          both_true (nat_le (f a) (f b)) (least xs a) p.0 (and_parts (nat_le (f a) (f x)) (least xs a) p.1).1)
          (λ k.
          let p = and_parts (nat_le (f a) (f b)) (least xs a) k in
          let l = le_is (f a) (f b) p.0 in
          both_true (nat_le (f a) (f b)) (nat_le (f a) (f x) && least xs a)
          p.0 (both_true (nat_le (f a) (f x)) (least xs a) (is_le (f a) (f x) (omega (arith, l, h))) p.1))

      all_less : (a : A) (ys : List A) → f a ≤ f x → least ys x ≡ true → least ys a ≡ true
      all_less a [] l k = refl
      all_less a (y ∷ ys) l k =
          let p = and_parts (nat_le (f x) (f y)) (least ys x) k in
          let m = le_is (f x) (f y) p.0 in
          both_true (nat_le (f a) (f y)) (least ys a) (is_le (f a) (f y) (omega (arith, l, m))) (all_less a ys l p.1)

      out : least (b ∷ xs) b ≡ false → least (b ∷ xs) x ≡ false
      out e = elim (cases_Bool (least (b ∷ xs) x)) [
        | inl k ↦ absurd (false≢true (sym e ∙ all_less b (b ∷ xs) h k))
        | inr k ↦ k
      ]

  after_one : (b : A) (xs : List A) → fold lesser (Some b) xs ≡ find (least (b ∷ xs)) (b ∷ xs)
  after_one b [] = let e : nat_le (f b) (f b) ≡ true = is_le (f b) (f b) (omega arith) in rw e refl
  after_one b (x ∷ xs) = elim (cases_Bool (nat_lt (f x) (f b))) [
    | inl h ↦ rw h (after_one x xs ∙ sym (greater_first b x xs (lt_is (f x) (f b) h)))
    | inr h ↦ rw h (after_one b xs ∙ sym (lesser_first b x xs (not_lt (f x) (f b) h)))
  ]

  lesser_least : (xs : List A) → fold lesser None xs ≡ find (least xs) xs
  lesser_least [] = refl
  lesser_least (x ∷ xs) = after_one x xs

  module _ (step : Option A → A → Option A) (none : (a : A) → step None a ≡ Some a)
      (some : (b a : A) → step (Some b) a ≡ (if nat_lt (f a) (f b) then Some a else Some b)) where
    step_is : (o : Option A) (a : A) → step o a ≡ lesser o a
    step_is None a = none a
    step_is (Some b) a = some b a

    fold_is : (o : Option A) (xs : List A) → fold step o xs ≡ fold lesser o xs
    fold_is o [] = refl
    fold_is o (x ∷ xs) = fold_is (step o x) xs ∙ ap (λ z. fold lesser z xs) (step_is o x)

    -- looked for one by one, the first of the least is found
    pub first_least : (xs : List A) → fold step None xs ≡ find (least xs) xs
    first_least xs = fold_is None xs ∙ lesser_least xs
