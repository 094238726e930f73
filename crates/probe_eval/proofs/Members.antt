-- Members of lists.
use Rattle.std.proofs.Common.{◌≡◌, ℕ, ◌≤◌, suc, Bool, true, false, List, [], ◌∷◌, Option, Some, None, length, refl, sym, ap, ◌∙◌, subst}
use Rattle.std.proofs.Common.{inl, inr, arith, nat_eq}
use Rattle.std.specs.Prelude.{◌⊎◌, filter, option_to_list, if◌then◌else◌}
use Rattle.std.specs.List.{flat_map}
use Rattle.std.proofs.lemmas.Bool.{cases_Bool, eqb-true, eqb-false}
use Rattle.tap_rows.specs.Kept.{In}
use Rattle.time_marks.specs.Found.{Distinct}
use Rattle.time_marks.proofs.Lists.{in_left, in_right, append_in}

module _ {A : Type 0} where
  pub in_filter : (p : A → Bool) (xs : List A) (x : A) → In x (filter p xs) → In x xs × (p x ≡ true)
  in_filter p [] x i = absurd i
  in_filter p (z ∷ zs) x i =
      elim (cases_Bool (p z)) [
        | inl e ↦ here e (rw e at i) (λ j. in_filter p zs x j)
        | inr e ↦ let k = in_filter p zs x (rw e at i) in (inr k.0, k.1)
      ]
    where
      here : p z ≡ true → (x ≡ z) ⊎ In x (filter p zs) → (In x (filter p zs) → In x zs × (p x ≡ true)) → In x (z ∷ zs) × (p x ≡ true)
      here e (inl q) r = (inl q, ap p q ∙ e)
      here e (inr j) r = let k = r j in (inr k.0, k.1)

  pub to_filter : (p : A → Bool) (xs : List A) (x : A) → In x xs → p x ≡ true → In x (filter p xs)
  to_filter p [] x i e = absurd i
  to_filter p (z ∷ zs) x (inl q) e =
      let e' : p z ≡ true = sym (ap p q) ∙ e in
      rw e' (inl q)
  to_filter p (z ∷ zs) x (inr j) e = go (cases_Bool (p z)) (to_filter p zs x j e)
    where
      go : (p z ≡ true) ⊎ (p z ≡ false) → In x (filter p zs) → In x (filter p (z ∷ zs))
      go (inl q) k = rw q (inr k)
      go (inr q) k = rw q k

module _ {A B : Type 0} where
  pub from_flat : (f : A → List B) (xs : List A) (y : B) → In y (flat_map f xs) → (x : A) × In x xs × In y (f x)
  from_flat f [] y i = absurd i
  from_flat f (x ∷ xs) y i = go (append_in (f x) (flat_map f xs) y i) (λ j. from_flat f xs y j)
    where
      go : In y (f x) ⊎ In y (flat_map f xs) → (In y (flat_map f xs) → (z : A) × In z xs × In y (f z))
          → (z : A) × In z (x ∷ xs) × In y (f z)
      go (inl j) r = (x, inl refl, j)
      go (inr j) r = let k = r j in (k.0, inr k.1, k.2)

  pub to_flat : (f : A → List B) (xs : List A) (x : A) (y : B) → In x xs → In y (f x) → In y (flat_map f xs)
  to_flat f [] x y i j = absurd i
  to_flat f (z ∷ zs) x y (inl q) j = in_left (f z) (flat_map f zs) y (subst (λ k. In y (f k)) q j)
  to_flat f (z ∷ zs) x y (inr i) j = in_right (f z) (flat_map f zs) y (to_flat f zs x y i j)

module _ {A : Type 0} where
  pub only_one : (o : Option A) (x : A) → In x (option_to_list o) → o ≡ Some x
  only_one None x i = absurd i
  only_one (Some y) x (inl q) = ap Some (sym q)
  only_one (Some y) x (inr i) = absurd i

  pub one_only : (o : Option A) (x : A) → o ≡ Some x → In x (option_to_list o)
  one_only o x e = subst (λ z. In x (option_to_list z)) (sym e) (inl refl)

-- a list without a number
abbrev without : ℕ → List ℕ → List ℕ
without x [] = []
without x (y ∷ ys) = if nat_eq x y then ys else y ∷ without x ys

without_length : (x : ℕ) (ys : List ℕ) → In x ys → length ys ≡ suc (length (without x ys))
without_length x [] i = absurd i
without_length x (y ∷ ys) i =
    elim (cases_Bool (nat_eq x y)) [
      | inl e ↦ rw e refl
      | inr e ↦ rw e (ap suc (without_length x ys (tail e i)))
    ]
  where
    tail : nat_eq x y ≡ false → (x ≡ y) ⊎ In x ys → In x ys
    tail e (inl q) = absurd (eqb-false x y e q)
    tail e (inr j) = j

in_without : (x k : ℕ) (ys : List ℕ) → In k ys → (k ≡ x → ⊥) → In k (without x ys)
in_without x k [] i n = i
in_without x k (y ∷ ys) i n =
    elim (cases_Bool (nat_eq x y)) [
      | inl e ↦ rw e (rest (eqb-true x y e) i)
      | inr e ↦ rw e (other i (λ j. in_without x k ys j n))
    ]
  where
    rest : x ≡ y → (k ≡ y) ⊎ In k ys → In k ys
    rest e (inl q) = absurd (n (q ∙ sym e))
    rest e (inr j) = j

    other : (k ≡ y) ⊎ In k ys → (In k ys → In k (without x ys)) → (k ≡ y) ⊎ In k (without x ys)
    other (inl q) f = inl q
    other (inr j) f = inr (f j)

-- distinct numbers that all stand in a list are no more than it has
pub no_more : (xs ys : List ℕ) → Distinct xs → ((k : ℕ) → In k xs → In k ys) → length xs ≤ length ys
no_more [] ys d h = omega arith
no_more (x ∷ xs) ys d h =
    let e = without_length x ys (h x (inl refl)) in
    let r = no_more xs (without x ys) d.1 (λ k i. in_without x k ys (h k (inr i)) (λ q. d.0 (subst (λ z. In z xs) q i))) in
    omega (arith, e, r)
