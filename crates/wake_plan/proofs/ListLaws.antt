-- Lists of which one item is replaced.
use Rattle.std.proofs.Common.{◌≡◌, ℕ, zero, suc, ◌+◌, ◌≤◌, List, [], ◌∷◌, ◌++◌, Some, sym, ap, ◌∙◌, subst, inl, inr, arith, slice_set}
use Rattle.std.proofs.Common.{slice_index_or}
use Rattle.std.specs.Prelude.{slice_get}
use Rattle.std.specs.List.{flat_map}
use Rattle.tap_rows.specs.Kept.{Each, In}
use Rattle.probe_eval.specs.Work.{total}

module _ {A : Type 0} where
  some_same : {x y : A} → Some x ≡ Some y → x ≡ y
  some_same e = cc

  -- the item at a place
  pub item_is : (xs : List A) (i : ℕ) (x d y : A) → slice_get xs i ≡ Some x → y ≡ slice_index_or xs i d → y ≡ x
  item_is [] i x d y e q = absurd cc
  item_is (z ∷ zs) zero x d y e q = q ∙ some_same e
  item_is (z ∷ zs) (suc i) x d y e q = item_is zs i x d y e q

  pub each_item : (P : A → Type 0) (xs : List A) (i : ℕ) (x : A) → Each P xs → slice_get xs i ≡ Some x → P x
  each_item P [] i x h e = absurd cc
  each_item P (z ∷ zs) zero x h e = subst P (some_same e) h.0
  each_item P (z ∷ zs) (suc i) x h e = each_item P zs i x h.1 e

  pub each_in : (P : A → Type 0) (xs : List A) (x : A) → Each P xs → In x xs → P x
  each_in P [] x h i = absurd i
  each_in P (z ∷ zs) x h (inl q) = subst P (sym q) h.0
  each_in P (z ∷ zs) x h (inr i) = each_in P zs x h.1 i

  -- after one was replaced
  pub each_set : (P : A → Type 0) (xs : List A) (i : ℕ) (y : A) → Each P xs → P y → Each P (slice_set xs i y)
  each_set P [] i y h p = h
  each_set P (z ∷ zs) zero y h p = (p, h.1)
  each_set P (z ∷ zs) (suc i) y h p = (h.0, each_set P zs i y h.1 p)

  pub flat_set : {B : Type 0} (f : A → List B) (xs : List A) (i : ℕ) (x y : A) → slice_get xs i ≡ Some x → f x ≡ f y
      → flat_map f (slice_set xs i y) ≡ flat_map f xs
  flat_set f [] i x y e q = absurd cc
  flat_set f (z ∷ zs) zero x y e q = ap (λ l. l ++ flat_map f zs) (sym q ∙ ap f (sym (some_same e)))
  flat_set f (z ∷ zs) (suc i) x y e q = ap (λ l. f z ++ l) (flat_set f zs i x y e q)

  pub total_set : (f : A → ℕ) (xs : List A) (i : ℕ) (x y : A) → slice_get xs i ≡ Some x
      → total f (slice_set xs i y) + f x ≡ total f xs + f y
  total_set f [] i x y e = absurd cc
  total_set f (z ∷ zs) zero x y e =
      let q : f z ≡ f x = ap f (some_same e) in
      omega (arith, q)
  total_set f (z ∷ zs) (suc i) x y e = let k = total_set f zs i x y e in omega (arith, k)

  pub get_in : (xs : List A) (i : ℕ) (x : A) → slice_get xs i ≡ Some x → In x xs
  get_in [] i x e = absurd cc
  get_in (y ∷ ys) zero x e = inl (sym (some_same e))
  get_in (y ∷ ys) (suc i) x e = inr (get_in ys i x e)

  pub total_item : (f : A → ℕ) (xs : List A) (i : ℕ) (x : A) → slice_get xs i ≡ Some x → f x ≤ total f xs
  total_item f [] i x e = absurd cc
  total_item f (y ∷ ys) zero x e = let q : f y ≡ f x = ap f (some_same e) in omega (arith, q)
  total_item f (y ∷ ys) (suc i) x e = let k = total_item f ys i x e in omega (arith, k)
