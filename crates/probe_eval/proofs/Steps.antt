-- One turn of a loop over rows, and the items at places of a list.
use Rattle.std.proofs.Common.{◌≡◌, ◌∙◌, ◌+◌, ◌≤◌, ◌||◌, ℕ, zero, suc, Bool, false, Some, drop, List, [], ◌∷◌, refl, sym, ap, subst, inl}
use Rattle.std.proofs.Common.{inr, arith}
use Rattle.std.specs.Prelude.{◌<◌, length, slice_get, slice_index_or}
use Rattle.tap_rows.specs.Kept.{In}
use Rattle.probe_eval.specs.Work.{total, until}

module _ {A : Type 0} where
  -- the steps of the row that was handed out are taken
  pub cost_step : (cost : A → ℕ) (s next now bound : ℕ) (rows left : List A) (r : A) → s + total (λ x. 1 + cost x) rows ≤ bound
      → rows ≡ r ∷ left → next ≡ s + 1 → now ≤ next + cost r → now + total (λ x. 1 + cost x) left ≤ bound
  cost_step cost s next now bound rows left r h e n c =
      let k : s + (1 + cost r + total (λ x. 1 + cost x) left) ≤ bound = subst (λ z. s + total (λ x. 1 + cost x) z ≤ bound) e h in
      omega (arith, k, n, c)

  -- the same of a walk that stops at the first row of which f is true, if it goes on
  pub until_step : (cost : A → ℕ) (f : A → Bool) (s next now bound : ℕ) (rows left : List A) (r : A)
      → s + total (λ x. 1 + cost x) (until f rows) ≤ bound → rows ≡ r ∷ left → f r ≡ false → next ≡ s + 1 → now ≤ next + cost r
      → now + total (λ x. 1 + cost x) (until f left) ≤ bound
  until_step cost f s next now bound rows left r h e q n c =
      let k : s + total (λ x. 1 + cost x) (until f (r ∷ left)) ≤ bound = subst (λ z. s + total (λ x. 1 + cost x) (until f z) ≤ bound) e h in
      let m : s + (1 + cost r + total (λ x. 1 + cost x) (until f left)) ≤ bound = rw q at k in
      omega (arith, m, n, c)

  -- and if it stops there
  pub until_end : (cost : A → ℕ) (f : A → Bool) (s next now bound : ℕ) (rows left : List A) (r : A)
      → s + total (λ x. 1 + cost x) (until f rows) ≤ bound → rows ≡ r ∷ left → next ≡ s + 1 → now ≤ next + cost r → now ≤ bound
  until_end cost f s next now bound rows left r h e n c =
      let k : s + total (λ x. 1 + cost x) (until f (r ∷ left)) ≤ bound = subst (λ z. s + total (λ x. 1 + cost x) (until f z) ≤ bound) e h in
      omega (arith, k, n, c)

  -- what is left from a place on
  pub rest_at : (xs : List A) (j : ℕ) (x : A) → slice_get xs j ≡ Some x → drop j xs ≡ x ∷ drop (j + 1) xs
  rest_at [] j x e = absurd cc
  rest_at (y ∷ ys) zero x e = ap (λ z. z ∷ ys) (same e)
    where
      same : Some y ≡ Some x → y ≡ x
      same e = cc
  rest_at (y ∷ ys) (suc j) x e = rest_at ys j x e ∙ ap (λ n. x ∷ drop n (y ∷ ys)) (shift j)
    where
      shift : (j : ℕ) → suc (j + 1) ≡ suc j + 1
      shift j = omega arith

  pub item_at : (xs : List A) (i : ℕ) (x d : A) → i < length xs → x ≡ slice_index_or xs i d → slice_get xs i ≡ Some x
  item_at [] i x d h e = absurd (omega (arith, h))
  item_at (y ∷ ys) zero x d h e = ap Some (sym e)
  item_at (y ∷ ys) (suc i) x d h e = item_at ys i x d (less i (length ys) h) e
    where
      less : (i l : ℕ) → suc i < suc l → i < l
      less i l h = omega (arith, h)

pub or_none : {a b : Bool} → a ≡ false → b ≡ false → (a || b) ≡ false
or_none h k = rw (h, k) refl

pub get_in : {A : Type 0} (xs : List A) (j : ℕ) (x : A) → slice_get xs j ≡ Some x → In x xs
get_in [] j x e = absurd cc
get_in (y ∷ ys) zero x e = inl (same e)
  where
    same : Some y ≡ Some x → x ≡ y
    same e = cc
get_in (y ∷ ys) (suc j) x e = inr (get_in ys j x e)
