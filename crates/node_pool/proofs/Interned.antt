-- A pool with one more node is a pool.
use Rattle.std.proofs.Common.{◌≡◌, ◌∙◌, refl, sym, ap, subst, inl, inr, arith, ℕ, zero, suc, ◌<◌, Bool, true, false, List, [], ◌∷◌, ◌++◌}
use Rattle.std.proofs.Common.{length, Some, if◌then◌else◌, length-append}
use Rattle.std.specs.Prelude.{◌⊎◌, ◌||◌, slice_get}
use Rattle.std.specs.List.{list_any}
use Rattle.std.proofs.lemmas.Bool.{false≢true}
use Rattle.node_pool.specs.Pools.{are_below, IsPool, with_node}

module _ {N : Type 0} where
  last_or_before : (nodes : List N) (node x : N) (i : ℕ) → slice_get (nodes ++ node ∷ []) i ≡ Some x
      → (slice_get nodes i ≡ Some x) ⊎ ((i ≡ length nodes) × (x ≡ node))
  last_or_before [] node x zero e = inr (refl, cc)
  last_or_before [] node x (suc i) e = absurd cc
  last_or_before (y ∷ nodes) node x zero e = inl e
  last_or_before (y ∷ nodes) node x (suc i) e =
      elim (last_or_before nodes node x i e) [
        | inl h ↦ inl h
        | inr h ↦ inr (ap suc h.0, h.1)
      ]

  is_there : (test : N → Bool) (nodes : List N) (x : N) (i : ℕ) → slice_get nodes i ≡ Some x → test x ≡ true → list_any test nodes ≡ true
  is_there test [] x i e t = absurd cc
  is_there test (y ∷ nodes) x zero e t =
      let h : y ≡ x = cc in
      rw (h, t) refl
  is_there test (y ∷ nodes) x (suc i) e t = rw (is_there test nodes x i e t) (or_true (test y)) where
    or_true : (b : Bool) → (b || true) ≡ true
    or_true true = refl
    or_true false = refl

  module _ (kids : N → List ℕ) (eq : N → N → Bool) (nodes : List N) (node : N) (pool : IsPool kids nodes) where
    appended : are_below (length nodes) (kids node) ≡ true → length nodes < 4294967295 → ((i : ℕ) → slice_get nodes i ≡ Some node → ⊥)
        → IsPool kids (nodes ++ node ∷ [])
    appended below room new = record {
      once = λ i j x e f. pair i j x (last_or_before nodes node x i e) (last_or_before nodes node x j f);
      behind = λ i x e. behind i x (last_or_before nodes node x i e);
      few = rw (length-append nodes (node ∷ [])) (omega arith);
    } where
      pair : (i j : ℕ) (x : N) → (slice_get nodes i ≡ Some x) ⊎ ((i ≡ length nodes) × (x ≡ node))
          → (slice_get nodes j ≡ Some x) ⊎ ((j ≡ length nodes) × (x ≡ node)) → i ≡ j
      pair i j x (inl e) (inl f) = pool.once i j x e f
      pair i j x (inl e) (inr f) = absurd (new i (subst (λ y. slice_get nodes i ≡ Some y) f.1 e))
      pair i j x (inr e) (inl f) = absurd (new j (subst (λ y. slice_get nodes j ≡ Some y) e.1 f))
      pair i j x (inr e) (inr f) = e.0 ∙ sym f.0

      behind : (i : ℕ) (x : N) → (slice_get nodes i ≡ Some x) ⊎ ((i ≡ length nodes) × (x ≡ node)) → are_below i (kids x) ≡ true
      behind i x (inl e) = pool.behind i x e
      behind i x (inr e) = rw (e.0, e.1) below

    pub interned : (new : List N) → eq node node ≡ true → are_below (length nodes) (kids node) ≡ true → length nodes < 4294967295
        → new ≡ with_node eq nodes node → IsPool kids new
    interned new same below room is = go (list_any (eq node) nodes) refl where
      go : (b : Bool) → list_any (eq node) nodes ≡ b → IsPool kids new
      go true e = subst (IsPool kids) (sym (is ∙ ap (λ b. if b then nodes else nodes ++ node ∷ []) e)) pool
      go false e = subst (IsPool kids) (sym (is ∙ ap (λ b. if b then nodes else nodes ++ node ∷ []) e))
          (appended below room (λ i f. false≢true (sym e ∙ is_there (eq node) nodes node i f same)))
