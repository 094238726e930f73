-- The accesses to the rows of each EXISTS.
use Rattle.std.proofs.Common.{◌≡◌, ◌∙◌, ◌⊎◌, ◌≤◌, ℕ, zero, suc, Bool, Some, None, List, [], ◌∷◌, ◌++◌, length, refl, sym}
use Rattle.std.proofs.Common.{ap, subst, inl, inr, arith}
use Rattle.std.specs.Prelude.{slice_get, option_to_list}
use Rattle.std.proofs.lemmas.Option.{slice_get_past}
use Rattle.tql_tree.specs.declared.table.Table.{Table}
use Rattle.tql_core.specs.declared.term.Var.{Var}
use Rattle.tql_core.specs.declared.atom.Atom.{Atom}
use Rattle.tql_core.specs.declared.tnode.TNode.{TNode}
use Rattle.tql_core.specs.Condition.{Condition, All, Exists, Never}
use Rattle.tql_core.specs.Trees.{tree_at, node_tree, tree}
use Rattle.time_marks.specs.Marks.{guards_of}
use Rattle.access_plan.specs.declared.access.Access.{Access}
use Rattle.access_plan.specs.Accesses.{access_by, accesses_by, inner_accesses}
use Rattle.access_plan.specs.Inners.{exists_accesses, inners_to, inners_of}

module _ {A : Type 0} where
  pub append_none : (xs : List A) → xs ++ [] ≡ xs
  append_none [] = refl
  append_none (x ∷ xs) = ap (λ z. x ∷ z) (append_none xs)

  pub append_three : (xs ys zs : List A) → xs ++ ys ++ zs ≡ xs ++ (ys ++ zs)
  append_three [] ys zs = refl
  append_three (x ∷ xs) ys zs = ap (λ z. x ∷ z) (append_three xs ys zs)

module _ (known : ℕ → Bool) (v : Var) (t : Table) where
  -- those of two lists of guards
  accesses_append : (xs ys : List Atom) → accesses_by known v t (xs ++ ys) ≡ accesses_by known v t xs ++ accesses_by known v t ys
  accesses_append [] ys = refl
  accesses_append (x ∷ xs) ys =
      ap (λ z. option_to_list (access_by known v t x) ++ z) (accesses_append xs ys)
      ∙ sym (append_three (option_to_list (access_by known v t x)) (accesses_by known v t xs) (accesses_by known v t ys))

  -- a guard that gives none adds none
  pub none_added : (into : List Access) (a : Atom) → None ≡ access_by known v t a → into ≡ into ++ accesses_by known v t (a ∷ [])
  none_added into a e = sym (ap (λ o. into ++ (option_to_list o ++ [])) (sym e) ∙ append_none into)

  pub one_added : (into now : List Access) (access : Access) (a : Atom) → Some access ≡ access_by known v t a → now ≡ into ++ access ∷ []
      → now ≡ into ++ accesses_by known v t (a ∷ [])
  one_added into now access a e n = n ∙ ap (λ o. into ++ (option_to_list o ++ [])) e

  -- the guards of both parts of a conjunction
  pub both_added : (into mid now : List Access) (x l r : Condition) → x ≡ All l r → mid ≡ into ++ accesses_by known v t (guards_of l)
      → now ≡ mid ++ accesses_by known v t (guards_of r)
      → now ≡ into ++ accesses_by known v t (guards_of x)
  both_added into mid now x l r e m n =
      n ∙ ap (λ z. z ++ accesses_by known v t (guards_of r)) m
      ∙ append_three into (accesses_by known v t (guards_of l)) (accesses_by known v t (guards_of r))
      ∙ ap (λ z. into ++ z) (sym (ap (λ c. accesses_by known v t (guards_of c)) e ∙ accesses_append (guards_of l) (guards_of r)))

-- an item of a list with one more at its end is the list's own or that one
last_item : {A : Type 0} (xs : List A) (y z : A) (i : ℕ) → slice_get (xs ++ y ∷ []) i ≡ Some z
    → (slice_get xs i ≡ Some z) ⊎ ((i ≡ length xs) × (y ≡ z))
last_item [] y z zero e = inr (refl, same e)
  where
    same : {A : Type 0} {y z : A} → Some y ≡ Some z → y ≡ z
    same e = cc
last_item [] y z (suc i) e = absurd cc
last_item (x ∷ xs) y z zero e = inl e
last_item (x ∷ xs) y z (suc i) e = elim (last_item xs y z i e) [ inl h ↦ inl h | inr h ↦ inr (ap suc h.0, h.1) ]

-- the first n numbers give n items
count_to : (nodes : List TNode) (n : ℕ) → length (inners_to nodes n) ≡ n
count_to nodes zero = refl
count_to nodes (suc n) = longer (inners_to nodes n) (exists_accesses (tree_at nodes n)) ∙ ap suc (count_to nodes n)
  where
    longer : {A : Type 0} (xs : List A) (y : A) → length (xs ++ y ∷ []) ≡ suc (length xs)
    longer [] y = refl
    longer (x ∷ xs) y = ap suc (longer xs y)

-- the item at a number is what its condition gives
at_number : (nodes : List TNode) (n i : ℕ) (found : List Access) → slice_get (inners_to nodes n) i ≡ Some found
    → exists_accesses (tree_at nodes i) ≡ found
at_number nodes zero i found e = absurd cc
at_number nodes (suc n) i found e =
    elim (last_item (inners_to nodes n) (exists_accesses (tree_at nodes n)) found i e) [
      | inl h ↦ at_number nodes n i found h
      | inr h ↦ ap (λ k. exists_accesses (tree_at nodes k)) (h.0 ∙ count_to nodes n) ∙ h.1
    ]

-- the accesses that were found for an EXISTS are those to its rows
pub found_accesses : (nodes : List TNode) (inners : List (List Access)) (i : ℕ) (found : List Access) (v : Var) (t : Table) (x : Condition)
    → inners ≡ inners_of nodes → slice_get inners i ≡ Some found → tree_at nodes i ≡ Exists v t x
    → found ≡ inner_accesses v t x
found_accesses nodes inners i found v t x e g q = sym (at_number nodes (length nodes) i found (subst (λ z. slice_get z i ≡ Some found) e g))
    ∙ ap exists_accesses q

-- an EXISTS has a number of the pool
pub none_beyond : (nodes : List TNode) (inners : List (List Access)) (i : ℕ) (v : Var) (t : Table) (x : Condition)
    → inners ≡ inners_of nodes → length inners ≤ i → tree_at nodes i ≡ Exists v t x → [] ≡ inner_accesses v t x
none_beyond nodes inners i v t x e h q =
    let n : length inners ≡ length nodes = ap length e ∙ count_to nodes (length nodes) in
    let never : tree_at nodes i ≡ Never = ap (λ o. node_tree o (tree nodes i)) (slice_get_past nodes i (omega (arith, h, n))) in
    absurd (differ (sym never ∙ q))
  where
    differ : Never ≡ Exists v t x → ⊥
    differ e = cc
