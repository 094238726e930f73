-- Nodes that are made of the nodes of their parts, while the pool grows.
use Rattle.std.proofs.Common.{◌≡◌, ◌∙◌, refl, sym, ap, ℕ, true, List, [], ◌∷◌, arith}
use Rattle.std.specs.Prelude.{◌<◌, ◌&&◌, nat_lt, length}
use Rattle.std.proofs.lemmas.Bool.{and_parts}
use Rattle.node_pool.specs.Pools.{are_below}
use Rattle.tql_core.specs.declared.tnode.TNode.{TNode}
use Rattle.tql_core.specs.Condition.{Condition}
use Rattle.tql_core.specs.Trees.{tree_at, IsTreeAt, KeepsTrees}

-- the second of two parts has a lower number
pub second_below : (limit l r : ℕ) → are_below limit (l ∷ r ∷ []) ≡ true → r < limit
second_below limit l r h =
    let rest = (and_parts (nat_lt l limit) (nat_lt r limit && true) h).1 in
    let q : nat_lt r limit ≡ true = (and_parts (nat_lt r limit) true rest).0 in
    grind arith

-- a number of the old pool has its condition in the new one
pub stays : (old new : List TNode) → KeepsTrees old new → (id : ℕ) → id < length old → IsTreeAt new id (tree_at old id)
stays old new keeps id h = keeps id (tree_at old id) (record { within = h; is = refl })

-- a node that is made of one other
pub of_one : (old new : List TNode) (l id : ℕ) (x : Condition) (g : Condition → Condition)
    → IsTreeAt old l x → IsTreeAt new id (g (tree_at old l)) → IsTreeAt new id (g x)
of_one old new l id x g a t = record { within = t.within; is = t.is ∙ ap g a.is }

-- a node that is made of two others, the first one made before the pool grew for the second
pub of_two : (old mid new : List TNode) (l r id : ℕ) (x y : Condition) (g : Condition → Condition → Condition) → KeepsTrees old mid
    → IsTreeAt old l x → IsTreeAt mid r y → IsTreeAt new id (g (tree_at mid l) (tree_at mid r)) → IsTreeAt new id (g x y)
of_two old mid new l r id x y g keeps a b t =
    record { within = t.within; is = t.is ∙ ap (λ k. g k (tree_at mid r)) (keeps l x a).is ∙ ap (λ k. g x k) b.is }

-- a change of conditions that goes by their parts
module _ (f : Condition → Condition) where
  -- the changed condition of two parts
  pub change_two : (old one two new : List TNode) (l r l' r' id : ℕ) (c d : Condition → Condition → Condition) (w : Condition)
      → ((x y : Condition) → f (c x y) ≡ d (f x) (f y)) → KeepsTrees old one → KeepsTrees one two → r < length old
      → w ≡ c (tree_at old l) (tree_at old r) → IsTreeAt one l' (f (tree_at old l)) → IsTreeAt two r' (f (tree_at one r))
      → IsTreeAt new id (d (tree_at two l') (tree_at two r')) → IsTreeAt new id (f w)
  change_two old one two new l r l' r' id c d w s k k' h e a b t =
      record {
        within = t.within;
        is = t.is ∙ ap (λ z. d z (tree_at two r')) (k' l' _ a).is
            ∙ ap (λ z. d (f (tree_at old l)) z) (b.is ∙ ap f (stays old one k r h).is)
            ∙ sym (s (tree_at old l) (tree_at old r)) ∙ ap f (sym e);
      }
