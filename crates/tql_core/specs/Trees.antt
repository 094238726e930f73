-- Conditions that do not speak of now, as shared nodes.
use Rattle.std.specs.Prelude.{◌≡◌, ◌↔◌, ℕ, zero, suc, ◌<◌, List, [], ◌∷◌, length, Option, Some, None, slice_get}
use Rattle.node_pool.specs.Pools.{IsPool, Extends}
use Rattle.tql_core.specs.declared.tnode.TNode.{TNode}
use Rattle.tql_core.specs.declared.tnode.TNode.TheVariants as N
use Rattle.tql_core.specs.Condition.{Condition, Always, Never, Plain, All, Either, Not, Exists}

-- the numbers of a node's parts
abbrev pub kids_of : TNode → List ℕ
kids_of N.True = []
kids_of N.False = []
kids_of (N.Plain a) = []
kids_of (N.All l r) = l.0 ∷ r.0 ∷ []
kids_of (N.Either l r) = l.0 ∷ r.0 ∷ []
kids_of (N.Not x) = x.0 ∷ []
kids_of (N.Exists v t x) = x.0 ∷ []

-- the condition of a node, from those of its parts
abbrev pub node_tree : Option TNode → (ℕ → Condition) → Condition
node_tree None part = Never
node_tree (Some N.True) part = Always
node_tree (Some N.False) part = Never
node_tree (Some (N.Plain a)) part = Plain a
node_tree (Some (N.All l r)) part = All (part l.0) (part r.0)
node_tree (Some (N.Either l r)) part = Either (part l.0) (part r.0)
node_tree (Some (N.Not x)) part = Not (part x.0)
node_tree (Some (N.Exists v t x)) part = Exists v t (part x.0)

-- the condition of the node at a number, read at most that many nodes deep
abbrev pub tree : List TNode → ℕ → ℕ → Condition
tree nodes zero id = Never
tree nodes (suc n) id = node_tree (slice_get nodes id) (tree nodes n)

-- the condition at a number; a node stands behind its parts, so it is no deeper than its number
abbrev pub tree_at : List TNode → ℕ → Condition
tree_at nodes id = tree nodes (suc id) id

-- a node's condition is made of those of its parts
abbrev pub NodesSayTheirParts : Type 0
NodesSayTheirParts =
    (nodes : List TNode) (id : ℕ) (node : TNode) → IsPool kids_of nodes → slice_get nodes id ≡ Some node
    → tree_at nodes id ≡ node_tree (Some node) (tree_at nodes)

-- conditions are unchanged as the pool grows
abbrev pub TreesStay : Type 0
TreesStay = (old new : List TNode) (id : ℕ) → IsPool kids_of old → Extends old new → id < length old → tree_at new id ≡ tree_at old id

-- two numbers of a pool are equal if and only if their conditions are
abbrev pub EqualTreesHaveOneNumber : Type 0
EqualTreesHaveOneNumber =
    (nodes : List TNode) (i j : ℕ) → IsPool kids_of nodes → i < length nodes → j < length nodes
    → ((i ≡ j) ↔ (tree_at nodes i ≡ tree_at nodes j))

-- there is a node of this number, and this is its condition
pub record IsTreeAt (nodes : List TNode) (id : ℕ) (x : Condition) : Type 0 where
  pub within : id < length nodes
  pub is : tree_at nodes id ≡ x

-- each number with a condition in the one list has it in the other
abbrev pub KeepsTrees : List TNode → List TNode → Type 0
KeepsTrees old new = (id : ℕ) (x : Condition) → IsTreeAt old id x → IsTreeAt new id x
