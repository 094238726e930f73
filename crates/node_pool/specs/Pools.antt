-- Pools of nodes: lists in which a node's place is its number.
use Rattle.std.specs.Prelude.{◌≡◌, ℕ, ◌<◌, ◌^◌, Bool, true, List, [], ◌∷◌, ◌++◌, Some, length, slice_get, nat_lt, if◌then◌else◌}
use Rattle.std.specs.List.{list_all, list_any, position_or_len}

-- is each number below the limit?
abbrev pub are_below : ℕ → List ℕ → Bool
are_below limit numbers = list_all (λ number. nat_lt number limit) numbers

-- no two nodes are equal, each stands behind its children, and their count fits in 32 bits
pub record IsPool {N : Type 0} (kids : N → List ℕ) (nodes : List N) : Type 0 where
  pub once : (i j : ℕ) (node : N) → slice_get nodes i ≡ Some node → slice_get nodes j ≡ Some node → i ≡ j
  pub behind : (id : ℕ) (node : N) → slice_get nodes id ≡ Some node → are_below id (kids node) ≡ true
  pub few : length nodes < 2 ^ 32

module _ {N : Type 0} (eq : N → N → Bool) (nodes : List N) (node : N) where
  -- the nodes with this one, which is appended if it is new
  abbrev pub with_node : List N
  with_node = if list_any (eq node) nodes then nodes else nodes ++ node ∷ []

  -- the node's number: its place, or the first free one
  abbrev pub number_of_node : ℕ
  number_of_node = position_or_len (eq node) nodes

-- the new list is the old one and more
pub record Extends {N : Type 0} (old new : List N) : Type 0 where
  pub more : List N
  pub is : new ≡ old ++ more
