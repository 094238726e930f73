-- The accesses to the rows of each EXISTS of a pool, found once.
use Rattle.std.specs.Prelude.{ℕ, zero, suc, List, [], ◌∷◌, ◌++◌, length}
use Rattle.tql_core.specs.declared.tnode.TNode.{TNode}
use Rattle.tql_core.specs.Condition.{Condition, Exists}
use Rattle.tql_core.specs.Trees.{tree_at}
use Rattle.access_plan.specs.declared.access.Access.{Access}
use Rattle.access_plan.specs.Accesses.{inner_accesses}

-- the accesses to its rows, if the condition is an EXISTS
abbrev pub exists_accesses : Condition → List Access
exists_accesses (Exists v t x) = inner_accesses v t x
exists_accesses _ = []

-- those of the first n numbers of a pool
abbrev pub inners_to : List TNode → ℕ → List (List Access)
inners_to nodes zero = []
inners_to nodes (suc n) = inners_to nodes n ++ exists_accesses (tree_at nodes n) ∷ []

-- the accesses of all numbers of a pool
abbrev pub inners_of : List TNode → List (List Access)
inners_of nodes = inners_to nodes (length nodes)
