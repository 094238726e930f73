-- The probe of a search, and what its evaluation needs.
use Rattle.std.specs.Prelude.{◌≡◌, ℕ, suc, ◌+◌, ◌<◌, ◌≤◌, List, length}
use Rattle.tql_tree.specs.declared.table.Table.{Table}
use Rattle.tql_core.specs.declared.term.Var.{Var}
use Rattle.tql_core.specs.Condition.{Condition, Exists}
use Rattle.tql_core.specs.declared.tnode.TNode.{TNode}
use Rattle.tql_core.specs.Trees.{tree_at}
use Rattle.tql_core.specs.Values.{Env}
use Rattle.time_marks.specs.Found.{nested}
use Rattle.time_marks.specs.Probes.{Probe}
use Rattle.time_marks.specs.Views.{probe_in}
use Rattle.probe_eval.specs.declared.search.Search.{Search}

-- the nodes of the query's conditions
abbrev pub pool_of : Search → List TNode
pool_of s = s.plan.now.query.pool

-- the condition at a number
abbrev pub condition_at : Search → ℕ → Condition
condition_at s id = tree_at (pool_of s) id

-- the probe, with its body as a condition
abbrev pub searched : Search → Probe
searched s = probe_in (pool_of s) s.probe.now

-- the body is a node of the pool
abbrev pub HasBody : Search → Type 0
HasBody s = s.probe.now.body.0 < length (pool_of s)

-- an environment has room for that many rows and those of the body's EXISTS
abbrev pub HasSlots : Search → ℕ → Type 0
HasSlots s n = n + nested (condition_at s s.probe.now.body.0) ≤ 16

-- what the evaluation of a condition needs: the number is a node, and there is room beside the rows that are bound for those of its
-- EXISTS
pub record CanEvaluate (s : Search) (id : ℕ) (env : Env) : Type 0 where
  pub node : id < length (pool_of s)
  pub room : length env + nested (condition_at s id) ≤ 16

-- the same of the inner condition of an EXISTS, which binds one row more
pub record CanEvaluateInner (s : Search) (id : ℕ) (env : Env) : Type 0 where
  pub node : id < length (pool_of s)
  pub room : length env + suc (nested (condition_at s id)) ≤ 16

-- the condition at a number is an EXISTS with this variable and table, and its inner condition is at another number
abbrev pub IsExists : Search → ℕ → Var → Table → ℕ → Type 0
IsExists s id v t inner = condition_at s id ≡ Exists v t (condition_at s inner)

-- what the evaluation of the body needs beside that many rows: it is a node, and there is room for the rows of its EXISTS
pub record CanSearch (s : Search) (n : ℕ) : Type 0 where
  pub node : HasBody s
  pub room : HasSlots s n
