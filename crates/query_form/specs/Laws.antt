-- What is proved of the form of a condition.
use Rattle.std.specs.Prelude.{◌≡◌, ℤ, ◌≤◌, ◌⊎◌, true}
use Rattle.tap_rows.specs.declared.tables.Tables.{Tables}
use Rattle.tql_tree.specs.declared.table.Table.{Table}
use Rattle.tql_core.specs.declared.term.Var.{Var}
use Rattle.tql_core.specs.Condition.{Condition, Exists}
use Rattle.tql_core.specs.Holds.{truth}
use Rattle.tql_core.specs.Scope.{IsQuery}
use Rattle.tql_core.specs.Bounds.{are_bounded}
use Rattle.tql_core.specs.Values.{Env}
use Rattle.query_form.specs.Form.{distributed, exists_each, split, exists_count, node_count, form_of}

-- the form holds if and only if the condition does: over all tables, at each second, whatever rows the variables have
abbrev pub FormsAreEquivalent : Type 0
FormsAreEquivalent = (c : Condition) (T : Tables) (s : ℤ) (env : Env) → truth T s (form_of c) env ≡ truth T s c env

-- the form of a query is a query
abbrev pub FormsAreQueries : Type 0
FormsAreQueries = (c : Condition) → IsQuery c → IsQuery (form_of c)

-- the times of the form are bounded if those of the condition are
abbrev pub FormsAreBounded : Type 0
FormsAreBounded = (c : Condition) → are_bounded c ≡ true → are_bounded (form_of c) ≡ true

-- the form has at most 128 nodes, or is the condition itself
abbrev pub FormsAreSmall : Type 0
FormsAreSmall = (c : Condition) → (node_count (form_of c) ≤ 128) ⊎ (form_of c ≡ c)

-- an EXISTS that is split becomes at most 16, which have at most 128 nodes together
pub record IsSplit (v : Var) (t : Table) (x : Condition) : Type 0 where
  pub made : split v t x ≡ exists_each v t (distributed v x)
  pub few : exists_count v (distributed v x) ≤ 16
  pub small : node_count (split v t x) ≤ 128

-- an EXISTS stays whole, or is split into a few
abbrev pub SplitsAreFew : Type 0
SplitsAreFew = (v : Var) (t : Table) (x : Condition) → (split v t x ≡ Exists v t x) ⊎ IsSplit v t x
