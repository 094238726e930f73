-- Whether a condition is true, and if it isn't, whether it is false beside all rows of a variable.
use Rattle.std.specs.Prelude.{◌≡◌, ℕ, pos, Bool, true, false}
use Rattle.tap_base.specs.Bytes.{IsPlaceOf}
use Rattle.tap_rows.specs.declared.tables.Tables.{Tables}
use Rattle.tql_core.specs.declared.term.Var.{Var}
use Rattle.tql_core.specs.Condition.{Condition}
use Rattle.tql_core.specs.Holds.{truth}
use Rattle.tql_core.specs.Values.{Env}
use Rattle.access_plan.specs.Accesses.{is_other}
use Rattle.access_plan.specs.Laws.{AreSame}
use Rattle.probe_eval.specs.declared.search.Search.{Search}
use Rattle.probe_eval.specs.declared.answer.TruthOfRows.{TruthOfRows}
use Rattle.probe_eval.specs.declared.answer.TruthOfRows.TheVariants.{True, False, Never}
use Rattle.probe_eval.specs.Conjuncts.{mentions}
use Rattle.probe_eval.specs.Searches.{pool_of, condition_at}

-- the condition is true
abbrev pub is_true : TruthOfRows → Bool
is_true True = true
is_true False = false
is_true Never = false

-- the condition is false beside the rows of env, whatever row v has
abbrev pub IsNever : Tables → Var → Condition → Env → Type 0
IsNever T v x env = (final : Env) → AreSame (is_other v) env final → truth T (pos 0) x final ≡ false

-- x is false beside the rows of env, whatever row a variable has that the condition at the number why doesn't name
pub record IsWhyFalse (s : Search) (x : Condition) (env : Env) (why : ℕ) : Type 0 where
  pub node : IsPlaceOf (pool_of s) why
  pub never : (v : Var) → mentions v (condition_at s why) ≡ false → IsNever s.index.now v x env

-- the variable of the document that the query is about
abbrev pub query_var : Var
query_var = record { 0 = 0 }
