-- What is proved of marks and bodies.
use Rattle.std.specs.Prelude.{◌≡◌, ℕ, ℤ, pos, ◌+ℤ◌, Bool, true, not, Some, List, [], ◌∷◌, int_le}
use Rattle.tap_rows.specs.declared.tables.Tables.{Tables}
use Rattle.tap_rows.specs.Results.{visible}
use Rattle.tql_core.specs.declared.term.Term.{Term}
use Rattle.tql_core.specs.Condition.{Condition}
use Rattle.tql_core.specs.Row.{Row, arrival, rows_of}
use Rattle.tql_core.specs.Values.{Env, bind, lookup, value}
use Rattle.tql_core.specs.Holds.{truth}
use Rattle.time_marks.specs.declared.mark.Step.{Step}
use Rattle.time_marks.specs.declared.mark.Mark.{Mark}
use Rattle.tql_core.specs.Scope.{Scoped}
use Rattle.tap_rows.specs.Kept.{In}
use Rattle.time_marks.specs.Marks.{copied, copy_term, marks, body}
use Rattle.time_marks.specs.Probes.{guards_true}

-- the second environment has for the path copies what the first has for the variables in scope
abbrev pub Keeps : List ℕ → Env → Env → Type 0
Keeps scope env final = (k : ℕ) → In k scope → lookup (copied k) final ≡ lookup k env

-- both have equal rows for the variables in scope
abbrev pub Same : List ℕ → Env → Env → Type 0
Same scope env final = (k : ℕ) → In k scope → lookup k final ≡ lookup k env

-- the second environment has one more row for each step: a row of the step's table that arrived by s
abbrev pub Along : Tables → ℤ → List Step → Env → Env → Type 0
Along T s [] env final = final ≡ env
Along T s (step ∷ path) env final = (r : Row) × In r (rows_of step.table T) × (int_le (arrival r) s ≡ true)
    × Along T s path (bind step.var r env) final

-- one of the marks has the second s, for some rows of its path that arrived by s and make its guards true
pub record Crossed (T : Tables) (s : ℤ) (scope : List ℕ) (env penv : Env) (ms : List Mark) : Type 0 where
  pub mark : Mark
  pub is_mark : In mark ms
  pub final : Env
  pub along : Along T s mark.path penv final
  pub guards : guards_true mark.path final ≡ true
  pub reaches : value mark.at final ≡ Some s
  pub keeps : Keeps scope env final

-- the truth of a condition changes from one second to the next only at a mark of that second: from false to true at one of
-- sign plus, from true to false at one of sign minus
abbrev pub ChangesAtMarks : Type 0
ChangesAtMarks =
    (T : Tables) (u s : ℤ) → s ≡ u +ℤ pos 1 → (c : Condition) (up : Bool) (scope : List ℕ) (env penv : Env)
    → Scoped scope c → Keeps scope env penv
    → truth (visible T u) u c env ≡ not up → truth (visible T s) s c env ≡ up → Crossed T s scope env penv (marks c up)

-- the body at a mark with the second b is true if and only if the condition holds at b
abbrev pub BodiesHoldAtMarks : Type 0
BodiesHoldAtMarks =
    (T : Tables) (n b : ℤ) (e : Term) (c : Condition) (scope : List ℕ) (env final : Env) → Scoped scope c → Same scope env final
    → value (copy_term e) final ≡ Some b → truth T n (body c (copy_term e)) final ≡ truth (visible T b) b c env
