-- Whether the rest of a path exists, beside some rows.
use Rattle.std.specs.Prelude.{◌≡◌, ℕ, ◌+◌, ℤ, Bool, true, false, not, ◌&&◌, ◌||◌}
use Rattle.std.specs.Prelude.{Option, Some, None, List, [], ◌∷◌, length, int_le, if◌then◌else◌}
use Rattle.std.specs.List.{list_any, filter}
use Rattle.tap_rows.specs.declared.tables.Tables.{Tables}
use Rattle.tql_core.specs.declared.term.Var.{Var}
use Rattle.tql_core.specs.declared.atom.Atom.{Atom}
use Rattle.tql_core.specs.Row.{Row, arrival, rows_of}
use Rattle.tap_rows.specs.Kept.{In}
use Rattle.tql_core.specs.Values.{Env, bind, lookup, true_atom}
use Rattle.time_marks.specs.declared.mark.Step.{Step}
use Rattle.time_marks.specs.Found.{vars_of}
use Rattle.probe_eval.specs.Tables.{table_in}
use Rattle.access_plan.specs.declared.reach.Reach.{Reach}
use Rattle.access_plan.specs.Accesses.{is_held}
use Rattle.access_plan.specs.Laws.{AreSame}
use Rattle.access_plan.specs.Nearest.{nearest}
use Rattle.probe_eval.specs.Open.{path_apart, may_go}
use Rattle.probe_eval.specs.StepRows.{next_rows}
use Rattle.probe_eval.specs.Work.{total, until}

-- the rest of a path exists beside the rows of env: each step has a row that arrived by b, that of env if there is one, and all guards are
-- true
pub record Rest (T : Tables) (path : List Step) (b : ℤ) (env : Env) : Type 0 where
  pub final : Env
  pub same : AreSame (is_held env) env final
  pub rows : (step : Step) → In step path → (r : Row) × In r (rows_of step.table T) × (lookup step.var.0 final ≡ Some r)
      × (int_le (arrival r) b ≡ true)
  pub guards : (step : Step) → In step path → (a : Atom) → In a step.guards → true_atom a final ≡ true

-- has the step no row yet?
abbrev pub is_left : Env → Step → Bool
is_left env step = not (is_held env step.var.0)

-- how many steps have none
abbrev pub left_of : List Step → Env → ℕ
left_of path env = length (filter (is_left env) path)

-- the rows of env are rows of the tables of their steps
abbrev pub InTables : Tables → List Step → Env → Type 0
InTables T path env =
    (k : ℕ) → In k (vars_of path) → is_held env k ≡ true
    → (row : Row) × In row (rows_of (table_in path k) T) × (lookup k env ≡ Some row)

-- true if no step is left, else the result of f for the next one
abbrev pub all_or : Option Reach → (Reach → Bool) → Bool
all_or None f = true
all_or (Some r) f = f r

-- the step that is looked for next, unless the rows so far are refused
abbrev pub further : List Step → ℤ → Env → Option Reach
further path b env = if may_go path b env then nearest path env else None

-- the steps that a next one costs
abbrev pub cost_of : Option Reach → (Reach → ℕ) → ℕ
cost_of None f = 0
cost_of (Some r) f = f r

module _ (T : Tables) (path : List Step) (b : ℤ) where
  -- whether it exists, as it is looked for: the nearest row next, of at most that many
  abbrev pub rest_of : List Reach → Env → Bool
  rest_of [] env = may_go path b env && all_or (nearest path env) (λ r. false)
  rest_of (x ∷ rs) env =
      may_go path b env && all_or (nearest path env) (λ r. list_any (λ row. rest_of rs (bind r.var row env)) (next_rows T path b env r))

  -- the row decides: the rest exists beside it, or it doesn't beside any other either, since no guard names the two
  abbrev pub decides : List Reach → Env → Var → Row → Bool
  decides rs env v row = rest_of rs (bind v row env) || (may_go path b (bind v row env) && path_apart path env v)

  -- the steps that a search for the rest may take: one for each row that it walks, none after the first that decides
  abbrev pub rest_cost : List Reach → Env → ℕ
  rest_cost [] env = 0
  rest_cost (x ∷ rs) env =
      cost_of (further path b env)
      (λ r. total (λ row. 1 + rest_cost rs (bind r.var row env)) (until (decides rs env r.var) (next_rows T path b env r)))
