-- Probes whose rows are found by an index: their bound is linear in the rows that are due.
use Rattle.std.specs.Prelude.{◌≡◌, ℕ, zero, suc, ◌+◌, ◌*◌, ◌≤◌, ℤ, true, Some, List, length}
use Rattle.tap_rows.specs.declared.tables.Tables.{Tables}
use Rattle.tap_rows.specs.declared.results.Entry.{Entry}
use Rattle.tql_core.specs.declared.term.Var.{Var}
use Rattle.tql_core.specs.Bounds.{is_bounded}
use Rattle.tql_core.specs.Values.{Env}
use Rattle.time_marks.specs.declared.mark.Step.{Step}
use Rattle.time_marks.specs.declared.window.Window.{Window}
use Rattle.time_marks.specs.Found.{IsProbe, higher}
use Rattle.time_marks.specs.Probes.{Probe}
use Rattle.time_marks.specs.Seeks.{seek_of}
use Rattle.access_plan.specs.declared.reach.Reach.{Reach}
use Rattle.access_plan.specs.Accesses.{is_held}
use Rattle.access_plan.specs.Nearest.{nearest}
use Rattle.probe_eval.specs.Drivers.{seek_var, walked, seek_cost}
use Rattle.probe_eval.specs.Rests.{InTables}
use Rattle.probe_eval.specs.StepRows.{next_rows}
use Rattle.probe_eval.specs.Work.{work}

-- beside rows of the path among which is the driver's, the next row is one of at most n that an access gives
abbrev pub HasShortAccesses : Tables → List Step → Var → ℕ → Type 0
HasShortAccesses T path driver n =
    (b : ℤ) (env : Env) (r : Reach) → InTables T path env → is_held env driver.0 ≡ true → nearest path env ≡ Some r
    → length (next_rows T path b env r) ≤ n

-- the body looks at m rows at most beside rows of the path
abbrev pub HasShortBody : Tables → Probe → ℕ → Type 0
HasShortBody T p m = (env : Env) → InTables T p.path env → work T p.body env ≤ m

-- the steps of a search for a rest of that many rows, each of which is one of at most n
abbrev pub rest_bound : ℕ → ℕ → ℕ
rest_bound n zero = 0
rest_bound n (suc k) = n * (1 + rest_bound n k)

-- the steps of the search before the rows of a level are walked, of which there is none if that many rows are left below them
abbrev pub once_bound : ℕ → ℕ → ℕ
once_bound n zero = 0
once_bound n (suc k) = rest_bound n (suc (suc k))

-- the steps beside a driving row, if that many rows are left: a search for the rest and one body, or n rows that lead on
abbrev pub path_bound : ℕ → ℕ → ℕ → ℕ
path_bound n m zero = m
path_bound n m (suc k) = higher (rest_bound n (suc k) + m) (once_bound n k + n * (1 + path_bound n m k))

-- a probe's bound is, for each driving row that is walked, at most `path_bound` steps and one more, however many rows the tables
-- have
abbrev pub ProbesByIndexAreLinear : Type 0
ProbesByIndexAreLinear =
    (entries : List Entry) (T : Tables) (w : Window) (p : Probe) (v : Var) (order : List Reach) (n m : ℕ)
    → IsProbe p → is_bounded p.at ≡ true → seek_var (seek_of p.at) ≡ Some v
    → HasShortAccesses T p.path v n → HasShortBody T p m
    → seek_cost entries T w p order (seek_of p.at) (Some v) ≤ length (walked T w p (seek_of p.at) v) * (1 + path_bound n m (length order))
