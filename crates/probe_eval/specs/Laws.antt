-- The laws of what probes find, as contracts name them.
use Rattle.std.specs.Prelude.{◌≡◌, ◌↔◌, ◌≤◌, ℤ, true, Some, List, [], length}
use Rattle.std.specs.List.{flat_map}
use Rattle.tap_rows.specs.declared.tables.Tables.{Tables}
use Rattle.tap_rows.specs.Kept.{In}
use Rattle.tql_core.specs.declared.term.Var.{Var}
use Rattle.tql_core.specs.Bounds.{is_bounded}
use Rattle.tql_core.specs.Row.{Row, rows_of}
use Rattle.tql_core.specs.Scope.{AtomIn}
use Rattle.tql_core.specs.Values.{Env, bind, value}
use Rattle.time_marks.specs.declared.window.Window.{Window}
use Rattle.time_marks.specs.Seeks.{seek_of, lies_in}
use Rattle.time_marks.specs.declared.seek.Seek.{Seek}
use Rattle.time_marks.specs.declared.ranged_query.RangedQuery.{RangedQuery}
use Rattle.time_marks.specs.Probes.{Probe}
use Rattle.time_marks.specs.Views.{ranged_probes}
use Rattle.tap_rows.specs.declared.results.Entry.{Entry}
use Rattle.probe_eval.specs.Found.{AreFound}
use Rattle.probe_eval.specs.Drivers.{seek_var, driving, walked, hits_at, seek_hits}
use Rattle.probe_eval.specs.Tables.{table_in}
use Rattle.probe_eval.specs.Listed.{goes_by_list, listed_hits}
use Rattle.probe_eval.specs.Nested.{was_seen}
use Rattle.probe_eval.specs.Open.{path_apart, may_go}
use Rattle.probe_eval.specs.Rests.{Rest, left_of, InTables, rest_of}
use Rattle.tql_core.specs.declared.atom.Atom.{Atom}
use Rattle.time_marks.specs.declared.mark.Step.{Step}
use Rattle.time_marks.specs.Found.{vars_of, Distinct}
use Rattle.time_marks.specs.Probes.{come_by}
use Rattle.access_plan.specs.declared.reach.Reach.{Reach}
use Rattle.probe_eval.specs.Runs.{HasValidProbes, query_hits}

-- a driving row of a probe is a row of its table whose mark lies in the window, and each such row is one
abbrev pub DrivingRowsAreMarked : Type 0
DrivingRowsAreMarked =
    (T : Tables) (w : Window) (p : Probe) (v : Var) (row : Row) → is_bounded p.at ≡ true → seek_var (seek_of p.at) ≡ Some v
    → (In row (driving T w p (seek_of p.at) v)
    ↔ (In row (rows_of (table_in p.path v.0) T) × (lies_in w (value p.at (bind v row [])) ≡ true)))

-- the driving rows that are walked lead to the hits of all driving rows
abbrev pub WalkedRowsAreEnough : Type 0
WalkedRowsAreEnough =
    (entries : List Entry) (T : Tables) (w : Window) (p : Probe) (order : List Reach) (seek : Seek) (v : Var)
    → flat_map (λ row. hits_at entries T w p order (bind v row [])) (walked T w p seek v) ≡ seek_hits entries T w p order seek (Some v)

-- walks from each driving row over the rows that accesses give find what the probes find
abbrev pub WalksFindWhatProbesFind : Type 0
WalksFindWhatProbesFind =
    (q : RangedQuery) → HasValidProbes q → (entries : List Entry) (T : Tables) (w : Window)
    → AreFound (was_seen entries) (ranged_probes q) T w (query_hits entries T w q)

-- the search for the rest of a path finds it if and only if it exists, beside rows of its tables that have arrived by the mark
abbrev pub RestsAreFound : Type 0
RestsAreFound =
    (T : Tables) (path : List Step) (b : ℤ) (order : List Reach) (env : Env) → Distinct (vars_of path)
    → ((step : Step) → In step path → (a : Atom) → In a step.guards → AtomIn (vars_of path) a)
    → InTables T path env → come_by b env ≡ true → left_of path env ≤ length order
    → ((rest_of T path b order env ≡ true) ↔ Rest T path b env)

-- if no guard names v and another variable that has no row yet, the rest exists beside all rows of v that may go on, or beside none
abbrev pub RestsAreAlike : Type 0
RestsAreAlike =
    (T : Tables) (path : List Step) (b : ℤ) (order : List Reach) (env : Env) (v : Var) (row other : Row) → path_apart path env v ≡ true
    → may_go path b (bind v row env) ≡ true → may_go path b (bind v other env) ≡ true
    → rest_of T path b order (bind v row env) ≡ rest_of T path b order (bind v other env)

-- a probe that goes by a posting list finds each row that is walked, at each mark that isn't before it
abbrev pub ListsNeedNoTest : Type 0
ListsNeedNoTest =
    (entries : List Entry) (T : Tables) (w : Window) (p : Probe) (order : List Reach) (seek : Seek) (v : Var) → goes_by_list p seek v ≡ true
    → flat_map (λ row. hits_at entries T w p order (bind v row [])) (walked T w p seek v)
    ≡ flat_map (listed_hits entries w p v) (walked T w p seek v)
