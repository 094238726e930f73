-- How many rows are marked in a window.
use Rattle.std.specs.Prelude.{ℕ, ◌+◌, List, Option, Some, None, [], length, filter, if◌then◌else◌}
use Rattle.tap_rows.specs.declared.tables.Tables.{Tables}
use Rattle.tql_core.specs.declared.term.Var.{Var}
use Rattle.tql_core.specs.Condition.{Condition, All, Either, Not, Exists}
use Rattle.tql_core.specs.Row.{rows_of}
use Rattle.tql_core.specs.Values.{bind, value}
use Rattle.time_marks.specs.declared.window.Window.{Window}
use Rattle.time_marks.specs.Probes.{Probe}
use Rattle.time_marks.specs.Seeks.{seek_of, lies_in}
use Rattle.probe_eval.specs.Drivers.{seek_var}
use Rattle.probe_eval.specs.Runs.{PathIsDocument}
use Rattle.probe_eval.specs.Tables.{table_in}
use Rattle.probe_eval.specs.Work.{total}

abbrev pub marked_by : Tables → Window → Probe → Option Var → ℕ
marked_by T w p None = if lies_in w (value p.at []) then length T.docs else 0
marked_by T w p (Some v) = length (filter (λ row. lies_in w (value p.at (bind v row []))) (rows_of (table_in p.path v.0) T))

-- how many rows of the driver's table have their mark in a window; of a fixed mark there, how many documents there are
abbrev pub marked : Tables → Window → Probe → ℕ
marked T w p = marked_by T w p (seek_var (seek_of p.at))

-- no EXISTS stands in the condition
abbrev pub HasNoExists : Condition → Type 0
HasNoExists (All l r) = HasNoExists l × HasNoExists r
HasNoExists (Either l r) = HasNoExists l × HasNoExists r
HasNoExists (Not x) = HasNoExists x
HasNoExists (Exists v t x) = ⊥
HasNoExists x = Unit {0}

-- the path is that of the document alone, and no EXISTS stands in the body
abbrev pub IsPlain : Probe → Type 0
IsPlain p = PathIsDocument p × HasNoExists p.body

-- one step more than rows are marked, for each probe
abbrev pub marked_ahead : Tables → Window → List Probe → ℕ
marked_ahead T w probes = total (λ p. marked T w p + 1) probes
