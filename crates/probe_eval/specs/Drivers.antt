-- The rows that drive a probe: those whose mark lies in the window.
use Rattle.std.specs.Prelude.{ℕ, ◌+◌, ℤ, Bool, false, Option, Some, None, List, [], map, if◌then◌else◌}
use Rattle.std.specs.List.{flat_map}
use Rattle.tap_rows.specs.declared.rows.Doc.{Doc}
use Rattle.tap_rows.specs.declared.tables.Tables.{Tables}
use Rattle.tap_rows.specs.declared.results.Hit.{Hit}
use Rattle.tap_rows.specs.declared.results.Entry.{Entry}
use Rattle.tql_tree.specs.declared.table.Table.{Table}
use Rattle.tql_tree.specs.declared.table.Table.TheVariants.{Docs, Notes}
use Rattle.tql_core.specs.declared.term.Var.{Var}
use Rattle.tql_core.specs.Row.{Row, OfDoc, OfNote}
use Rattle.tql_core.specs.Values.{Env, bind, value}
use Rattle.row_index.specs.Orders.{in_window, doc_arrival, note_arrival}
use Rattle.row_index.specs.Dates.{dated_in}
use Rattle.time_marks.specs.declared.seek.Seek.{Seek}
use Rattle.time_marks.specs.declared.seek.Seek.TheVariants.{Arrived, Dated, Fixed, ArrivedDay, DatedDay}
use Rattle.time_marks.specs.declared.window.Window.{Window}
use Rattle.time_marks.specs.Windows.{is_within}
use Rattle.time_marks.specs.Seeks.{seek_window}
use Rattle.time_marks.specs.Probes.{Probe}
use Rattle.access_plan.specs.declared.reach.Reach.{Reach}
use Rattle.probe_eval.specs.Literals.{chosen, rows_where}
use Rattle.probe_eval.specs.Tables.{table_in}
use Rattle.probe_eval.specs.Work.{total}
use Rattle.probe_eval.specs.Nested.{was_seen, hits_over, work_over}

-- the variable of the driving row, if there is one
abbrev pub seek_var : Seek → Option Var
seek_var (Arrived v n) = Some v
seek_var (Dated v n) = Some v
seek_var (Fixed moment) = None
seek_var (ArrivedDay v n) = Some v
seek_var (DatedDay v n) = Some v

-- the rows of a table that arrived in a window
abbrev pub arrived_rows : Table → Window → Tables → List Row
arrived_rows Docs w T = map OfDoc (in_window doc_arrival w.low w.high T.docs)
arrived_rows Notes w T = map OfNote (in_window note_arrival w.low w.high T.notes)

-- the rows of a table whose date lies in a window; a note has none
abbrev pub dated_rows : Table → Window → Tables → List Row
dated_rows Docs w T = map OfDoc (dated_in w.low w.high T.docs)
dated_rows Notes w T = []

-- the rows whose stored second lies in a window
abbrev pub stored_rows : Seek → Table → Window → Tables → List Row
stored_rows (Arrived v n) t w T = arrived_rows t w T
stored_rows (Dated v n) t w T = dated_rows t w T
stored_rows (Fixed moment) t w T = []
stored_rows (ArrivedDay v n) t w T = arrived_rows t w T
stored_rows (DatedDay v n) t w T = dated_rows t w T

-- the rows of the driver's table whose stored second lies in the solved window
abbrev pub driving : Tables → Window → Probe → Seek → Var → List Row
driving T w p seek v = stored_rows seek (table_in p.path v.0) (seek_window w seek) T

-- the driving rows that are walked: with a chosen guard those of which it holds, else all
abbrev pub walked : Tables → Window → Probe → Seek → Var → List Row
walked T w p seek v = rows_where v (chosen T v p.path seek (table_in p.path v.0)) (driving T w p seek v)

-- the second, if it lies in the window
abbrev pub mark_in : Window → Option ℤ → Option ℤ
mark_in w None = None
mark_in w (Some b) = if is_within w b then Some b else None

module _ (entries : List Entry) (T : Tables) (w : Window) (p : Probe) (order : List Reach) where
  abbrev pub marked_hits : Env → Option ℤ → List Hit
  marked_hits env None = []
  marked_hits env (Some b) = hits_over entries T p b order env

  -- the hits beside a driving row, if its mark lies in the window
  abbrev pub hits_at : Env → List Hit
  hits_at env = marked_hits env (mark_in w (value p.at env))

  -- the hits of a probe: at its fixed mark, or at those of all driving rows
  abbrev pub seek_hits : Seek → Option Var → List Hit
  seek_hits seek None = hits_at []
  seek_hits seek (Some v) = flat_map (λ row. hits_at (bind v row [])) (driving T w p seek v)

-- beside each driving row some documents are passed over, by its mark
module _ (passed : ℤ → Doc → Bool) (T : Tables) (w : Window) (p : Probe) (order : List Reach) where
  abbrev pub marked_cost : Env → Option ℤ → ℕ
  marked_cost env None = 0
  marked_cost env (Some b) = work_over (passed b) T p b false order env

  abbrev pub cost_at : Env → ℕ
  cost_at env = marked_cost env (mark_in w (value p.at env))

  -- the steps that this may take: the driving rows that are walked, and the work beside each
  abbrev pub passed_cost : Seek → Option Var → ℕ
  passed_cost seek None = cost_at []
  passed_cost seek (Some v) = total (λ row. 1 + cost_at (bind v row [])) (walked T w p seek v)

-- the steps that a probe may take: the documents of the box are passed over
abbrev pub seek_cost : List Entry → Tables → Window → Probe → List Reach → Seek → Option Var → ℕ
seek_cost entries T w p order seek sv = passed_cost (λ b. was_seen entries) T w p order seek sv
