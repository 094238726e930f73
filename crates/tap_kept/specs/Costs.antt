-- What a run of a query costs, and what looking for its next moment costs. A step is a row that the index hands out.
use Rattle.std.specs.Prelude.{ℕ, ◌+◌, ℤ, pos, List, [], ◌++◌, length}
use Rattle.tap_base.specs.declared.moments.TheConstants.{LAST_MOMENT}
use Rattle.tap_rows.specs.declared.tables.Tables.{Tables}
use Rattle.tap_rows.specs.declared.rows.QueryRow.{QueryRow}
use Rattle.tap_rows.specs.declared.results.Entry.{Entry}
use Rattle.tap_rows.specs.declared.results.Hit.{Hit}
use Rattle.tap_rows.specs.Kept.{In}
use Rattle.tql_core.specs.Condition.{Condition}
use Rattle.time_marks.specs.declared.window.Window.{Window}
use Rattle.time_marks.specs.Probes.{Probe}
use Rattle.time_marks.specs.Seeks.{seek_of}
use Rattle.access_plan.specs.Orders.{order_of}
use Rattle.probe_eval.specs.Drivers.{seek_var, seek_hits, seek_cost}
use Rattle.probe_eval.specs.Runs as runs
use Rattle.probe_eval.specs.Work.{total}
use Rattle.query_eval.specs.Driven.{total_in_turn, turn_cost}
use Rattle.wake_plan.specs.Marked.{IsPlain, marked_ahead}
use Rattle.wake_plan.specs.Wakes.{wake_window}
use Rattle.tap_model.specs.Asks.{window_of_second}
use Rattle.tap_model.specs.Queries.{probes_from, probes_of_query, written_in}
use Rattle.tap_kept.specs.declared.cached_query.CachedQuery.{CachedQuery}
use Rattle.tap_kept.specs.Keeping.{hits_since}

-- no probe of the query as it is written has a mark in the window
abbrev pub NoProbeHasMark : Tables → Window → QueryRow → Type 0
NoProbeHasMark rows w query = (p : Probe) → In p (written_in query) → runs.HasNoMark rows w p

-- the path of each probe of the query is the document alone
abbrev pub AreAlone : QueryRow → Type 0
AreAlone query = (p : Probe) → In p (probes_of_query query) → runs.PathIsDocument p

-- for each probe of the query a step for each document whose mark lies in the window, and the work of the body there
abbrev pub query_rows_due : Tables → Window → QueryRow → ℕ
query_rows_due rows w query = total (runs.rows_due rows w) (probes_of_query query)

-- the window of a query's next run, by what is in memory: from the second that it has covered up to a moment
abbrev pub window_since : CachedQuery → ℤ → Window
window_since kept moment = record { low = kept.covered; high = moment }

module _ (entries : List Entry) (rows : Tables) (w : Window) where
  -- the steps that a probe may take in a window on its own: its driving rows there, and what is looked at beside each for documents
  -- that aren't in the box
  abbrev pub probe_work : Probe → ℕ
  probe_work p = seek_cost entries rows w p (order_of p.path p.at.base) (seek_of p.at) (seek_var (seek_of p.at))

  -- those of the query's probes, each on its own
  abbrev pub apart_work : QueryRow → ℕ
  apart_work query = total probe_work (probes_of_query query)

  -- the hits of a probe
  abbrev pub probe_hits : Probe → List Hit
  probe_hits p = seek_hits entries rows w p (order_of p.path p.at.base) (seek_of p.at) (seek_var (seek_of p.at))

  -- the steps of a probe after these hits were found
  abbrev pub probe_turn : List Hit → Probe → ℕ
  probe_turn found p =
      turn_cost (λ found hits. found ++ hits) entries rows w p (order_of p.path p.at.base) found (seek_of p.at) (seek_var (seek_of p.at))

  -- the steps of probes, one after the other: documents that are in the box, or were found before with a mark that is no later,
  -- are passed over
  abbrev pub probes_work : List Probe → ℕ
  probes_work probes = total_in_turn (λ found hits. found ++ hits) probe_turn probe_hits [] probes

  -- the steps that a run of the query may take in a window
  abbrev pub query_work : QueryRow → ℕ
  query_work query = probes_work (probes_of_query query)

-- from the second that the query has covered up to and with the least mark at which a run would deliver
abbrev pub window_ahead : CachedQuery → Tables → Window
window_ahead kept rows = wake_window kept.covered (hits_since kept rows (pos LAST_MOMENT))

-- the steps up to and with the least mark at which a run would deliver, and one for each probe
abbrev pub work_ahead : CachedQuery → Tables → ℕ
work_ahead kept rows = length (probes_of_query kept.row) + apart_work kept.entries rows (window_ahead kept rows) kept.row

-- the path of each probe of the query is the document alone, and no EXISTS stands in its body
abbrev pub ArePlain : QueryRow → Type 0
ArePlain query = (p : Probe) → In p (probes_of_query query) → IsPlain p

-- the rows marked up to that mark, and one for each probe
abbrev pub marks_ahead : CachedQuery → Tables → ℕ
marks_ahead kept rows = marked_ahead rows (window_ahead kept rows) (probes_of_query kept.row)

-- the steps that a question may take: those of a run of its second
abbrev pub ask_work : Tables → Condition → ℤ → ℕ
ask_work rows c second = probes_work [] rows (window_of_second second) (probes_from c second)
