-- Queries, and a user's query of a name.
use Rattle.std.specs.Prelude.{ℕ, List, Option, ℤ, pos, find, filter, Result, Ok, Err, if◌then◌else◌}
use Rattle.std.specs.Str.{bytes_eq}
use Rattle.tap_rows.specs.declared.tables.Tables.{Tables}
use Rattle.tap_rows.specs.declared.rows.QueryRow.{QueryRow}
use Rattle.tap_rows.specs.declared.results.Hit.{Hit}
use Rattle.tap_rows.specs.declared.results.Entry.{Entry}
use Rattle.tap_rows.specs.WellFormed.{is_query_of}
use Rattle.tap_rows.specs.Results.{Truth, box_of}
use Rattle.tap_rows.specs.Deliveries.{run_hits}
use Rattle.tql_core.specs.Condition.{Condition, Never}
use Rattle.tql_core.specs.Holds as Holds
use Rattle.tql_text.specs.declared.fault.TextFault.{TextFault}
use Rattle.tql_text.specs.Texts.{condition_of}
use Rattle.time_marks.specs.Probes.{Probe}
use Rattle.time_marks.specs.Distinct.{distinct_probes}
use Rattle.monotone_rewrite.specs.Query.{window}
use Rattle.delta_rewrite.specs.Delta.{delta_window}
use Rattle.incremental_rewrite.specs.Lines.{explain_lines}
use Rattle.query_form.specs.Form.{form_of}
use Rattle.restart_core.specs.Starts.{is_from_now, condition_text}

-- the condition of a reading; one with a fault has a condition that never holds
abbrev pub or_never : Result Condition TextFault → Condition
or_never (Err fault) = Never
or_never (Ok condition) = condition

-- the condition of a text; of one that is no query, a condition that never holds
unfoldable pub condition_in : List ℕ → Condition
condition_in text = or_never (condition_of text)

-- the condition of a query: that of the text in its source
abbrev pub condition_by : QueryRow → Condition
condition_by query = condition_in (condition_text query.source)

-- a query's truth: that of its condition
abbrev pub query_truth : QueryRow → Truth
query_truth query = Holds.truth_of (condition_by query)

-- the first second that a query covers: its arrival if it is from now, else 0
unfoldable pub start_of : QueryRow → ℤ
start_of query = if is_from_now query.source then query.arrival else pos 0

-- the probes by which a condition is evaluated from a start on: the delta window of its form, without repeats
abbrev pub probes_from : Condition → ℤ → List Probe
probes_from c start = distinct_probes (delta_window (form_of c) start)

-- the probes by which a query runs
abbrev pub probes_of_query : QueryRow → List Probe
probes_of_query query = probes_from (condition_by query) (start_of query)

-- the probes of a query as it is written, which `explain` shows: the window query of its condition, without repeats
abbrev pub written_in : QueryRow → List Probe
written_in query = distinct_probes (window (condition_by query) (start_of query))

-- the lines that explain a query
abbrev pub lines_of : QueryRow → List (List ℕ)
lines_of query = explain_lines (written_in query)

-- the user's queries, in order
abbrev pub owned_queries : List ℕ → Tables → List QueryRow
owned_queries user tables = filter (λ query. bytes_eq query.owner user) tables.queries

-- the user's query of this name
abbrev pub query_named : List ℕ → List ℕ → Tables → Option QueryRow
query_named owner name tables = find (is_query_of owner name) tables.queries

-- what a run of the query at this moment delivers
abbrev pub hits_of : QueryRow → Tables → ℤ → List Hit
hits_of query tables moment = run_hits (query_truth query) (start_of query) tables query.num.0 moment

-- the box of the query, computed from the rows and the moments of its runs
abbrev pub box_of_query : QueryRow → Tables → List Entry
box_of_query query tables = box_of (query_truth query) tables (start_of query) query.num.0
