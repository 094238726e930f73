-- The first damaged row of the tables, and why it is damaged. The tables are checked in order, each from its first row on.
-- WellFormed of tap_rows defines what a row must be; here each part of that is a reason. Texts of filters are not read.
use Rattle.std.specs.Prelude.{ℕ, ◌+◌, ℤ, pos, List, [], ◌∷◌, ◌++◌, length, Bool, true, false, not, ◌&&◌, ◌==◌, nat_le, int_le}
use Rattle.std.specs.Prelude.{int_lt, Option, Some, None, Result, Ok, Err, if◌then◌else◌}
use Rattle.std.specs.List.{list_any}
use Rattle.std.specs.Option.{option_or}
use Rattle.tap_base.specs.Names.{is_name}
use Rattle.tap_rows.specs.declared.tables.Tables.{Tables}
use Rattle.tap_rows.specs.declared.rows.Doc.{Doc}
use Rattle.tap_rows.specs.declared.rows.Note.{Note}
use Rattle.tap_rows.specs.declared.rows.QueryRow.{QueryRow}
use Rattle.tap_rows.specs.declared.rows.RunRow.{RunRow}
use Rattle.tap_rows.specs.declared.rows.Pick.{Pick}
use Rattle.tap_rows.specs.declared.rows.FilterRow.{FilterRow}
use Rattle.tap_rows.specs.WellFormed.{may_follow, row_at, has_arrived, is_query_of, was_defined, comes_after}
use Rattle.tql_core.specs.Condition.{Condition}
use Rattle.tql_text.specs.declared.fault.TextFault.{TextFault}
use Rattle.tql_text.specs.Texts.{condition_of}
use Rattle.restart_core.specs.Starts.{condition_text}
use Rattle.restart_core.specs.declared.fault.TableName.{TableName}
use Rattle.restart_core.specs.declared.fault.TableName.TheVariants.{Docs, Notes, Queries, Runs, Picks, Filters}
use Rattle.restart_core.specs.declared.fault.Why.{Why}
use Rattle.restart_core.specs.declared.fault.Why.TheVariants.{Number, Moment, Reference, Name, Twice, Text, Second, Order}
use Rattle.restart_core.specs.declared.fault.RestartFault.{RestartFault}
use Rattle.restart_core.specs.declared.fault.RestartFault.TheVariants.{Damaged}

-- a reason, unless this holds
abbrev pub damaged_unless : Bool → Why → Option Why
damaged_unless holds why = if holds then None else Some why

-- the first of some reasons
abbrev pub first_reason : List (Option Why) → Option Why
first_reason [] = None
first_reason (None ∷ reasons) = first_reason reasons
first_reason (Some why ∷ reasons) = Some why

-- a row's place, or 0 if it is above the greatest number of 32 bits
abbrev pub damaged_number : ℕ → ℕ
damaged_number place = if nat_le place 4294967295 then place else 0

-- the damage of the row at this place, for this reason
abbrev pub row_damage : TableName → ℕ → Option Why → Option RestartFault
row_damage table place None = None
row_damage table place (Some why) = Some (Damaged table (damaged_number place) why)

-- is the reading a condition?
abbrev pub is_condition : Result Condition TextFault → Bool
is_condition (Ok condition) = true
is_condition (Err fault) = false

-- can a query's source be read as a condition?
abbrev pub is_readable : QueryRow → Bool
is_readable query = is_condition (condition_of (condition_text query.source))

-- why a document can't stand at its place: the first of its reasons, of number, moment, reference, name, twice, text, second,
-- order
abbrev pub doc_reason : ℕ → ℤ → Doc → Option Why
doc_reason place low doc =
    first_reason (
    damaged_unless (doc.num.0 == place) Number
    ∷ damaged_unless (may_follow low doc.arrival) Moment
    ∷ damaged_unless (nat_le (length doc.text) 1048576) Text
    ∷ [])

-- why a note can't stand at its place, by the same reasons
abbrev pub note_reason : List Doc → ℕ → ℤ → Note → Option Why
note_reason docs place low note =
    first_reason (
    damaged_unless (note.num.0 == place) Number
    ∷ damaged_unless (may_follow low note.arrival) Moment
    ∷ damaged_unless (has_arrived docs note.doc.0 note.arrival) Reference
    ∷ damaged_unless (is_name note.author && is_name note.kind) Name
    ∷ [])

-- why a query by itself is damaged, its text aside
abbrev pub own_reason : ℕ → ℤ → QueryRow → Option Why
own_reason place low query =
    first_reason (
    damaged_unless (query.num.0 == place) Number
    ∷ damaged_unless (may_follow low query.arrival) Moment
    ∷ damaged_unless (is_name query.owner && is_name query.name) Name
    ∷ [])

-- why a query can't stand at its place, by the same reasons
abbrev pub query_reason : List QueryRow → ℕ → ℤ → QueryRow → Option Why
query_reason earlier place low query =
    first_reason (
    own_reason place low query
    ∷ damaged_unless (not (list_any (is_query_of query.owner query.name) earlier)) Twice
    ∷ damaged_unless (is_readable query) Text
    ∷ [])

-- why a run can't stand at its place, by the same reasons
abbrev pub run_reason : List QueryRow → ℕ → ℤ → RunRow → Option Why
run_reason queries place low run =
    first_reason (
    damaged_unless (run.num == place) Number
    ∷ damaged_unless (may_follow low run.moment) Moment
    ∷ damaged_unless (was_defined queries run.query.0 run.moment) Reference
    ∷ [])

-- do the pick's run and document exist, and is the run one of its query?
abbrev pub refers : Pick → Option RunRow → Option Doc → Bool
refers pick (Some run) (Some doc) = run.query.0 == pick.query.0
refers pick (Some run) None = false
refers pick None doc = false

-- does its first second lie from the document's arrival on and below the run's moment?
abbrev pub is_second_possible : Pick → Option RunRow → Option Doc → Bool
is_second_possible pick (Some run) (Some doc) = int_lt pick.first run.moment && int_le doc.arrival pick.first
is_second_possible pick (Some run) None = false
is_second_possible pick None doc = false

-- is the other a pick of the same document for the same query?
abbrev pub is_same_pick : Pick → Pick → Bool
is_same_pick pick other = (other.query.0 == pick.query.0) && (other.doc.0 == pick.doc.0)

-- why a pick can't stand at its place, by the same reasons
abbrev pub pick_reason : List RunRow → List Doc → List Pick → ℕ → Option Pick → Pick → Option Why
pick_reason runs docs earlier place before pick =
    first_reason (
    damaged_unless (pick.num == place) Number
    ∷ damaged_unless (refers pick (row_at pick.run runs) (row_at pick.doc.0 docs)) Reference
    ∷ damaged_unless (not (list_any (is_same_pick pick) earlier)) Twice
    ∷ damaged_unless (is_second_possible pick (row_at pick.run runs) (row_at pick.doc.0 docs)) Second
    ∷ damaged_unless (comes_after before pick) Order
    ∷ [])

-- why a filter can't stand at its place, by the same reasons
abbrev pub filter_reason : ℕ → ℤ → FilterRow → Option Why
filter_reason place low filter =
    first_reason (
    damaged_unless (filter.num == place) Number
    ∷ damaged_unless (may_follow low filter.arrival) Moment
    ∷ damaged_unless (is_name filter.owner) Name
    ∷ [])

-- the first damaged document, with its place and reason
abbrev pub docs_damage : ℕ → ℤ → List Doc → Option RestartFault
docs_damage place low [] = None
docs_damage place low (doc ∷ docs) =
    option_or (row_damage Docs place (doc_reason place low doc)) (docs_damage (place + 1) doc.arrival docs)

-- the first damaged note, with its place and reason
abbrev pub notes_damage : List Doc → ℕ → ℤ → List Note → Option RestartFault
notes_damage docs place low [] = None
notes_damage docs place low (note ∷ notes) =
    option_or (row_damage Notes place (note_reason docs place low note)) (notes_damage docs (place + 1) note.arrival notes)

-- the first damaged query, with its place and reason
abbrev pub queries_damage : List QueryRow → ℕ → ℤ → List QueryRow → Option RestartFault
queries_damage earlier place low [] = None
queries_damage earlier place low (query ∷ queries) =
    option_or (row_damage Queries place (query_reason earlier place low query))
    (queries_damage (earlier ++ query ∷ []) (place + 1) query.arrival queries)

-- the first damaged run, with its place and reason
abbrev pub runs_damage : List QueryRow → ℕ → ℤ → List RunRow → Option RestartFault
runs_damage queries place low [] = None
runs_damage queries place low (run ∷ runs) =
    option_or (row_damage Runs place (run_reason queries place low run)) (runs_damage queries (place + 1) run.moment runs)

-- the first damaged pick, with its place and reason
abbrev pub picks_damage : List RunRow → List Doc → List Pick → ℕ → Option Pick → List Pick → Option RestartFault
picks_damage runs docs earlier place before [] = None
picks_damage runs docs earlier place before (pick ∷ picks) =
    option_or (row_damage Picks place (pick_reason runs docs earlier place before pick))
    (picks_damage runs docs (earlier ++ pick ∷ []) (place + 1) (Some pick) picks)

-- the first damaged filter, with its place and reason
abbrev pub filters_damage : ℕ → ℤ → List FilterRow → Option RestartFault
filters_damage place low [] = None
filters_damage place low (filter ∷ filters) =
    option_or (row_damage Filters place (filter_reason place low filter)) (filters_damage (place + 1) filter.arrival filters)

-- the first damaged run, pick or filter
abbrev pub later_damage : Tables → Option RestartFault
later_damage tables =
    option_or (runs_damage tables.queries 1 (pos 0) tables.runs)
    (option_or (picks_damage tables.runs tables.docs [] 1 None tables.picks)
    (filters_damage 1 (pos 0) tables.filters))

-- the first damaged row of all tables, in the order documents, notes, queries, runs, picks, filters; texts of filters are not
-- read
unfoldable pub damage_of : Tables → Option RestartFault
damage_of tables =
    option_or (docs_damage 1 (pos 0) tables.docs)
    (option_or (notes_damage tables.docs 1 (pos 0) tables.notes)
    (option_or (queries_damage [] 1 (pos 0) tables.queries)
    (later_damage tables)))
