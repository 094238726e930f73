-- Rows that stand in order: each row's number is its place, its moment is not below the one before, and it refers to rows
-- that are there. The texts of queries and filters are not looked at here.
use Rattle.std.specs.Prelude.{ℕ, ◌+◌, ◌-◌, ℤ, pos, List, [], ◌∷◌, ◌++◌, length, Bool, true, false, not, ◌&&◌, ◌||◌, ◌==◌}
use Rattle.std.specs.Prelude.{nat_le, nat_lt, int_le, int_lt, Option, Some, None, slice_get, if◌then◌else◌}
use Rattle.std.specs.List.{list_any}
use Rattle.std.specs.Str.{bytes_eq}
use Rattle.tap_base.specs.Names.{is_name}
use Rattle.tap_base.specs.declared.moments.TheConstants.{LAST_MOMENT}
use Rattle.tap_rows.specs.declared.tables.Tables.{Tables}
use Rattle.tap_rows.specs.declared.tables.TheConstants.{MESSAGE_LIMIT}
use Rattle.tap_rows.specs.declared.rows.Doc.{Doc}
use Rattle.tap_rows.specs.declared.rows.Note.{Note}
use Rattle.tap_rows.specs.declared.rows.QueryRow.{QueryRow}
use Rattle.tap_rows.specs.declared.rows.RunRow.{RunRow}
use Rattle.tap_rows.specs.declared.rows.Pick.{Pick}
use Rattle.tap_rows.specs.declared.rows.FilterRow.{FilterRow}

-- may a row of this moment follow one of the moment `low`?
abbrev pub may_follow : ℤ → ℤ → Bool
may_follow low moment = int_le low moment && int_le moment (pos LAST_MOMENT)

-- the row of a number: the one at its place, counted from 1
abbrev pub row_at : {A : Type 0} → ℕ → List A → Option A
row_at num rows = if num == 0 then None else slice_get rows (num - 1)

-- is there a row, and does it pass the test?
abbrev pub is_row : {A : Type 0} → (A → Bool) → Option A → Bool
is_row test None = false
is_row test (Some row) = test row

-- a document: its place, its arrival, its length
abbrev pub doc_stands : ℕ → ℤ → Doc → Bool
doc_stands place low doc = (doc.num.0 == place) && may_follow low doc.arrival && nat_le (length doc.text) MESSAGE_LIMIT

-- the documents from this place on, behind a moment `low`
abbrev pub docs_stand : ℕ → ℤ → List Doc → Bool
docs_stand place low [] = true
docs_stand place low (doc ∷ docs) = doc_stands place low doc && docs_stand (place + 1) doc.arrival docs

-- the document of this number had arrived by this moment
abbrev pub has_arrived : List Doc → ℕ → ℤ → Bool
has_arrived docs num moment = is_row (λ doc. int_le doc.arrival moment) (row_at num docs)

-- a note: its place, its arrival, its document, and the names of its author and its kind
abbrev pub note_stands : List Doc → ℕ → ℤ → Note → Bool
note_stands docs place low note =
    (note.num.0 == place) && may_follow low note.arrival && has_arrived docs note.doc.0 note.arrival && is_name note.author
    && is_name note.kind

-- the notes from this place on, behind a moment `low`
abbrev pub notes_stand : List Doc → ℕ → ℤ → List Note → Bool
notes_stand docs place low [] = true
notes_stand docs place low (note ∷ notes) = note_stands docs place low note && notes_stand docs (place + 1) note.arrival notes

-- is it this user's query of this name?
abbrev pub is_query_of : List ℕ → List ℕ → QueryRow → Bool
is_query_of owner name query = bytes_eq query.owner owner && bytes_eq query.name name

-- a query: its place, its arrival, its names, and that no earlier one has its owner and its name
abbrev pub query_stands : List QueryRow → ℕ → ℤ → QueryRow → Bool
query_stands earlier place low query =
    (query.num.0 == place) && may_follow low query.arrival && is_name query.owner && is_name query.name
    && not (list_any (is_query_of query.owner query.name) earlier)

-- the queries from this place on, behind the earlier ones and a moment `low`
abbrev pub queries_stand : List QueryRow → ℕ → ℤ → List QueryRow → Bool
queries_stand earlier place low [] = true
queries_stand earlier place low (query ∷ queries) =
    query_stands earlier place low query && queries_stand (earlier ++ query ∷ []) (place + 1) query.arrival queries

-- the query of this number had arrived by this moment
abbrev pub was_defined : List QueryRow → ℕ → ℤ → Bool
was_defined queries num moment = is_row (λ query. int_le query.arrival moment) (row_at num queries)

-- a run: its place, its moment, its query
abbrev pub run_stands : List QueryRow → ℕ → ℤ → RunRow → Bool
run_stands queries place low run = (run.num == place) && may_follow low run.moment && was_defined queries run.query.0 run.moment

-- the runs from this place on, behind a moment `low`
abbrev pub runs_stand : List QueryRow → ℕ → ℤ → List RunRow → Bool
runs_stand queries place low [] = true
runs_stand queries place low (run ∷ runs) = run_stands queries place low run && runs_stand queries (place + 1) run.moment runs

-- a pick's run is its query's, and its first second lies from the document's arrival on and below the run's moment
abbrev pub is_picked : Pick → Option RunRow → Option Doc → Bool
is_picked pick (Some run) (Some doc) = (run.query.0 == pick.query.0) && int_lt pick.first run.moment && int_le doc.arrival pick.first
is_picked pick None doc = false
is_picked pick (Some run) None = false

-- does the pick come after the one before, by run, first second and document?
abbrev pub comes_after : Option Pick → Pick → Bool
comes_after None pick = true
comes_after (Some before) pick =
    nat_lt before.run pick.run
    || ((before.run == pick.run) && (int_lt before.first pick.first || (int_le before.first pick.first && nat_lt before.doc.0 pick.doc.0)))

-- do both picks pick the same document for the same query?
abbrev pub picks_same : Pick → Pick → Bool
picks_same pick other = (other.query.0 == pick.query.0) && (other.doc.0 == pick.doc.0)

-- a pick: its place, what it refers to, that its query picks the document for the first time, and its order
abbrev pub pick_stands : List RunRow → List Doc → List Pick → ℕ → Option Pick → Pick → Bool
pick_stands runs docs earlier place before pick =
    (pick.num == place) && is_picked pick (row_at pick.run runs) (row_at pick.doc.0 docs)
    && not (list_any (picks_same pick) earlier) && comes_after before pick

-- the picks from this place on, behind the earlier ones
abbrev pub picks_stand : List RunRow → List Doc → List Pick → ℕ → Option Pick → List Pick → Bool
picks_stand runs docs earlier place before [] = true
picks_stand runs docs earlier place before (pick ∷ picks) =
    pick_stands runs docs earlier place before pick && picks_stand runs docs (earlier ++ pick ∷ []) (place + 1) (Some pick) picks

-- a filter: its place, its arrival, its owner's name
abbrev pub filter_stands : ℕ → ℤ → FilterRow → Bool
filter_stands place low filter = (filter.num == place) && may_follow low filter.arrival && is_name filter.owner

-- the filters from this place on, behind a moment `low`
abbrev pub filters_stand : ℕ → ℤ → List FilterRow → Bool
filters_stand place low [] = true
filters_stand place low (filter ∷ filters) = filter_stands place low filter && filters_stand (place + 1) filter.arrival filters

-- each row has its place as its number, a moment from 0 to the last one and not below that of the row before, names that are
-- names, and references to rows that were there by then; no document is longer than a message may be; no user has two queries of
-- one name; a pick is of a run of its query, its second is from its document's arrival on and below the run's moment, no query
-- picks a document twice, and picks are in order of run, second and document
abbrev pub is_well_formed : Tables → Bool
is_well_formed tables =
    docs_stand 1 (pos 0) tables.docs && notes_stand tables.docs 1 (pos 0) tables.notes && queries_stand [] 1 (pos 0) tables.queries
    && runs_stand tables.queries 1 (pos 0) tables.runs && picks_stand tables.runs tables.docs [] 1 None tables.picks
    && filters_stand 1 (pos 0) tables.filters
