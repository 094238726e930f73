-- What a query gives at a second, over some seconds, and run by run. `truth` is the query's condition: whether it holds of a
-- document at a second over some tables. `start` is the first second that the query covers.
use Rattle.std.specs.Prelude.{ℕ, suc, ◌+◌, List, [], ◌∷◌, ◌++◌, Bool, ◌&&◌, ◌||◌, ◌==◌, not, nat_lt, int_le, int_lt}
use Rattle.std.specs.Prelude.{Option, Some, None, ℤ, filter, map, if◌then◌else◌}
use Rattle.std.specs.List.{filter_map}
use Rattle.tap_rows.specs.declared.tables.Tables.{Tables}
use Rattle.tap_rows.specs.declared.rows.Doc.{Doc}
use Rattle.tap_rows.specs.declared.rows.RunRow.{RunRow}
use Rattle.tap_rows.specs.declared.results.Hit.{Hit}
use Rattle.tap_rows.specs.declared.results.Entry.{Entry}
use Rattle.tap_rows.specs.Seconds.{least_second}

-- a condition: whether it holds of a document at a second over some tables
abbrev pub Truth : Type 0
Truth = Tables → Doc → ℤ → Bool

-- the tables as they are seen at a second: the documents and notes that had arrived by then, and all other rows
abbrev pub visible : Tables → ℤ → Tables
visible tables s = record tables {
  docs = filter (λ doc. int_le doc.arrival s) tables.docs;
  notes = filter (λ note. int_le note.arrival s) tables.notes;
}

-- has the document arrived by this second, and does the condition hold of it then?
abbrev pub is_given : Truth → Tables → Doc → ℤ → Bool
is_given truth tables doc s = int_le doc.arrival s && truth tables doc s

-- the documents that are given at a second, in order of numbers: those that had arrived by then and for which the condition holds
-- then
abbrev pub snapshot : Truth → Tables → ℤ → List Doc
snapshot truth tables s = filter (λ doc. is_given truth tables doc s) tables.docs

-- the least second, from the start on and below t, at which the document is given (found by trying the seconds upward)
abbrev pub first_second : Truth → Tables → Doc → ℤ → ℤ → Option ℤ
first_second truth tables doc a t = least_second (is_given truth tables doc) a t

-- is the hit x before the hit y, by first second and then by number?
abbrev pub is_before : Hit → Hit → Bool
is_before x y = int_lt x.first y.first || (not (int_lt y.first x.first) && nat_lt x.doc.0 y.doc.0)

-- the hits in order, with one more at its place
abbrev pub put_in : Hit → List Hit → List Hit
put_in hit [] = hit ∷ []
put_in hit (other ∷ hits) = if is_before hit other then hit ∷ other ∷ hits else other ∷ put_in hit hits

-- the hits in order of first second, then of number
abbrev pub hits_in_order : List Hit → List Hit
hits_in_order [] = []
hits_in_order (hit ∷ hits) = put_in hit (hits_in_order hits)

-- a document with its second, if it has one
abbrev pub hit_of : Doc → Option ℤ → Option Hit
hit_of doc None = None
hit_of doc (Some second) = Some (record { doc = doc.num; first = second })

-- the documents that have a second, each with it, in order of that second, then of number
abbrev pub hits_by : (Doc → Option ℤ) → List Doc → List Hit
hits_by second docs = hits_in_order (filter_map (λ doc. hit_of doc (second doc)) docs)

-- a second, if it is not below tau
abbrev pub at_least : ℤ → Option ℤ → Option ℤ
at_least tau None = None
at_least tau (Some second) = if int_le tau second then Some second else None

-- the documents whose first second is tau or later and below t, in order of that second, then of number
abbrev pub fresh_in : Truth → Tables → ℤ → ℤ → ℤ → List Hit
fresh_in truth tables start tau t = hits_by (λ doc. at_least tau (first_second truth tables doc start t)) tables.docs

-- all documents that were given at some second from the start on and below t, each with the first of these
abbrev pub union_until : Truth → Tables → ℤ → ℤ → List Hit
union_until truth tables start t = fresh_in truth tables start start t

-- the runs of a query, in order
abbrev pub runs_of : ℕ → List RunRow → List RunRow
runs_of query runs = filter (λ run. run.query.0 == query) runs

-- the moments of a query's runs, in order
abbrev pub run_moments : ℕ → List RunRow → List ℤ
run_moments query runs = map (λ run. run.moment) (runs_of query runs)

-- the last of some moments, or this second if there is none
abbrev pub last_or : ℤ → List ℤ → ℤ
last_or second [] = second
last_or second (m ∷ ms) = last_or m ms

-- the second up to which a query has been run: its last run's moment, or its start if it has no run
abbrev pub covered : ℤ → ℕ → List RunRow → ℤ
covered start query runs = last_or start (run_moments query runs)

-- the ordinal, from 1, of the first run whose moment is above a second; if there is none, that of the next run
abbrev pub run_of : ℤ → List ℤ → ℕ
run_of second [] = 1
run_of second (m ∷ ms) = if int_lt second m then 1 else suc (run_of second ms)

-- a hit as an entry of a run
abbrev pub entry_at : ℕ → Hit → Entry
entry_at run hit = record { doc = hit.doc; first = hit.first; run = run }

-- the entries of one run
abbrev pub entries_of : List ℤ → List Hit → ℕ → List Entry
entries_of moments hits run = map (entry_at run) (filter (λ hit. run_of hit.first moments == run) hits)

-- the entries of the runs from the ordinal `run` on, one run for each moment that is left
abbrev pub entries_from : List ℤ → List Hit → ℕ → List ℤ → List Entry
entries_from moments hits run [] = []
entries_from moments hits run (m ∷ ms) = entries_of moments hits run ++ entries_from moments hits (run + 1) ms

-- the box of a query: for each of its runs, the documents whose first second is before its moment and before that of no earlier run
abbrev pub box_of : Truth → Tables → ℤ → ℕ → List Entry
box_of truth tables start query =
    entries_from (run_moments query tables.runs) (union_until truth tables start (covered start query tables.runs)) 1
    (run_moments query tables.runs)
