-- Whether the rows of a change stand in order behind the stored rows.
use Rattle.std.specs.Prelude.{◌+◌, ℤ, pos, List, [], ◌∷◌, ◌++◌, length, Bool, ◌&&◌, Option, Some, None}
use Rattle.tap_rows.specs.declared.tables.Tables.{Tables}
use Rattle.tap_rows.specs.declared.change.Change.{Change}
use Rattle.tap_rows.specs.declared.change.Change.TheVariants.{Docs, OneNote, OneQuery, RunDone, OneFilter}
use Rattle.tap_rows.specs.WellFormed.{row_at, docs_stand, note_stands, query_stands, run_stands, picks_stand, filter_stands}

-- the last of some rows
abbrev pub last_row : {A : Type 0} → List A → Option A
last_row rows = row_at (length rows) rows

-- the moment of a row, or 0 if there is none
abbrev pub moment_or_start : {A : Type 0} → (A → ℤ) → Option A → ℤ
moment_or_start moment None = pos 0
moment_or_start moment (Some row) = moment row

-- the moment that a further row may not be below
abbrev pub low_of : {A : Type 0} → (A → ℤ) → List A → ℤ
low_of moment rows = moment_or_start moment (last_row rows)

-- do the rows of the change stand in order behind those of the tables?
abbrev pub fits : Tables → Change → Bool
fits tables (Docs docs) = docs_stand (length tables.docs + 1) (low_of (λ doc. doc.arrival) tables.docs) docs
fits tables (OneNote note) = note_stands tables.docs (length tables.notes + 1) (low_of (λ note. note.arrival) tables.notes) note
fits tables (OneQuery query) =
    query_stands tables.queries (length tables.queries + 1) (low_of (λ query. query.arrival) tables.queries) query
fits tables (RunDone run picks) =
    run_stands tables.queries (length tables.runs + 1) (low_of (λ run. run.moment) tables.runs) run
    && picks_stand (tables.runs ++ run ∷ []) tables.docs tables.picks (length tables.picks + 1) (last_row tables.picks) picks
fits tables (OneFilter filter) = filter_stands (length tables.filters + 1) (low_of (λ filter. filter.arrival) tables.filters) filter
