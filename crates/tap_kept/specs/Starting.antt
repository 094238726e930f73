-- What an engine makes of stored tables when it starts.
use Rattle.std.specs.Prelude.{ℕ, ℤ, ◌≡◌, ◌+◌, ◌≤◌, ◌≤ℤ◌, List, [], ◌∷◌, ◌++◌, length, map}
use Rattle.std.specs.Prelude.{Bool, false, Option, Some, None, is_some, if◌then◌else◌}
use Rattle.std.specs.List.{list_any}
use Rattle.tap_rows.specs.declared.tables.Tables.{Tables}
use Rattle.tap_rows.specs.declared.rows.Note.{Note}
use Rattle.tap_rows.specs.declared.rows.QueryRow.{QueryRow}
use Rattle.tap_rows.specs.declared.rows.RunRow.{RunRow}
use Rattle.tap_rows.specs.declared.rows.Pick.{Pick}
use Rattle.tap_rows.specs.declared.rows.FilterRow.{FilterRow}
use Rattle.tap_rows.specs.declared.results.Entry.{Entry}
use Rattle.tap_rows.specs.Tables.{no_rows}
use Rattle.tap_rows.specs.Deliveries.{run_ordinal}
use Rattle.tap_rows.specs.Kept.{Each}
use Rattle.tap_model.specs.Sessions.{later_of}
use Rattle.tap_model.specs.Verdicts.{filter_fault}
use Rattle.tap_kept.specs.declared.cached_query.CachedQuery.{CachedQuery}
use Rattle.tap_kept.specs.declared.sums.Sums.{Sums}
use Rattle.tap_rows.specs.WellFormed.{picks_same}
use Rattle.tap_base.specs.Numbers.{IsMoment}

-- whether the filter's text has a fault
abbrev pub is_unread : FilterRow → Bool
is_unread filter = is_some (filter_fault filter.source)

-- the number of the first filter whose text has a fault
abbrev pub first_unread : List FilterRow → Option ℕ
first_unread [] = None
first_unread (filter ∷ filters) = if is_unread filter then Some filter.num else first_unread filters

-- the rows of queries in memory
abbrev pub rows_in : List CachedQuery → List QueryRow
rows_in queries = map (λ kept. kept.row) queries

-- tables of these runs and picks alone
abbrev pub runs_alone : List RunRow → List Pick → Tables
runs_alone runs picks = record no_rows { runs = runs; picks = picks }

-- the ordinal of a run among its query's
abbrev pub ordinal_in : List RunRow → RunRow → ℕ
ordinal_in runs run = run_ordinal run.num run.query.0 runs

-- a query that has delivered one document more
abbrev pub with_entry : Entry → CachedQuery → CachedQuery
with_entry entry kept = record { row = kept.row; covered = kept.covered; runs = kept.runs; entries = kept.entries ++ entry ∷ [] }

-- no query picks a document twice, nor one that it picked earlier
abbrev pub PicksAreDistinct : List Pick → List Pick → Type 0
PicksAreDistinct earlier [] = Unit {0}
PicksAreDistinct earlier (pick ∷ picks) = (list_any (picks_same pick) earlier ≡ false) × PicksAreDistinct (earlier ++ pick ∷ []) picks

-- the number of one of that many rows
pub record IsRowNumber (num count : ℕ) : Type 0 where
  pub low : 1 ≤ num
  pub high : num ≤ count

-- the sums with one row more, of this moment and that many bytes
abbrev pub added : ℤ → ℕ → Sums → Sums
added moment bytes sums = record { bytes = sums.bytes + bytes; greatest = Some (later_of moment sums.greatest) }

-- how many bytes some rows store, with the greatest of their moments, added to the sums of others
abbrev pub summed : {A : Type 0} → (A → ℤ) → (A → ℕ) → Sums → List A → Sums
summed moment bytes sums [] = sums
summed moment bytes sums (row ∷ rows) = summed moment bytes (added (moment row) (bytes row) sums) rows

-- the sums of all rows; runs store no bytes
abbrev pub sums_of : Tables → Sums
sums_of tables =
    summed (λ filter. filter.arrival) (λ filter. length filter.source)
    (summed (λ run. run.moment) (λ run. 0)
    (summed (λ query. query.arrival) (λ query. length query.source)
    (summed (λ note. note.arrival) (λ note. length note.text)
    (summed (λ doc. doc.arrival) (λ doc. length doc.text)
    (record { bytes = 0; greatest = None })
    tables.docs) tables.notes) tables.queries) tables.runs) tables.filters

-- rows numbered one by one from n on, whose arrivals are moments that never fall from `low` on
abbrev pub AreInOrder : {A : Type 0} → (A → ℕ) → (A → ℤ) → ℕ → ℤ → List A → Type 0
AreInOrder number arrival n low [] = Unit {0}
AreInOrder number arrival n low (x ∷ xs) =
    (number x ≡ n) × (low ≤ℤ arrival x) × IsMoment (arrival x) × AreInOrder number arrival (n + 1) (arrival x) xs

-- such rows behind others, none of which arrived after that second
pub record FollowInOrder {A : Type 0} (number : A → ℕ) (arrival : A → ℤ) (others rows : List A) : Type 0 where
  pub low : ℤ
  pub before : Each (λ other. arrival other ≤ℤ low) others
  pub stand : AreInOrder number arrival (length others + 1) low rows

-- the rows with these notes after the others
abbrev pub with_notes : Tables → List Note → Tables
with_notes rows notes = record rows { notes = rows.notes ++ notes }
