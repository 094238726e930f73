-- What holds of the stored tables after every command: the rows stand in order, and each query's deliveries are its box.
use Rattle.std.specs.Prelude.{ℕ, suc, ◌≡◌, ◌≤◌, ◌⊎◌, ℤ, pos, ◌≤ℤ◌, List, [], ◌∷◌, length}
use Rattle.tap_rows.specs.declared.tables.Tables.{Tables}
use Rattle.tap_rows.specs.declared.rows.Doc.{Doc}
use Rattle.tap_rows.specs.declared.rows.QueryRow.{QueryRow}
use Rattle.tap_rows.specs.declared.rows.RunRow.{RunRow}
use Rattle.tap_rows.specs.Arrivals.{Arrived}
use Rattle.tap_rows.specs.Results.{Truth, visible, run_moments, box_of}
use Rattle.tap_rows.specs.Deliveries.{delivered}

-- `holds` for each of the rows
abbrev pub Each : {A : Type 0} → (A → Type 0) → List A → Type 0
Each holds [] = Unit {0}
Each holds (x ∷ xs) = holds x × Each holds xs

-- is x one of these?
abbrev pub In : {A : Type 0} → A → List A → Type 0
In x [] = ⊥
In x (y ∷ ys) = (x ≡ y) ⊎ In x ys

-- the truth at a second depends on nothing but the documents and notes that arrived by then
abbrev pub IsOfTheSecond : Truth → Type 0
IsOfTheSecond truth =
    (tables later : Tables) (doc : Doc) (s : ℤ)
    → (visible later s).docs ≡ (visible tables s).docs → (visible later s).notes ≡ (visible tables s).notes
    → truth later doc s ≡ truth tables doc s

-- the queries are numbered from num on
abbrev pub QueriesFrom : ℕ → List QueryRow → Type 0
QueriesFrom num [] = Unit {0}
QueriesFrom num (query ∷ queries) = (query.num.0 ≡ num) × QueriesFrom (suc num) queries

-- the runs are numbered from num on
abbrev pub RunsFrom : ℕ → List RunRow → Type 0
RunsFrom num [] = Unit {0}
RunsFrom num (run ∷ runs) = (run.num ≡ num) × RunsFrom (suc num) runs

-- the moments never fall, from the second `low` on
abbrev pub Rising : ℤ → List ℤ → Type 0
Rising low [] = Unit {0}
Rising low (m ∷ ms) = (low ≤ℤ m) × Rising m ms

-- one of these runs has this number and this query
abbrev pub HasRun : ℕ → ℕ → List RunRow → Type 0
HasRun num query [] = ⊥
HasRun num query (run ∷ runs) = ((run.num ≡ num) × (run.query.0 ≡ query)) ⊎ HasRun num query runs

-- a query's run moments never fall from its start on, and what it has delivered is its box
pub record IsKeptQuery (truth : QueryRow → Truth) (start : QueryRow → ℤ) (tables : Tables) (query : QueryRow) : Type 0 where
  pub rising : Rising (start query) (run_moments query.num.0 tables.runs)
  pub box : delivered query.num.0 tables ≡ box_of (truth query) tables (start query) query.num.0

-- documents, queries and runs are numbered by their places, and documents arrive in order; each pick is of a run of its query;
-- each query's run moments never fall from its start on, and what it has delivered is its box
pub record IsKept (truth : QueryRow → Truth) (start : QueryRow → ℤ) (tables : Tables) : Type 0 where
  pub docs : Arrived 1 (pos 0) tables.docs
  pub queries : QueriesFrom 1 tables.queries
  pub runs : RunsFrom 1 tables.runs
  pub owned : Each (λ run. run.query.0 ≤ length tables.queries) tables.runs
  pub picks : Each (λ pick. HasRun pick.run pick.query.0 tables.runs) tables.picks
  pub each : Each (IsKeptQuery truth start tables) tables.queries

-- no row arrived after this moment, no run was after it, and no query starts after it
pub record IsBy (start : QueryRow → ℤ) (moment : ℤ) (tables : Tables) : Type 0 where
  pub docs : Each (λ doc. doc.arrival ≤ℤ moment) tables.docs
  pub notes : Each (λ note. note.arrival ≤ℤ moment) tables.notes
  pub queries : Each (λ query. (query.arrival ≤ℤ moment) × (start query ≤ℤ moment)) tables.queries
  pub runs : Each (λ run. run.moment ≤ℤ moment) tables.runs
  pub filters : Each (λ filter. filter.arrival ≤ℤ moment) tables.filters
