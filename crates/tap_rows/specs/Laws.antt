-- Laws that hold for every condition.
use Rattle.std.specs.Prelude.{◌≡◌, ◌+◌, ℤ, pos, ◌≤ℤ◌, List, ◌++◌, length, None}
use Rattle.tap_rows.specs.declared.tables.Tables.{Tables}
use Rattle.tap_rows.specs.declared.rows.Doc.{Doc}
use Rattle.tap_rows.specs.declared.rows.Note.{Note}
use Rattle.tap_rows.specs.declared.rows.QueryRow.{QueryRow}
use Rattle.tap_rows.specs.declared.rows.FilterRow.{FilterRow}
use Rattle.tap_rows.specs.declared.change.Change.TheVariants.{Docs, OneNote, OneQuery, OneFilter}
use Rattle.tap_rows.specs.Tables.{no_rows, after}
use Rattle.tap_rows.specs.Arrivals.{Arrived}
use Rattle.tap_rows.specs.Results.{Truth, first_second}
use Rattle.tap_rows.specs.Deliveries.{run_change}
use Rattle.tap_rows.specs.Kept.{Each, In, IsOfTheSecond, IsKept, IsBy}
use Rattle.tap_rows.specs.Grown.{Grown}

-- rows that arrive at t or later change no first second below t, and their documents have none there
pub record LaterRowsKeepFirstSeconds : Type 0 where
  pub kept :
      (truth : Truth) (t : ℤ) (tables later : Tables) (doc : Doc) (start until : ℤ)
      → IsOfTheSecond truth → Grown t tables later → until ≤ℤ t
      → first_second truth later doc start until ≡ first_second truth tables doc start until
  pub new :
      (truth : Truth) (tables : Tables) (doc : Doc) (start until : ℤ)
      → until ≤ℤ doc.arrival → first_second truth tables doc start until ≡ None

-- whatever the queries' truths and starts: if the tables are `IsKept` and no row is after the moment t, this follows
abbrev pub IfKept : ((QueryRow → Truth) → (QueryRow → ℤ) → ℤ → Tables → Type 0) → Type 0
IfKept follows =
    (truth : QueryRow → Truth) (start : QueryRow → ℤ) (causal : (query : QueryRow) → IsOfTheSecond (truth query)) (t : ℤ) (tables : Tables)
    → IsKept truth start tables → IsBy start t tables → follows truth start t tables

-- the empty tables are `IsKept`, and each change preserves that: later documents, a later note, a new query, a filter, and a run
-- of a query with a pick for each document that is fresh since its last run
pub record DeliveriesStayTheBox : Type 0 where
  pub none : (truth : QueryRow → Truth) (start : QueryRow → ℤ) → IsKept truth start no_rows
  pub docs : IfKept (λ truth start t tables.
      (docs : List Doc) → Each (λ doc. t ≤ℤ doc.arrival) docs → Arrived 1 (pos 0) (tables.docs ++ docs)
      → IsKept truth start (after tables (Docs docs)))
  pub note : IfKept (λ truth start t tables.
      (note : Note) → t ≤ℤ note.arrival → IsKept truth start (after tables (OneNote note)))
  pub query : IfKept (λ truth start t tables.
      (query : QueryRow) → query.num.0 ≡ length tables.queries + 1 → IsKept truth start (after tables (OneQuery query)))
  pub filter : IfKept (λ truth start t tables.
      (filter : FilterRow) → IsKept truth start (after tables (OneFilter filter)))
  pub run : IfKept (λ truth start t tables.
      (query : QueryRow) → In query tables.queries
      → IsKept truth start (after tables (run_change (truth query) (start query) tables query.num t)))
