-- Runs by the window query.
use Rattle.std.specs.Prelude.{◌≡◌, ℤ, pos, ◌≤ℤ◌, List, Bool, false, is_some, nat_eq}
use Rattle.std.specs.List.{list_any}
use Rattle.tap_base.specs.declared.moments.TheConstants.{LAST_MOMENT}
use Rattle.tap_rows.specs.declared.tables.Tables.{Tables}
use Rattle.tap_rows.specs.declared.rows.Doc.{Doc}
use Rattle.tap_rows.specs.declared.rows.QueryRow.{QueryRow}
use Rattle.tap_rows.specs.declared.results.Entry.{Entry}
use Rattle.tap_rows.specs.declared.results.Hit.{Hit}
use Rattle.tap_rows.specs.Tables.{no_rows}
use Rattle.tap_rows.specs.Results.{covered, first_second, fresh_in}
use Rattle.tap_rows.specs.Deliveries.{delivered}
use Rattle.tap_rows.specs.Kept.{In}
use Rattle.time_marks.specs.Probes.{meaning_without}
use Rattle.monotone_rewrite.specs.Laws.{FromZero}
use Rattle.time_marks.specs.NextWake.{next_wake}
use Rattle.tap_model.specs.declared.session.Session.{Session}
use Rattle.tap_model.specs.Queries.{query_truth, start_of, probes_of_query, hits_of}
use Rattle.tap_model.specs.Sound.{IsSound}
use Rattle.tap_model.specs.Wakes.{wake_moment}
use Rattle.tap_base.specs.Numbers.{IsMoment}

-- is the document among these deliveries?
abbrev pub is_delivered : List Entry → Doc → Bool
is_delivered entries doc = list_any (λ (e : Entry). nat_eq doc.num.0 e.doc.0) entries

-- tables of the documents and notes alone, which are all that a condition looks at
abbrev pub asked_rows : Tables → Tables
asked_rows tables = record no_rows { docs = tables.docs; notes = tables.notes }

-- what the query's window query finds over the seconds from its last run up to a moment, without what was delivered
abbrev pub found_since : QueryRow → Tables → ℤ → List Hit
found_since query tables moment =
    meaning_without (is_delivered (delivered query.num.0 tables)) (probes_of_query query) (asked_rows tables)
    (record { low = covered (start_of query) query.num.0 tables.runs; high = moment })

-- at a sound point, of a query that is there: `wake_moment` is the second after the least mark that the window query finds since
-- the last run, without what was delivered, or now if that is later
abbrev pub WakesAreWindows : Type 0
WakesAreWindows =
    (tables : Tables) (session : Session) (query : QueryRow) (now : ℤ) → IsSound tables session → In query tables.queries → IsMoment now
    → next_wake now (found_since query tables (pos LAST_MOMENT)) ≡ wake_moment query tables now

-- at a sound point, a run that isn't before the query's last run, or its start, delivers what its window query finds since then,
-- without what it has delivered
abbrev pub RunsAreWindows : Type 0
RunsAreWindows =
    (tables : Tables) (session : Session) (query : QueryRow) (moment : ℤ) → IsSound tables session → In query tables.queries
    → covered (start_of query) query.num.0 tables.runs ≤ℤ moment → found_since query tables moment ≡ hits_of query tables moment

-- the document was given before this moment
abbrev pub was_given : QueryRow → Tables → ℤ → Doc → Bool
was_given query tables moment doc = is_some (first_second (query_truth query) tables doc (start_of query) moment)

-- what the window query finds from a moment on, without the documents that were given before it, is what is fresh; and from
-- the query's start on nothing was given before, so without leaving out any
pub record IsFreshUnseen (query : QueryRow) (tables : Tables) : Type 0 where
  pub unseen : (seen : Doc → Bool) (from until : ℤ) → start_of query ≤ℤ from → from ≤ℤ until
      → ((doc : Doc) → In doc tables.docs → seen doc ≡ was_given query tables from doc)
      → meaning_without seen (probes_of_query query) tables (record { low = from; high = until })
      ≡ fresh_in (query_truth query) tables (start_of query) from until
  pub first : (until : ℤ) → start_of query ≤ℤ until
      → meaning_without (λ _. false) (probes_of_query query) tables (record { low = start_of query; high = until })
      ≡ fresh_in (query_truth query) tables (start_of query) (start_of query) until

abbrev pub UnseenIsFresh : Type 0
UnseenIsFresh = (query : QueryRow) (tables : Tables) → pos 0 ≤ℤ start_of query → FromZero tables → IsFreshUnseen query tables
