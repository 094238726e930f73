-- What is in memory of queries and their owners.
use Rattle.std.specs.Prelude.{⊤, ℕ, zero, suc, ◌≡◌, ℤ, ◌+◌, List, [], ◌∷◌, ◌++◌, length, take, filter, find}
use Rattle.std.specs.Prelude.{slice_index_or, slice_set, Option, false, if◌then◌else◌}
use Rattle.std.specs.Str.{bytes_eq}
use Rattle.tap_base.specs.Words.{has_text}
use Rattle.tap_rows.specs.declared.tables.Tables.{Tables}
use Rattle.tap_rows.specs.declared.rows.QueryRow.{QueryRow}
use Rattle.tap_rows.specs.declared.results.Entry.{Entry}
use Rattle.tap_rows.specs.declared.results.Hit.{Hit}
use Rattle.time_marks.specs.Probes.{meaning_without}
use Rattle.probe_eval.specs.Nested.{was_seen}
use Rattle.tap_rows.specs.Results.{run_moments, covered}
use Rattle.tap_rows.specs.Deliveries.{delivered}
use Rattle.tap_rows.specs.Kept.{In}
use Rattle.little_box.specs.Boxes.{is_in}
use Rattle.tap_kept.specs.declared.cached_query.CachedQuery.{CachedQuery}
use Rattle.tap_model.specs.Queries.{start_of, probes_of_query}
use Rattle.tap_rows.specs.WellFormed.{is_query_of}

-- what the tables say of a query: its row, the second that its runs have covered up to, how many they are, and what they
-- delivered
abbrev pub cached_query : Tables → QueryRow → CachedQuery
cached_query tables query = record {
  row = query;
  covered = covered (start_of query) query.num.0 tables.runs;
  runs = length (run_moments query.num.0 tables.runs);
  entries = delivered query.num.0 tables;
}

-- the user's query of a name
unfoldable pub named_in : List ℕ → List ℕ → List CachedQuery → Option CachedQuery
named_in owner name queries = find (λ kept. is_query_of owner name kept.row) queries

-- how many of the queries are a user's
unfoldable pub owned_in : List ℕ → List CachedQuery → ℕ
owned_in owner queries = length (filter (λ kept. bytes_eq kept.row.owner owner) queries)

-- a query that was never run
abbrev pub never_run : QueryRow → CachedQuery
never_run query = record { row = query; covered = start_of query; runs = 0; entries = [] }

-- a query after one more run at this moment, which delivered these
abbrev pub after_run : ℤ → List Entry → CachedQuery → CachedQuery
after_run moment entries kept = record { row = kept.row; covered = moment; runs = kept.runs + 1; entries = kept.entries ++ entries }

-- a query before its last run: it had covered the seconds up to this one, and had that many runs and entries
abbrev pub before_run : ℤ → ℕ → ℕ → CachedQuery → CachedQuery
before_run second runs entries kept = record { row = kept.row; covered = second; runs = runs; entries = take entries kept.entries }

-- what a run of a query at a moment delivers: what its window query finds since the last run, without what was delivered
abbrev pub hits_since : CachedQuery → Tables → ℤ → List Hit
hits_since kept rows moment =
    meaning_without (was_seen kept.entries) (probes_of_query kept.row) rows (record { low = kept.covered; high = moment })

-- no hit is of a document among these entries, and no two are of one document
abbrev pub AreNew : List Entry → List Hit → Type 0
AreNew entries [] = ⊤
AreNew entries (hit ∷ hits) =
    (is_in hit.doc.0 entries ≡ false) × ((other : Hit) → In other hits → other.doc.0 ≡ hit.doc.0 → ⊥) × AreNew entries hits

-- the queries, with that at a place as it was before its last run
abbrev pub without_run : ℕ → ℤ → ℕ → ℕ → List CachedQuery → List CachedQuery
without_run place second runs entries [] = []
without_run zero second runs entries (kept ∷ queries) = before_run second runs entries kept ∷ queries
without_run (suc place) second runs entries (kept ∷ queries) = kept ∷ without_run place second runs entries queries

-- the owners, with one that may be among them
abbrev pub with_owner : List (List ℕ) → List ℕ → List (List ℕ)
with_owner owners owner = if has_text owners owner then owners else owners ++ owner ∷ []

-- the query at this place is so, or every query if there is no such place
abbrev pub HoldsAt : ℕ → (CachedQuery → Type 0) → List CachedQuery → Type 0
HoldsAt place P queries = (d : CachedQuery) → P (slice_index_or queries place d)

-- the query at a place is changed so, and no other
abbrev pub ChangesAt : ℕ → (CachedQuery → CachedQuery) → List CachedQuery → List CachedQuery → Type 0
ChangesAt place change before queries =
    (d : CachedQuery) → queries ≡ slice_set before place (change (slice_index_or before place d))
