-- The engine represents the tables after a change.
use Rattle.std.proofs.Common.{◌≡◌, ◌∙◌, sym, refl, ap, arith, ℕ, ◌+◌, ◌≤◌, ◌<◌, List, [], ◌∷◌, ◌++◌, length, map, true, None}
use Rattle.std.specs.Prelude.{sum_by}
use Rattle.std.proofs.lemmas.List.{append_assoc, map-append}
use Rattle.std.proofs.lemmas.List.Sums.{sum_by-append}
use Rattle.tap_rows.specs.declared.tables.Tables.{Tables}
use Rattle.tap_rows.specs.declared.rows.QueryRow.{QueryRow}
use Rattle.tap_rows.specs.declared.change.Change.TheVariants.{OneQuery}
use Rattle.tap_rows.specs.Tables.{after}
use Rattle.tap_rows.specs.WellFormed.{is_well_formed}
use Rattle.tap_rows.proofs.LaterLaws.{each-map}
use Rattle.tap_rows.proofs.PlaceLaws.{runs-none, no-picks}
use Rattle.tap_engine.specs.declared.engine.Engine.{Engine}
use Rattle.tap_base.specs.Words.{has_text}
use Rattle.tap_model.specs.Limits.{different}
use Rattle.tap_model.proofs.FormedRows.{placed}
use Rattle.tap_kept.specs.Keeping.{cached_query, never_run, with_owner}
use Rattle.tap_engine.specs.Standing.{Represents}
use Rattle.tap_engine.proofs.OwnerLaws.{users-more, owners-more}

-- a query that is new was never run
new-is : (t : Tables) (row : QueryRow) → is_well_formed t ≡ true → row.num.0 ≡ length t.queries + 1 → cached_query t row ≡ never_run row
new-is t row formed num =
    let rows = placed t formed in
    let owned = each-map (λ run. (1 ≤ run.query.0) × (run.query.0 ≤ length t.queries)) (λ run. run.query.0 ≤ length t.queries)
    t.runs (λ run within. within.1) rows.owned in
    rw (
      runs-none row.num.0 t.runs (each-map (λ run. run.query.0 ≤ length t.queries) (λ run. run.query.0 < row.num.0) t.runs (λ run le.
          omega (arith, le, num)) owned),
      no-picks row.num.0 (length t.queries) t.runs t.picks (omega (arith, num)) owned rows.picks,
    ) refl

-- the engine with one more query
pub represents-query : (e : Engine) (t : Tables) (row : QueryRow) → Represents e t → is_well_formed t ≡ true
    → row.num.0 ≡ length t.queries + 1 → (e.session.moment ≡ None → ⊥)
    → Represents (record e {
      queries = e.queries ++ never_run row ∷ [];
      owners = with_owner e.owners row.owner;
      bytes = e.bytes + length row.source;
    }) (after t (OneQuery row))
represents-query e t row represents formed num there = record {
  rows = represents.rows;
  queries = rw represents.queries (ap (λ k. map (cached_query t) t.queries ++ k ∷ []) (sym (new-is t row formed num))
      ∙ sym (map-append (cached_query t) t.queries (row ∷ [])));
  run_count = represents.run_count;
  pick_count = represents.pick_count;
  bytes = more (sum_by (λ doc. length doc.text) t.docs) (sum_by (λ note. length note.text) t.notes)
      (sum_by (λ query. length query.source) t.queries) (sum_by (λ filter. length filter.source) t.filters) _ _ (length row.source)
      represents.bytes (sum_by-append (λ query. length query.source) t.queries (row ∷ []));
  users = users-more e.owners names (map (λ filter. filter.owner) t.filters) row.owner represents.users (represents.owners row.owner)
      ∙ ap different (sym all);
  owners = λ user. owners-more e.owners names (map (λ filter. filter.owner) t.filters) row.owner user represents.owners
      ∙ ap (λ texts. has_text texts user) (sym all);
  filters = represents.filters;
  votes = represents.votes;
  greatest = λ none. absurd (there none);
} where
  names : List (List ℕ)
  names = map (λ query. query.owner) t.queries

  all : map (λ query. query.owner) (t.queries ++ row ∷ []) ++ map (λ filter. filter.owner) t.filters
      ≡ names ++ row.owner ∷ map (λ filter. filter.owner) t.filters
  all = ap (λ xs. xs ++ map (λ filter. filter.owner) t.filters) (map-append (λ query. query.owner) t.queries (row ∷ []))
      ∙ append_assoc names (row.owner ∷ []) (map (λ filter. filter.owner) t.filters)

  more : (a b c d c' n k : ℕ) → n ≡ a + b + c + d → c' ≡ c + (0 + k) → n + k ≡ a + b + c' + d
  more a b c d c' n k is e = omega (arith, is, e)
