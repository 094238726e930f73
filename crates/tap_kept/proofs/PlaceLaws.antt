-- Queries are at the places of their numbers.
use Rattle.std.proofs.Common.{◌≡◌, ◌∙◌, sym, refl, ap, arith, ℕ, zero, suc, ◌+◌, ◌<◌, ◌≤◌, ℤ, List, [], ◌∷◌, length, map, true, false, inl}
use Rattle.std.proofs.Common.{inr, if◌then◌else◌}
use Rattle.std.specs.Prelude.{◌==◌, slice_index_or, slice_set}
use Rattle.tap_rows.specs.declared.rows.QueryRow.{QueryRow}
use Rattle.tap_rows.specs.declared.rows.RunRow.{RunRow}
use Rattle.tap_rows.specs.declared.results.Entry.{Entry}
use Rattle.tap_rows.specs.Results.{runs_of, run_moments}
use Rattle.tap_rows.specs.Kept.{In, QueriesFrom}
use Rattle.tap_rows.proofs.PlaceLaws.{query-bounds}
use Rattle.tap_kept.specs.declared.cached_query.CachedQuery.{CachedQuery}
use Rattle.tap_kept.specs.Keeping.{before_run, without_run}

-- a query has no more runs than there are
pub runs-few : (query : ℕ) (runs : List RunRow) → length (run_moments query runs) ≤ length runs
runs-few query [] = omega arith
runs-few query (run ∷ runs) =
    let rest = runs-few query runs in
    elim (run.query.0 == query) as (λ b. length (map (λ run. run.moment) (if b then run ∷ runs_of query runs else runs_of query runs))
    ≤ suc (length runs)) [ true ↦ omega (arith, rest) | false ↦ omega (arith, rest) ]

-- a query in memory is at the place of its number
pub placed : (f : QueryRow → CachedQuery) (k i : ℕ) (qs : List QueryRow) (q : QueryRow) (d : CachedQuery) → QueriesFrom k qs → In q qs
    → q.num.0 ≡ k + i → slice_index_or (map f qs) i d ≡ f q
placed f k i [] q d from has at = absurd has
placed f k zero (x ∷ qs) q d from (inl e) at = ap f (sym e)
placed f k (suc i) (x ∷ qs) q d from (inl e) at = absurd (let is : q.num.0 ≡ k = ap (λ row. row.num.0) e ∙ from.0 in omega (arith, is, at))
placed f k zero (x ∷ qs) q d from (inr h) at = absurd (let bounds = query-bounds (suc k) qs q from.1 h in omega (arith, bounds.0, at))
placed f k (suc i) (x ∷ qs) q d from (inr h) at = placed f (suc k) i qs q d from.1 h (omega (arith, at))

others-same : (f g : QueryRow → CachedQuery) (k : ℕ) (qs : List QueryRow) (q : QueryRow) → QueriesFrom k qs → q.num.0 < k
    → ((other : QueryRow) → (q.num.0 ≡ other.num.0 → ⊥) → g other ≡ f other) → map f qs ≡ map g qs
others-same f g k [] q from lt same = refl
others-same f g k (x ∷ qs) q from lt same =
    rw (same x (λ e. absurd (omega (arith, e, from.0, lt))), others-same f g (suc k) qs q from.1 (omega (arith, lt)) same) refl

-- if one query changes, it alone is written
pub placed-set : (f g : QueryRow → CachedQuery) (k i : ℕ) (qs : List QueryRow) (q : QueryRow) → QueriesFrom k qs → In q qs → q.num.0 ≡ k + i
    → ((other : QueryRow) → (q.num.0 ≡ other.num.0 → ⊥) → g other ≡ f other) → slice_set (map f qs) i (g q) ≡ map g qs
placed-set f g k i [] q from has at same = absurd has
placed-set f g k zero (x ∷ qs) q from (inl e) at same = rw (ap g e, others-same f g (suc k) qs q from.1 (omega (arith, at)) same) refl
placed-set f g k (suc i) (x ∷ qs) q from (inl e) at same =
    absurd (let is : q.num.0 ≡ k = ap (λ row. row.num.0) e ∙ from.0 in omega (arith, is, at))
placed-set f g k zero (x ∷ qs) q from (inr h) at same =
    absurd (let bounds = query-bounds (suc k) qs q from.1 h in omega (arith, bounds.0, at))
placed-set f g k (suc i) (x ∷ qs) q from (inr h) at same =
    rw (same x (λ e. absurd (omega (arith, e, from.0, at))))
    (ap (λ rest. f x ∷ rest) (placed-set f g (suc k) i qs q from.1 h (omega (arith, at)) same))

-- the run at a place is undone by writing the query there
pub without-set : (i runs entries : ℕ) (covered : ℤ) (queries : List CachedQuery) (d : CachedQuery) → i < length queries
    → slice_set queries i (before_run covered runs entries (slice_index_or queries i d)) ≡ without_run i covered runs entries queries
without-set i runs entries covered [] d lt = absurd (omega (arith, lt))
without-set zero runs entries covered (kept ∷ queries) d lt = refl
without-set (suc i) runs entries covered (kept ∷ queries) d lt =
    ap (λ l. kept ∷ l) (without-set i runs entries covered queries d (omega (arith, lt)))

-- a query in memory, of its parts
abbrev pub cached : QueryRow → ℤ → ℕ → List Entry → CachedQuery
cached row covered runs entries = record { row = row; covered = covered; runs = runs; entries = entries }

-- two queries in memory are the same if their parts are
pub same-cached : (row : QueryRow) (a a' : ℤ) (b b' : ℕ) (c c' : List Entry) → a ≡ a' → b ≡ b' → c ≡ c'
    → cached row a b c ≡ cached row a' b' c'
same-cached row a a' b b' c c' e f g = ap (λ x. cached row x b c) e ∙ ap (λ x. cached row a' x c) f ∙ ap (λ x. cached row a' b' x) g
