-- Where the runs and picks of a query stand once a run was added.
use Rattle.std.proofs.Common.{◌≡◌, ◌∙◌, sym, ap, refl, arith, ℕ, suc, ◌+◌, ◌≤◌, ◌<◌, false, List, [], ◌∷◌, ◌++◌, length, map, inl}
use Rattle.std.proofs.Common.{inr}
use Rattle.std.specs.Prelude.{◌==◌}
use Rattle.std.specs.List.{position_or_len}
use Rattle.std.proofs.lemmas.Bool.{cases_Bool, both_ways, eq-eqb, ne_eqb}
use Rattle.std.proofs.lemmas.List.{map-append, length-map}
use Rattle.std.proofs.lemmas.List.Elements.{filter-append}
use Rattle.tap_base.specs.declared.numbers.QueryNum.{QueryNum}
use Rattle.tap_rows.specs.declared.rows.RunRow.{RunRow}
use Rattle.tap_rows.specs.declared.rows.QueryRow.{QueryRow}
use Rattle.tap_rows.specs.declared.rows.Pick.{Pick}
use Rattle.tap_rows.specs.declared.results.Hit.{Hit}
use Rattle.tap_rows.specs.Results.{runs_of, run_moments, entry_at}
use Rattle.tap_rows.specs.Deliveries.{run_ordinal, picked, picks_of, pick_rows}
use Rattle.tap_rows.specs.Kept.{Each, In, HasRun, RunsFrom, QueriesFrom}
use Rattle.tap_rows.proofs.LaterLaws.{filter-none}

-- the run of a number among a query's runs keeps its place
place-stays : (num query : ℕ) (runs : List RunRow) (new : RunRow) → HasRun num query runs → position_or_len (λ run. run.num == num)
    (runs_of query (runs ++ new ∷ [])) ≡ position_or_len (λ run. run.num == num) (runs_of query runs)
place-stays num query [] new has = absurd has
place-stays num query (run ∷ runs) new has =
    elim (cases_Bool (run.query.0 == query)) [
      | inl y ↦ elim (cases_Bool (run.num == num)) [
        | inl yes' ↦ rw (y, yes') refl
        | inr no' ↦ rw (y, no') (ap (λ n. 1 + n) (place-stays num query runs new
            (elim has [ inl e ↦ absurd (both_ways (run.num == num) no' (eq-eqb run.num num e.0)) | inr h ↦ h ])))
      ]
      | inr n ↦ rw n (place-stays num query runs new
          (elim has [ inl e ↦ absurd (both_ways (run.query.0 == query) n (eq-eqb run.query.0 query e.1)) | inr h ↦ h ]))
    ]

pub ordinal-stays : (num query : ℕ) (runs : List RunRow) (new : RunRow) → HasRun num query runs
    → run_ordinal num query (runs ++ new ∷ []) ≡ run_ordinal num query runs
ordinal-stays num query runs new has = ap (λ n. n + 1) (place-stays num query runs new has)

one-more : (a b : ℕ) → a ≡ b → 1 + a ≡ suc b
one-more a b e = omega (arith, e)

-- a new run stands behind its query's runs
place-new : (k query : ℕ) (runs : List RunRow) (new : RunRow) → RunsFrom k runs → k + length runs ≡ new.num → new.query.0 ≡ query
    → position_or_len (λ run. run.num == new.num) (runs_of query (runs ++ new ∷ [])) ≡ length (runs_of query runs)
place-new k query [] new from is of = rw (eq-eqb new.query.0 query of, eq-eqb new.num new.num refl) refl
place-new k query (run ∷ runs) new from is of =
    let other : (run.num == new.num) ≡ false = ne_eqb run.num new.num (λ e. absurd (omega (arith, from.0, e, is))) in
    let rest = place-new (suc k) query runs new from.1 (omega (arith, is)) of in
    elim (cases_Bool (run.query.0 == query)) [
      | inl y ↦ rw (y, other) (one-more _ _ rest)
      | inr n ↦ rw n rest
    ]

pub ordinal-new : (query : ℕ) (runs : List RunRow) (new : RunRow) → RunsFrom 1 runs → new.num ≡ length runs + 1 → new.query.0 ≡ query
    → run_ordinal new.num query (runs ++ new ∷ []) ≡ length (run_moments query runs) + 1
ordinal-new query runs new from is of =
    ap (λ n. n + 1) (place-new 1 query runs new from (omega (arith, is)) of ∙ sym (length-map (runs_of query runs) (λ run. run.moment)))

pub moments-new : (query : ℕ) (runs : List RunRow) (new : RunRow) → new.query.0 ≡ query
    → run_moments query (runs ++ new ∷ []) ≡ run_moments query runs ++ new.moment ∷ []
moments-new query runs new of =
    rw (filter-append (λ run. run.query.0 == query) runs (new ∷ []), eq-eqb new.query.0 query of)
    (map-append (λ run. run.moment) (runs_of query runs) (new ∷ []))

pub moments-other : (query : ℕ) (runs : List RunRow) (new : RunRow) → (new.query.0 ≡ query → ⊥)
    → run_moments query (runs ++ new ∷ []) ≡ run_moments query runs
moments-other query runs new other =
    ap (map (λ run. run.moment)) (filter-none (λ run. run.query.0 == query) runs (new ∷ []) (ne_eqb new.query.0 query other, tt))

-- the picks of earlier runs are the entries that they were
pub old-picks : (query : ℕ) (runs : List RunRow) (new : RunRow) (picks : List Pick) → Each (λ pick. HasRun pick.run pick.query.0 runs) picks
    → map (picked (runs ++ new ∷ [])) (picks_of query picks) ≡ map (picked runs) (picks_of query picks)
old-picks query runs new [] each = refl
old-picks query runs new (pick ∷ picks) each =
    let rest = old-picks query runs new picks each.1 in
    elim (cases_Bool (pick.query.0 == query)) [
      | inl y ↦ rw (y, ordinal-stays pick.run pick.query.0 runs new each.0, rest) refl
      | inr n ↦ rw (n, rest) refl
    ]

-- the picks of a new run belong to its query alone
pub picks-all : (num : ℕ) (query : QueryNum) (run : ℕ) (hits : List Hit)
    → picks_of query.0 (pick_rows num query run hits) ≡ pick_rows num query run hits
picks-all num query run [] = refl
picks-all num query run (hit ∷ hits) = rw (eq-eqb query.0 query.0 refl, picks-all (num + 1) query run hits) refl

pub picks-none : (other num : ℕ) (query : QueryNum) (run : ℕ) (hits : List Hit) → (query.0 ≡ other → ⊥)
    → Each (λ pick. (pick.query.0 == other) ≡ false) (pick_rows num query run hits)
picks-none other num query run [] differs = tt
picks-none other num query run (hit ∷ hits) differs = (ne_eqb query.0 other differs, picks-none other (num + 1) query run hits differs)

-- they are the hits as entries of the run
pub new-picks : (runs : List RunRow) (num : ℕ) (query : QueryNum) (run k : ℕ) (hits : List Hit) → run_ordinal run query.0 runs ≡ k
    → map (picked runs) (pick_rows num query run hits) ≡ map (entry_at k) hits
new-picks runs num query run k [] is = refl
new-picks runs num query run k (hit ∷ hits) is = rw (is, new-picks runs (num + 1) query run k hits is) refl

pub picks-have-run : (runs : List RunRow) (num : ℕ) (query : QueryNum) (run : ℕ) (hits : List Hit) → HasRun run query.0 runs
    → Each (λ pick. HasRun pick.run pick.query.0 runs) (pick_rows num query run hits)
picks-have-run runs num query run [] has = tt
picks-have-run runs num query run (hit ∷ hits) has = (has, picks-have-run runs (num + 1) query run hits has)

pub run-stays : (num query : ℕ) (runs more : List RunRow) → HasRun num query runs → HasRun num query (runs ++ more)
run-stays num query [] more has = absurd has
run-stays num query (run ∷ runs) more (inl e) = inl e
run-stays num query (run ∷ runs) more (inr h) = inr (run-stays num query runs more h)

pub run-last : (runs : List RunRow) (new : RunRow) → HasRun new.num new.query.0 (runs ++ new ∷ [])
run-last [] new = inl (refl, refl)
run-last (run ∷ runs) new = inr (run-last runs new)

pub runs-more : (k : ℕ) (runs : List RunRow) (new : RunRow) → RunsFrom k runs → new.num ≡ k + length runs → RunsFrom k (runs ++ new ∷ [])
runs-more k [] new from is = (omega (arith, is), tt)
runs-more k (run ∷ runs) new from is = (from.0, runs-more (suc k) runs new from.1 (omega (arith, is)))

pub queries-more : (k : ℕ) (queries : List QueryRow) (new : QueryRow) → QueriesFrom k queries → new.num.0 ≡ k + length queries
    → QueriesFrom k (queries ++ new ∷ [])
queries-more k [] new from is = (omega (arith, is), tt)
queries-more k (query ∷ queries) new from is = (from.0, queries-more (suc k) queries new from.1 (omega (arith, is)))

-- the number of a query that is there
pub query-bounds : (k : ℕ) (queries : List QueryRow) (query : QueryRow) → QueriesFrom k queries → In query queries
    → (k ≤ query.num.0) × (query.num.0 < k + length queries)
query-bounds k [] query from has = absurd has
query-bounds k (first ∷ queries) query from (inl e) =
    let is : query.num.0 ≡ k = ap (λ row. row.num.0) e ∙ from.0 in
    (omega (arith, is), omega (arith, is))
query-bounds k (first ∷ queries) query from (inr h) =
    let rest = query-bounds (suc k) queries query from.1 h in
    (omega (arith, rest.0), omega (arith, rest.1))

-- no run belongs to a query that is not there yet
pub runs-none : (query : ℕ) (runs : List RunRow) → Each (λ run. run.query.0 < query) runs → runs_of query runs ≡ []
runs-none query [] each = refl
runs-none query (run ∷ runs) each = rw (ne_eqb run.query.0 query (λ e. absurd (omega (arith, e, each.0)))) (runs-none query runs each.1)

run-owned : (query n : ℕ) (runs : List RunRow) (num : ℕ) → HasRun num query runs → Each (λ run. run.query.0 ≤ n) runs → query ≤ n
run-owned query n [] num has each = absurd has
run-owned query n (run ∷ runs) num (inl e) each = omega (arith, e.1, each.0)
run-owned query n (run ∷ runs) num (inr h) each = run-owned query n runs num h each.1

pub no-picks : (query n : ℕ) (runs : List RunRow) (picks : List Pick) → n < query → Each (λ run. run.query.0 ≤ n) runs
    → Each (λ pick. HasRun pick.run pick.query.0 runs) picks → picks_of query picks ≡ []
no-picks query n runs [] lt owned each = refl
no-picks query n runs (pick ∷ picks) lt owned each =
    let le = run-owned pick.query.0 n runs pick.run each.0 owned in
    rw (ne_eqb pick.query.0 query (λ e. absurd (omega (arith, e, le)))) (no-picks query n runs picks lt owned each.1)
