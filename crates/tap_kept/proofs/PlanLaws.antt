-- The probes of a plan are probes, and what a query has covered.
use Rattle.std.proofs.Common.{◌≡◌, sym, refl, ap, arith, subst, ℕ, zero, suc, ◌+◌, ℤ, List, [], ◌∷◌, ◌++◌, take, map, true, false}
use Rattle.std.proofs.Common.{if◌then◌else◌}
use Rattle.std.specs.Prelude.{◌==◌, option_to_list, slice_get}
use Rattle.tap_rows.specs.declared.rows.RunRow.{RunRow}
use Rattle.tap_rows.specs.Kept.{Each, In}
use Rattle.tap_rows.specs.Results.{last_or, run_moments, covered, runs_of}
use Rattle.time_marks.specs.declared.window_query.WindowQuery.{WindowQuery}
use Rattle.time_marks.specs.declared.ranged_query.RangedQuery.{RangedQuery}
use Rattle.time_marks.specs.Distinct.{distinct_probes}
use Rattle.time_marks.specs.Views.{probes_of, ranged_probes}
use Rattle.time_marks.proofs.Repeats.{distinct_among}
use Rattle.monotone_rewrite.specs.Laws.{AreProbes}
use Rattle.probe_eval.specs.Runs.{HasValidProbes}

pub probes-kept : (x : WindowQuery) (r q : RangedQuery) → AreProbes (probes_of x) → ranged_probes r ≡ distinct_probes (probes_of x)
    → q ≡ r → HasValidProbes q
probes-kept x r q s d e = subst HasValidProbes (sym e) (λ p i. s p (distinct_among (probes_of x) p (subst (In p) d i)))

-- what holds of all moments of runs holds of the last of a query's
moments-each : (P : ℤ → Type 0) (query : ℕ) (runs : List RunRow) → Each (λ run. P run.moment) runs → Each P (run_moments query runs)
moments-each P query [] each = tt
moments-each P query (run ∷ runs) each =
    let rest = moments-each P query runs each.1 in
    elim (run.query.0 == query) as (λ b. Each P (map (λ run. run.moment) (if b then run ∷ runs_of query runs else runs_of query runs))) [
      | true ↦ (each.0, rest)
      | false ↦ rest
    ]

last-each : (P : ℤ → Type 0) (low : ℤ) (ms : List ℤ) → P low → Each P ms → P (last_or low ms)
last-each P low [] is each = is
last-each P low (m ∷ ms) is each = last-each P m ms each.0 each.1

pub covered-each : (P : ℤ → Type 0) (start : ℤ) (query : ℕ) (runs : List RunRow) → P start → Each (λ run. P run.moment) runs
    → P (covered start query runs)
covered-each P start query runs is each = last-each P start (run_moments query runs) is (moments-each P query runs each)

-- one more of a list's first
pub take-next : {A : Type 0} (i : ℕ) (xs : List A) → take i xs ++ option_to_list (slice_get xs i) ≡ take (i + 1) xs
take-next zero [] = refl
take-next zero (x ∷ xs) = refl
take-next (suc i) [] = let up : suc i + 1 ≡ suc (i + 1) = omega arith in rw up refl
take-next (suc i) (x ∷ xs) = let up : suc i + 1 ≡ suc (i + 1) = omega arith in rw up (ap (λ l. x ∷ l) (take-next i xs))
