use Rattle.std.proofs.Common.{◌≡◌, drop}
use Rattle.tap_kept.specs.Starting.{summed}
use Rattle.tap_kept.proofs.sums.Sums.add_runs.Given as goal

-- the sums with all rows are those with the rows that are left
abbrev pub invariant-loop-run : goal.invariant-loop-run
invariant-loop-run l =
    summed (λ run. run.moment) (λ run. 0) l.fn.self l.runs ≡ summed (λ run. run.moment) (λ run. 0) l.sums (drop l.run-index l.runs)
