use Rattle.std.proofs.Common.{◌≡◌, drop, length}
use Rattle.tap_kept.specs.Starting.{summed}
use Rattle.tap_kept.proofs.sums.Sums.add_filters.Given as goal

-- the sums with all rows are those with the rows that are left
abbrev pub invariant-loop-filter : goal.invariant-loop-filter
invariant-loop-filter l = summed (λ filter. filter.arrival) (λ filter. length filter.source) l.fn.self l.filters
    ≡ summed (λ filter. filter.arrival) (λ filter. length filter.source) l.sums (drop l.filter-index l.filters)
