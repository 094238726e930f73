use Rattle.std.proofs.Common.{◌≡◌, drop, length}
use Rattle.tap_kept.specs.Starting.{summed}
use Rattle.tap_kept.proofs.sums.Sums.add_queries.Given as goal

-- the sums with all rows are those with the rows that are left
abbrev pub invariant-loop-query : goal.invariant-loop-query
invariant-loop-query l = summed (λ query. query.arrival) (λ query. length query.source) l.fn.self l.queries
    ≡ summed (λ query. query.arrival) (λ query. length query.source) l.sums (drop l.query-index l.queries)
