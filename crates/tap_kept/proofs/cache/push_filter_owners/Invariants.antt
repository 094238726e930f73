use Rattle.std.proofs.Common.{◌≡◌, ◌++◌, map, drop}
use Rattle.tap_kept.proofs.cache.push_filter_owners.Given as goal

-- the owners that are left are appended to those that are there
abbrev pub invariant-loop-filter : goal.invariant-loop-filter
invariant-loop-filter l =
    l.fn.owners ++ map (λ filter. filter.owner) l.filters ≡ l.owners ++ map (λ filter. filter.owner) (drop l.filter-index l.filters)
