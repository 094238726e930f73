use Rattle.std.proofs.Common.{◌≡◌, ◌++◌, map, drop}
use Rattle.tap_kept.proofs.cache.push_query_owners.Given as goal

-- the owners that are left are appended to those that are there
abbrev pub invariant-loop-query : goal.invariant-loop-query
invariant-loop-query l =
    l.fn.owners ++ map (λ query. query.owner) l.queries ≡ l.owners ++ map (λ query. query.owner) (drop l.query-index l.queries)
