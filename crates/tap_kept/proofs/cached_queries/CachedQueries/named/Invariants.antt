use Rattle.std.proofs.Common.{◌≡◌, drop}
use Rattle.std.specs.Prelude.{find}
use Rattle.tap_rows.specs.WellFormed.{is_query_of}
use Rattle.tap_kept.proofs.cached_queries.CachedQueries.named.Given as goal

-- the query is among those that are left
abbrev pub invariant-loop-kept : goal.invariant-loop-kept
invariant-loop-kept l = find (λ kept. is_query_of l.owner l.name kept.row) l.self
    ≡ find (λ kept. is_query_of l.owner l.name kept.row) (drop l.kept-index l.self)
