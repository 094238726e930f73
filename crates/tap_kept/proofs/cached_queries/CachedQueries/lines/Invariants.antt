use Rattle.std.proofs.Common.{◌≡◌, ◌++◌, drop}
use Rattle.tap_kept.specs.Lines.{owned_lines}
use Rattle.tap_kept.proofs.cached_queries.CachedQueries.lines.Given as goal

-- the lines are those so far and those of the queries that are left
abbrev pub invariant-loop-kept : goal.invariant-loop-kept
invariant-loop-kept l = owned_lines l.owner l.self ≡ l.lines ++ owned_lines l.owner (drop l.kept-index l.self)
