use Rattle.std.proofs.Common.{◌≡◌, map, take}
use Rattle.tap_kept.specs.Keeping.{cached_query}
use Rattle.tap_kept.specs.Starting.{rows_in, runs_alone}
use Rattle.tap_kept.proofs.deliveries.deliver.Given as goal

-- the queries with all runs and the picks that were added
abbrev pub invariant-loop-pick : goal.invariant-loop-pick
invariant-loop-pick l = l.queries ≡ map (cached_query (runs_alone l.runs (take l.pick-index l.picks))) (rows_in l.fn.queries)
