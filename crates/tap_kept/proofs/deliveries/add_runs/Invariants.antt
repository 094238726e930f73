use Rattle.std.proofs.Common.{◌≡◌, [], map, take}
use Rattle.tap_kept.specs.Keeping.{cached_query}
use Rattle.tap_kept.specs.Starting.{rows_in, runs_alone, ordinal_in}
use Rattle.tap_kept.proofs.deliveries.add_runs.Given as goal

-- the queries with the runs that were added, and the ordinals of these
abbrev pub invariant-loop-run : goal.invariant-loop-run
invariant-loop-run l = record {
  queries : l.queries ≡ map (cached_query (runs_alone (take l.run-index l.runs) [])) (rows_in l.fn.queries);
  ordinals : l.ordinals.items ≡ map (ordinal_in (take l.run-index l.runs)) (take l.run-index l.runs);
}
