use Rattle.std.proofs.Common.{◌≡◌, ◌+◌, ◌≤◌, length}
use Rattle.std.specs.List.{flat_map}
use Rattle.query_eval.specs.Lowest.{keeping}
use Rattle.query_eval.specs.Placed.{CanStoreHits}
use Rattle.probe_eval.specs.Drivers.{walked}
use Rattle.probe_eval.specs.Listed.{listed_hits}
use Rattle.probe_eval.specs.Searches.{searched}
use Rattle.query_eval.proofs.listed.collect_listed.Given as goal

abbrev pub invariant-loop-row : goal.invariant-loop-row
invariant-loop-row g l = record {
  hits : keeping (length l.fn.into.places.items)
      l.fn.into.hits.items (flat_map (listed_hits l.fn.search.seen.now l.fn.w (searched l.fn.search) l.fn.var)
      (walked l.fn.search.index.now l.fn.w (searched l.fn.search) l.fn.seek l.fn.var)) ≡ keeping (length l.into.places.items)
      l.into.hits.items (flat_map (listed_hits l.fn.search.seen.now l.fn.w (searched l.fn.search) l.fn.var) l.rows);
  ready : CanStoreHits l.into;
  places : length l.into.places.items ≡ length l.fn.into.places.items;
  steps : l.steps + length l.rows ≡ l.fn.steps + length (walked l.fn.search.index.now l.fn.w (searched l.fn.search) l.fn.seek l.fn.var);
  more : l.fn.steps ≤ l.steps;
}

abbrev pub decreases-loop-row : goal.decreases-loop-row
decreases-loop-row g l = length l.rows
