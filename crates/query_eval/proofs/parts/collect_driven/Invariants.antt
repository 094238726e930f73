use Rattle.std.proofs.Common.{◌≡◌, ◌+◌, ◌≤◌, Some, length, []}
use Rattle.std.specs.List.{flat_map}
use Rattle.tql_core.specs.Row.{Row}
use Rattle.tql_core.specs.Values.{bind}
use Rattle.probe_eval.specs.Nexts.{IsNearestIfKnown}
use Rattle.query_eval.specs.Lowest.{keeping}
use Rattle.query_eval.specs.Placed.{CanStoreHits}
use Rattle.query_eval.specs.RunFronts.{AreDone}
use Rattle.query_eval.specs.Driven.{total_in_turn, row_cost, turn_cost}
use Rattle.probe_eval.specs.Drivers.{hits_at, walked}
use Rattle.probe_eval.specs.Searches.{searched}
use Rattle.query_eval.proofs.parts.collect_driven.Given as goal

abbrev pub invariant-loop-row : goal.invariant-loop-row
invariant-loop-row g l = record {
  hits : keeping (length l.fn.into.places.items) l.fn.into.hits.items
      (flat_map (λ row. hits_at l.fn.search.seen.now l.fn.search.index.now l.fn.w (searched l.fn.search) l.fn.order (bind l.fn.var row []))
      (walked l.fn.search.index.now l.fn.w (searched l.fn.search) l.fn.seek l.fn.var))
      ≡ keeping (length l.into.places.items) l.into.hits.items (flat_map
      (λ row. hits_at l.fn.search.seen.now l.fn.search.index.now l.fn.w (searched l.fn.search) l.fn.order (bind l.fn.var row [])) l.rows);
  ready : CanStoreHits l.into;
  places : length l.into.places.items ≡ length l.fn.into.places.items;
  fronts : AreDone l.fn.search l.into l.fronts;
  boxes : l.fronts.boxes ≡ l.fn.fronts.boxes;
  steps : l.steps + total_in_turn (keeping (length l.into.places.items)) (row_cost (keeping (length l.into.places.items))
      l.fn.search.seen.now l.fn.search.index.now l.fn.w (searched l.fn.search) l.fn.order l.fn.var)
      (λ row. hits_at l.fn.search.seen.now l.fn.search.index.now l.fn.w (searched l.fn.search) l.fn.order (bind l.fn.var row []))
      l.into.hits.items l.rows ≤ l.fn.steps + turn_cost (keeping (length l.fn.into.places.items))
      l.fn.search.seen.now l.fn.search.index.now l.fn.w (searched l.fn.search) l.fn.order l.fn.into.hits.items l.fn.seek (Some l.fn.var);
  more : l.fn.steps ≤ l.steps;
  next : (row : Row) → IsNearestIfKnown l.fn.search.probe.now.path (bind l.fn.var row []) l.below;
}

abbrev pub decreases-loop-row : goal.decreases-loop-row
decreases-loop-row g l = length l.rows
