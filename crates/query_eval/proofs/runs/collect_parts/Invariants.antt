use Rattle.std.proofs.Common.{◌≡◌, ◌+◌, ◌≤◌, length, drop}
use Rattle.std.specs.List.{flat_map}
use Rattle.query_eval.specs.Lowest.{keeping}
use Rattle.query_eval.specs.Placed.{CanStoreHits}
use Rattle.query_eval.specs.Driven.{parts_cost}
use Rattle.query_eval.specs.BoxFronts.{AddsFronts}
use Rattle.probe_eval.specs.Runs.{part_hits, query_hits}
use Rattle.query_eval.proofs.runs.collect_parts.Given as goal

abbrev pub invariant-loop-place : goal.invariant-loop-place
invariant-loop-place g l = record {
  hits : keeping (length l.fn.into.places.items) l.fn.into.hits.items (query_hits l.fn.seen l.fn.index l.fn.w l.fn.plan.query)
      ≡ keeping (length l.into.places.items)
      l.into.hits.items (flat_map (part_hits l.fn.seen l.fn.index l.fn.w l.fn.plan.query.pool) (drop l.place l.fn.plan.query.parts));
  ready : CanStoreHits l.into;
  places : length l.into.places.items ≡ length l.fn.into.places.items;
  query : l.fronts.boxes.query ≡ l.fn.fronts.boxes.query;
  fronts : AddsFronts l.fn.fronts.boxes.query l.fn.seen l.fn.index.docs l.fn.fronts.boxes.fronts.items l.fronts.boxes.fronts.items;
  steps : l.steps + parts_cost (keeping (length l.into.places.items)) l.fn.seen l.fn.index l.fn.w l.fn.plan.query.pool l.into.hits.items
      (drop l.place l.fn.plan.query.parts) ≤ l.fn.steps + parts_cost (keeping (length l.fn.into.places.items))
      l.fn.seen l.fn.index l.fn.w l.fn.plan.query.pool l.fn.into.hits.items l.fn.plan.query.parts;
  more : l.fn.steps ≤ l.steps;
}
