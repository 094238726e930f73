use Rattle.std.proofs.Common.{◌≡◌, ◌+◌, ◌≤◌, Bool, true, length}
use Rattle.tap_rows.specs.declared.rows.Doc.{Doc}
use Rattle.std.specs.List.{flat_map}
use Rattle.tql_core.specs.Row.{Row}
use Rattle.tql_core.specs.Values.{bind}
use Rattle.probe_eval.specs.Nexts.{IsNearestIfKnown}
use Rattle.query_eval.specs.Lowest.{keeping}
use Rattle.query_eval.specs.Placed.{CanStoreHits}
use Rattle.query_eval.specs.Collecting.{AreSettled}
use Rattle.query_eval.specs.Driven.{is_settled}
use Rattle.query_eval.specs.RunFronts.{AreDone}
use Rattle.probe_eval.specs.Work.{total}
use Rattle.probe_eval.specs.Nested.{hits_over, work_over}
use Rattle.probe_eval.specs.Searches.{searched}
use Rattle.query_eval.proofs.nested.+collect_once.Given as goal

abbrev pub invariant-loop-row : goal.invariant-loop-row
invariant-loop-row g l = record {
  hits : keeping (length l.fn.into.places.items)
      l.fn.into.hits.items (hits_over l.fn.search.seen.now l.fn.search.index.now (searched l.fn.search) l.fn.mark l.fn.order l.fn.env)
      ≡ keeping (length l.into.places.items) l.into.hits.items (flat_map (λ row. hits_over l.fn.search.seen.now l.fn.search.index.now
      (searched l.fn.search) l.fn.mark l.level.rest.now (bind l.level.reach.var row l.fn.env)) l.rows);
  ready : CanStoreHits l.into;
  places : length l.into.places.items ≡ length l.fn.into.places.items;
  fronts : AreDone l.fn.search l.into l.fronts;
  boxes : l.fronts.boxes ≡ l.fn.fronts.boxes;
  steps : (passed : Doc → Bool) → AreSettled l.fn.search l.fn.into l.fn.mark passed → l.steps + total (λ row. 1 + work_over passed
      l.fn.search.index.now (searched l.fn.search) l.fn.mark l.level.sure l.level.rest.now (bind l.level.reach.var row l.fn.env)) l.rows
      ≤ l.fn.steps + work_over passed l.fn.search.index.now (searched l.fn.search) l.fn.mark l.fn.sure l.fn.order l.fn.env;
  settled : (d : Doc) → is_settled l.fn.search.seen.now l.fn.into.hits.items l.fn.mark d ≡ true
      → is_settled l.fn.search.seen.now l.into.hits.items l.fn.mark d ≡ true;
  more : l.fn.steps ≤ l.steps;
  next : (row : Row) → IsNearestIfKnown l.fn.search.probe.now.path (bind l.level.reach.var row l.fn.env) l.below;
}

abbrev pub decreases-loop-row : goal.decreases-loop-row
decreases-loop-row g l = length l.rows

abbrev pub decreases-collect_once : goal.decreases-collect_once
decreases-collect_once g l = length l.order.now
