use Rattle.std.proofs.Common.{◌≡◌, ◌+◌, ◌≤◌, length}
use Rattle.std.specs.List.{flat_map}
use Rattle.tql_core.specs.Values.{bind}
use Rattle.probe_eval.specs.Work.{total}
use Rattle.probe_eval.specs.Nested.{was_seen, hits_over, work_over}
use Rattle.wake_plan.specs.Turns.{has_hit}
use Rattle.probe_eval.specs.Searches.{searched}
use Rattle.wake_plan.proofs.delivers.+delivers.Given as goal

abbrev pub invariant-loop-row : goal.invariant-loop-row
invariant-loop-row g l = record {
  same : has_hit (hits_over l.fn.search.seen.now l.fn.search.index.now (searched l.fn.search) l.fn.mark l.fn.order l.fn.env)
      ≡ has_hit (flat_map (λ row. hits_over l.fn.search.seen.now l.fn.search.index.now (searched l.fn.search)
      l.fn.mark l.level.rest.now (bind l.level.reach.var row l.fn.env)) l.rows);
  steps : l.steps + total (λ row. 1 + work_over (was_seen l.fn.search.seen.now) l.fn.search.index.now (searched l.fn.search)
      l.fn.mark l.level.sure l.level.rest.now (bind l.level.reach.var row l.fn.env)) l.rows ≤ l.fn.steps
      + work_over (was_seen l.fn.search.seen.now) l.fn.search.index.now (searched l.fn.search) l.fn.mark l.fn.sure l.fn.order l.fn.env;
  more : l.fn.steps ≤ l.steps;
}

abbrev pub decreases-loop-row : goal.decreases-loop-row
decreases-loop-row g l = length l.rows

abbrev pub decreases-delivers : goal.decreases-delivers
decreases-delivers g l = length l.order.now
