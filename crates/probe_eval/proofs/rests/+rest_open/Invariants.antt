use Rattle.std.proofs.Common.{◌≡◌, ◌+◌, ◌≤◌, length}
use Rattle.std.specs.List.{list_any}
use Rattle.tql_core.specs.Row.{Row}
use Rattle.tql_core.specs.Values.{bind}
use Rattle.probe_eval.specs.Nexts.{IsNearestIfKnown}
use Rattle.probe_eval.specs.Work.{total, until}
use Rattle.probe_eval.specs.Rests.{rest_of, decides, rest_cost}
use Rattle.probe_eval.proofs.rests.+rest_open.Given as goal

abbrev pub invariant-loop-row : goal.invariant-loop-row
invariant-loop-row g l = record {
  same : rest_of l.fn.index l.fn.path l.fn.mark l.fn.order l.fn.env
      ≡ list_any (λ row. rest_of l.fn.index l.fn.path l.fn.mark l.rest (bind l.reach.var row l.fn.env)) l.rows;
  steps : l.steps + total (λ row. 1 + rest_cost l.fn.index l.fn.path l.fn.mark l.rest (bind l.reach.var row l.fn.env))
      (until (decides l.fn.index l.fn.path l.fn.mark l.rest l.fn.env l.reach.var) l.rows)
      ≤ l.fn.steps + rest_cost l.fn.index l.fn.path l.fn.mark l.fn.order l.fn.env;
  more : l.fn.steps ≤ l.steps;
  next : (row : Row) → IsNearestIfKnown l.fn.path (bind l.reach.var row l.fn.env) l.below;
}

abbrev pub decreases-loop-row : goal.decreases-loop-row
decreases-loop-row g l = length l.rows

abbrev pub decreases-rest_open : goal.decreases-rest_open
decreases-rest_open g l = length l.order.now
