use Rattle.std.proofs.Common.{◌≡◌, ◌+◌, ◌≤◌, ◌++◌, drop, length}
use Rattle.std.specs.List.{flat_map}
use Rattle.std.specs.Prelude.{vec_capacity}
use Rattle.tap_rows.specs.Kept.{Each}
use Rattle.time_marks.specs.declared.window.Window.{Window}
use Rattle.probe_eval.specs.Work.{total}
use Rattle.probe_eval.specs.Runs.{part_hits, part_cost, query_hits, query_cost}
use Rattle.wake_plan.specs.Turns.{hits_left, cost_left, IsTurn}
use Rattle.wake_plan.specs.Wakes.{IsUpTo}
use Rattle.wake_plan.proofs.starts.starts.Given as goal

abbrev pub invariant-loop-place : goal.invariant-loop-place
invariant-loop-place g l = record {
  turns : Each (IsTurn l.fn.w) l.turns.items;
  hits : flat_map (hits_left l.fn.w) l.turns.items ++ flat_map (part_hits l.fn.seen l.fn.index l.fn.w l.fn.plan.query.pool)
      (drop l.place l.fn.plan.query.parts) ≡ query_hits l.fn.seen l.fn.index l.fn.w l.fn.plan.query;
  cost : (u : Window) → IsUpTo l.fn.w u → l.steps + total (cost_left u) l.turns.items + (length (drop l.place l.fn.plan.query.parts)
      + total (part_cost l.fn.seen l.fn.index u l.fn.plan.query.pool) (drop l.place l.fn.plan.query.parts))
      ≤ l.fn.steps + (length l.fn.plan.query.parts + query_cost l.fn.seen l.fn.index u l.fn.plan.query);
  room : length l.turns.items + length (drop l.place l.fn.plan.query.parts) ≤ vec_capacity l.turns;
  more : l.fn.steps ≤ l.steps;
}
