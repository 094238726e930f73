use Rattle.std.proofs.Common.{◌≡◌, ◌+◌, ◌≤◌, length}
use Rattle.std.specs.List.{flat_map}
use Rattle.tap_rows.specs.Kept.{Each}
use Rattle.probe_eval.specs.Work.{total}
use Rattle.wake_plan.specs.Turns.{left, hits_left, cost_left, IsTurn}
use Rattle.wake_plan.specs.Wakes.{wake_window}
use Rattle.wake_plan.proofs.planner.first_delivery.Given as goal

abbrev pub invariant-loop-place : goal.invariant-loop-place
invariant-loop-place g l = record {
  turns : Each (IsTurn l.fn.w) l.turns.items;
  hits : flat_map (hits_left l.fn.w) l.turns.items ≡ flat_map (hits_left l.fn.w) l.fn.turns.items;
  steps : l.steps + total (cost_left (wake_window l.fn.w.low (flat_map (hits_left l.fn.w) l.fn.turns.items))) l.turns.items
      ≤ l.fn.steps + total (cost_left (wake_window l.fn.w.low (flat_map (hits_left l.fn.w) l.fn.turns.items))) l.fn.turns.items;
  more : l.fn.steps ≤ l.steps;
}

abbrev pub decreases-loop-place : goal.decreases-loop-place
decreases-loop-place g l = total (λ t. length (left t)) l.turns.items
