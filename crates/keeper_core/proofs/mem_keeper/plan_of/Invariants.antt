use Rattle.std.proofs.Common.{◌≡◌, drop}
use Rattle.keeper_core.specs.Stored.{planned_fault}
use Rattle.keeper_core.proofs.mem_keeper.plan_of.Given as goal

-- the plan is among those that are left
abbrev pub invariant-loop-plan : goal.invariant-loop-plan
invariant-loop-plan l = planned_fault l.fn.fails l.call ≡ planned_fault (drop l.plan-index l.fails) l.call
