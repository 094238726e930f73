use Rattle.std.proofs.Common.{◌≡◌, drop}
use Rattle.access_plan.specs.Accesses.{first_some}
use Rattle.access_plan.specs.Orders.{by_index}
use Rattle.access_plan.proofs.orders.first_by_index.Given as goal

-- the steps before gave none
abbrev pub invariant-loop-step : goal.invariant-loop-step
invariant-loop-step l = first_some (by_index l.bound) l.path ≡ first_some (by_index l.bound) (drop l.step-index l.path)
