use Rattle.std.proofs.Common.{◌≡◌, drop}
use Rattle.access_plan.specs.Accesses.{first_some}
use Rattle.access_plan.specs.Orders.{by_table}
use Rattle.access_plan.proofs.orders.first_by_table.Given as goal

-- the steps before gave none
abbrev pub invariant-loop-step : goal.invariant-loop-step
invariant-loop-step l = first_some (by_table l.bound) l.path ≡ first_some (by_table l.bound) (drop l.step-index l.path)
