use Rattle.std.proofs.Common.{◌≡◌, ◌++◌, drop}
use Rattle.access_plan.specs.Orders.{orders_of}
use Rattle.access_plan.proofs.orders.orders_of.Given as goal

-- the orders of the parts that are left follow
abbrev pub invariant-loop-part : goal.invariant-loop-part
invariant-loop-part l = orders_of l.parts ≡ l.orders ++ orders_of (drop l.part-index l.parts)
