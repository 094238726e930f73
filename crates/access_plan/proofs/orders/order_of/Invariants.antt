use Rattle.std.proofs.Common.{◌≡◌, ◌++◌, length, drop}
use Rattle.access_plan.specs.Orders.{order_of, order_from}
use Rattle.access_plan.proofs.orders.order_of.Given as goal

-- the order from here on follows the reaches so far
abbrev pub invariant-loop-turn : goal.invariant-loop-turn
invariant-loop-turn l = order_of l.path l.fn.base ≡ l.order ++ order_from (length (drop l._turn-index l.path)) l.path l.bound
