use Rattle.std.proofs.Common.{◌≡◌}
use Rattle.access_plan.specs.Inners.{inners_to}
use Rattle.access_plan.proofs.inners.inners_of.Given as goal

-- the numbers before this one are done
abbrev pub invariant-loop-id : goal.invariant-loop-id
invariant-loop-id l = l.inners ≡ inners_to l.pool l.id
