-- What a walk along the steps of a path needs.
use Rattle.std.specs.Prelude.{◌+◌, ℤ, Bool, List, length}
use Rattle.tql_core.specs.Values.{Env}
use Rattle.access_plan.specs.declared.reach.Reach.{Reach}
use Rattle.probe_eval.specs.declared.next.Next.{Next}
use Rattle.probe_eval.specs.declared.search.Search.{Search}
use Rattle.probe_eval.specs.Levels.{IsSure}
use Rattle.probe_eval.specs.Nexts.{IsNearestIfKnown}
use Rattle.probe_eval.specs.Searches.{HasBody, HasSlots}

-- there is room for the rows that are left, and the step that is looked for next is the nearest beside the rows that are bound, if
-- it was found
pub record CanWalk (s : Search) (order : List Reach) (next : Next) (env : Env) : Type 0 where
  pub room : HasSlots s (length env + length order)
  pub nearest : IsNearestIfKnown s.probe.now.path env next

-- the same, the body can be evaluated, and if the rest of the path is said to be sure, it exists beside rows that may go on
pub record CanAnswer (s : Search) (order : List Reach) (next : Next) (sure : Bool) (env : Env) (mark : ℤ) : Type 0 where
  pub node : HasBody s
  pub room : HasSlots s (length env + length order)
  pub nearest : IsNearestIfKnown s.probe.now.path env next
  pub certain : IsSure s.index.now s.probe.now.path mark order env sure
