-- In which order the rows of a path are looked for.
use Rattle.std.specs.Prelude.{ℕ, zero, suc, Option, Some, None, option_map, List, [], ◌∷◌, ◌++◌, map, length, if◌then◌else◌}
use Rattle.std.specs.Option.{option_or}
use Rattle.tql_core.specs.declared.term.Var.{Var}
use Rattle.tql_core.specs.declared.term.Base.{Base}
use Rattle.tql_core.specs.declared.term.Base.TheVariants.{Arrival, Date, Fixed, ArrivalDay, DateDay}
use Rattle.time_marks.specs.declared.mark.Step.{Step}
use Rattle.time_marks.specs.declared.ranged.Ranged.{Ranged}
use Rattle.access_plan.specs.declared.access.Access.{Access}
use Rattle.access_plan.specs.declared.reach.Reach.{Reach}
use Rattle.access_plan.specs.declared.access.Access.TheVariants.{Whole}
use Rattle.access_plan.specs.Accesses.{first_some, is_bound, index_access}

-- the variable of the driving row, if there is one
abbrev pub driven : Base → List Var
driven (Arrival v) = v ∷ []
driven (Date v) = v ∷ []
driven Fixed = []
driven (ArrivalDay v n) = v ∷ []
driven (DateDay v n) = v ∷ []

abbrev pub reach_of : Step → Access → Reach
reach_of step access = record { var = step.var; table = step.table; access = access }

-- a step that is still to be bound, by an access of the index
abbrev pub by_index : List Var → Step → Option Reach
by_index bound step = if is_bound bound step.var.0 then None
    else option_map (reach_of step) (index_access (is_bound bound) step.var step.table step.guards)

-- a step that is still to be bound, by all rows of its table
abbrev pub by_table : List Var → Step → Option Reach
by_table bound step = if is_bound bound step.var.0 then None else Some (reach_of step (Whole step.table))

-- which step is bound next: the first one that has an access of the index, else the first one
abbrev pub next_reach : List Step → List Var → Option Reach
next_reach path bound = option_or (first_some (by_index bound) path) (first_some (by_table bound) path)

-- a reach, and those after it
abbrev pub and_then : Option Reach → (Reach → List Reach) → List Reach
and_then None rest = []
and_then (Some r) rest = r ∷ rest r

-- the order from here on, of at most that many steps
abbrev pub order_from : ℕ → List Step → List Var → List Reach
order_from zero path bound = []
order_from (suc n) path bound = and_then (next_reach path bound) (λ r. order_from n path (bound ++ r.var ∷ []))

-- the order in which the steps of a path are bound after the driving row, again and again the next one
abbrev pub order_of : List Step → Base → List Reach
order_of path base = order_from (length path) path (driven base)

-- the order of each probe
abbrev pub orders_of : List Ranged → List (List Reach)
orders_of parts = map (λ part. order_of part.probe.path part.probe.at.base) parts
