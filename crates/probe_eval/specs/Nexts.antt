-- The step that is looked for next, once it was found.
use Rattle.std.specs.Prelude.{◌≡◌, List, [], ◌∷◌, Option, Some, None}
use Rattle.tql_core.specs.Values.{Env}
use Rattle.time_marks.specs.declared.mark.Step.{Step}
use Rattle.access_plan.specs.declared.access.Access.{Access}
use Rattle.access_plan.specs.declared.reach.Reach.{Reach}
use Rattle.access_plan.specs.Nearest.{nearest}
use Rattle.probe_eval.specs.StepRows.{step_accesses}
use Rattle.access_plan.specs.Views.{option_access, option_reach}
use Rattle.probe_eval.specs.declared.next.Next.{Next}
use Rattle.probe_eval.specs.declared.next.Next.TheVariants.{Unknown, Known}

-- the only one of these accesses, or the other if there are none; it is absent if and only if there are several
abbrev pub only_access : List Access → Access → Option Access
only_access [] other = Some other
only_access (a ∷ []) other = Some a
only_access (a ∷ b ∷ accesses) other = None

-- the one access by which the rows are walked, whichever rows have these variables; it is absent if and only if guards give several
abbrev pub IsSole : List Step → Env → Reach → Option Access → Type 0
IsSole path env r sole = sole ≡ only_access (step_accesses path env r.var r.table) r.access

-- what is nearest beside these rows, and its one access
pub record IsNextOf (path : List Step) (env : Env) (reach : Option Reach) (one : Option Access) : Type 0 where
  pub is : reach ≡ nearest path env
  pub sole : (r : Reach) → nearest path env ≡ Some r → IsSole path env r one

-- it was found, and is the nearest beside these rows
abbrev pub IsFoundNearest : List Step → Env → Next → Type 0
IsFoundNearest path env Unknown = ⊥
IsFoundNearest path env (Known reach sole) = IsNextOf path env (option_reach reach) (option_access sole)

-- it wasn't found yet, or is the nearest beside these rows
abbrev pub IsNearestIfKnown : List Step → Env → Next → Type 0
IsNearestIfKnown path env Unknown = Unit {0}
IsNearestIfKnown path env (Known reach sole) = IsNextOf path env (option_reach reach) (option_access sole)
