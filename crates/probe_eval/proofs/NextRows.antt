-- The step that is looked for next depends on which variables have a row, and not on the rows.
use Rattle.std.proofs.Common.{◌≡◌, ◌∙◌, ℕ, Bool, true, false, is_some, Some, None, Option, List, refl, ap, sym, if◌then◌else◌, nat_eq}
use Rattle.std.specs.Prelude.{option_map, fold}
use Rattle.std.specs.Option.{option_or}
use Rattle.tql_core.specs.declared.term.Var.{Var}
use Rattle.tql_core.specs.Row.{Row}
use Rattle.tql_core.specs.Values.{Env, bind, lookup}
use Rattle.time_marks.specs.declared.mark.Step.{Step}
use Rattle.access_plan.specs.declared.access.Access.{Access}
use Rattle.access_plan.specs.declared.reach.Reach.{Reach}
use Rattle.access_plan.specs.declared.access.Access.TheVariants.{Whole}
use Rattle.access_plan.specs.Accesses.{first_some, is_held, better_by}
use Rattle.access_plan.specs.Orders.{reach_of}
use Rattle.access_plan.specs.Nearest.{from_row, nearest}
use Rattle.probe_eval.specs.declared.next.Next.{Next}
use Rattle.probe_eval.specs.declared.next.Next.TheVariants.{Unknown, Known}
use Rattle.access_plan.specs.Views.{option_access}
use Rattle.probe_eval.specs.Nexts.{IsNearestIfKnown}
use Rattle.probe_eval.proofs.GivenLaws.{sole_held}

module _ (path : List Step) (known : ℕ → Bool) where
  near_known : Step → Option Access
  near_known step = fold (λ best (s : Step). fold (better_by known step.var step.table) best s.guards) None path

  nearest_known : Option Reach
  nearest_known =
      option_or
      (first_some (λ (step : Step). if known step.var.0 then None else option_map (reach_of step) (from_row (near_known step))) path)
      (option_or (first_some (λ (step : Step). if known step.var.0 then None else option_map (reach_of step) (near_known step)) path)
      (first_some (λ (step : Step). if known step.var.0 then None else Some (reach_of step (Whole step.table))) path))

is_known_nearest : (path : List Step) (env : Env) → nearest path env ≡ nearest_known path (is_held env)
unfolding nearest_known near_known
is_known_nearest path env = refl

-- the nearest step is the same beside rows of the same variables
pub nearest_held : (path : List Step) (env other : Env) → is_held env ≡ is_held other → nearest path env ≡ nearest path other
nearest_held path env other h = is_known_nearest path env ∙ (ap (nearest_known path) h ∙ sym (is_known_nearest path other))

held_at : (v : Var) (row other : Row) (env : Env) (k : ℕ) → is_held (bind v row env) k ≡ is_held (bind v other env) k
held_at v row other env k = go (nat_eq k v.0)
  where
    go : (b : Bool) → is_some (if b then Some row else lookup k env) ≡ is_some (if b then Some other else lookup k env)
    go true = refl
    go false = refl

pub held_alike : (v : Var) (row other : Row) (env : Env) → is_held (bind v row env) ≡ is_held (bind v other env)
held_alike v row other env t k = held_at v row other env k t

nearest_alike : (path : List Step) (v : Var) (row other : Row) (env : Env) → nearest path (bind v row env) ≡ nearest path (bind v other env)
nearest_alike path v row other env = nearest_held path (bind v row env) (bind v other env) (held_alike v row other env)

-- so what was found beside one row of a variable serves beside each other
pub next_alike : (path : List Step) (v : Var) (row other : Row) (env : Env) (next : Next) → IsNearestIfKnown path (bind v row env) next
    → IsNearestIfKnown path (bind v other env) next
next_alike path v row other env Unknown h = h
next_alike path v row other env (Known reach sole) h = record {
  is = h.is ∙ nearest_alike path v row other env;
  sole = λ r e. sole_held path (bind v row env) (bind v other env) r (option_access sole) (held_alike v row other env)
      (h.sole r (nearest_alike path v row other env ∙ e));
}
