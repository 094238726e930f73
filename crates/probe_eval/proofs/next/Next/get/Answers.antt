use Rattle.std.proofs.Common.{rules, ◌≡◌, ◌∙◌, subst}
use Rattle.std.specs.Prelude.{IfSome}
use Rattle.access_plan.specs.Nearest.{nearest}
use Rattle.access_plan.specs.Views.{option_access, option_reach}
use Rattle.probe_eval.specs.Nexts.{IsNextOf, IsSole}
use Rattle.probe_eval.proofs.next.Next.get.Goals as goal

pub returns-in-Known-clause-reach : goal.returns-in-Known-clause-reach
returns-in-Known-clause-reach c =
    let h : IsNextOf c.args.path.now c.args.env.now (option_reach c.in-Known.reach) (option_access c.in-Known._sole) = search rules in
    h.is

pub returns-in-Unknown-clause-next : goal.returns-in-Unknown-clause-next
returns-in-Unknown-clause-next c =
    let path = c.args.path.now in
    let env = c.args.env.now in
    let sole = option_access c.sole_of.result in
    let e : option_reach c.nearest-reach.result ≡ nearest path env = search rules in
    record {
      is = e;
      sole = λ r n. subst (λ o. IfSome o (λ r. IsSole path env r sole)) (e ∙ n) c.sole_of.ensures;
    }

pub returns-in-Unknown-clause-found : goal.returns-in-Unknown-clause-found
returns-in-Unknown-clause-found c = returns-in-Unknown-clause-next c
