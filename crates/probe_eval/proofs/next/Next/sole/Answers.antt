use Rattle.std.proofs.Common.{rules}
use Rattle.access_plan.specs.Views.{option_access, option_reach}
use Rattle.probe_eval.specs.Nexts.{IsNextOf, IsFoundNearest}
use Rattle.probe_eval.specs.declared.next.Next.TheVariants.{Unknown}
use Rattle.probe_eval.proofs.next.Next.sole.Goals as goal

pub returns-in-Known : goal.returns-in-Known
returns-in-Known c path env r h e =
    let k : IsNextOf path env (option_reach c.in-Known._reach) (option_access c.in-Known.sole) = search rules in
    k.sole r e

pub returns-in-Unknown : goal.returns-in-Unknown
returns-in-Unknown c path env r h e =
    let none : IsFoundNearest path env Unknown = search (rules, h) in
    absurd none
