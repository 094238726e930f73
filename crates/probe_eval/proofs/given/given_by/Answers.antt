use Rattle.std.proofs.Common.{rules, ◌≡◌, Some, None, sym, ap}
use Rattle.std.specs.Prelude.{option_to_list}
use Rattle.access_plan.specs.Accesses.{access_by, is_held}
use Rattle.access_plan.specs.Views.{access_at}
use Rattle.probe_eval.proofs.given.given_by.Goals as goal

pub returns-in-None : goal.returns-in-None
returns-in-None c =
    let e : None ≡ access_by (is_held c.args.env.now) c.args.var c.args.table c.args.guard.now = search rules in
    sym (ap option_to_list e)

pub returns-in-Some : goal.returns-in-Some
returns-in-Some c =
    let e : Some (access_at c.in-Some.access) ≡ access_by (is_held c.args.env.now) c.args.var c.args.table c.args.guard.now =
    search rules in
    sym (ap option_to_list e)
