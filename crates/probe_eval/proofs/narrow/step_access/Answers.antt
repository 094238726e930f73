use Rattle.std.proofs.Common.{sym, ap}
use Rattle.access_plan.specs.Views.{access_at, option_access, reach_at}
use Rattle.probe_eval.proofs.GivenLaws.{sole_walked}
use Rattle.probe_eval.proofs.narrow.step_access.Goals as goal

pub returns-in-Some : goal.returns-in-Some
returns-in-Some c =
    sym (sole_walked c.args.path.now c.args.env.now (reach_at c.args.reach) (option_access c.args.sole) (access_at c.in-Some.access)
    c.requires (ap option_access c.in-Some.is) c.args.index.now c.args.env.now)
