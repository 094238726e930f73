use Rattle.std.proofs.Common.{rules, ◌≡◌, true, false, []}
use Rattle.std.specs.Prelude.{is_some, not}
use Rattle.access_plan.specs.Nearest.{nearest}
use Rattle.access_plan.specs.Views.{option_reach}
use Rattle.probe_eval.specs.Open.{may_go}
use Rattle.probe_eval.proofs.RestSteps.{ended, stopped}
use Rattle.probe_eval.proofs.rests.is_ended.Goals as goal

pub returns-then-may_go-clause-ended : goal.returns-then-may_go-clause-ended
returns-then-may_go-clause-ended c T =
    let m : may_go c.args.path.now c.args.mark c.args.env.now ≡ true = search rules in
    let e : option_reach c.get.result ≡ nearest c.args.path.now c.args.env.now = search rules in
    let s : is_some c.get.result ≡ not c.is_none.result = search rules in
    ended T c.args.path.now c.args.mark c.args.env.now c.get.result c.is_none.result m e s

pub returns-else-may_go-clause-ended : goal.returns-else-may_go-clause-ended
returns-else-may_go-clause-ended c T =
    let m : may_go c.args.path.now c.args.mark c.args.env.now ≡ false = search rules in
    stopped T c.args.path.now c.args.mark [] c.args.env.now m
