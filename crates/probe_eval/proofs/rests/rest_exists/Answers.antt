use Rattle.std.proofs.Common.{rules, ◌≡◌, false}
use Rattle.probe_eval.specs.Open.{may_go}
use Rattle.probe_eval.proofs.RestSteps.{stopped}
use Rattle.probe_eval.proofs.rests.rest_exists.Goals as goal

pub returns-then-not-may_go-clause-exists : goal.returns-then-not-may_go-clause-exists
returns-then-not-may_go-clause-exists g c =
    let m : may_go c.args.path.now c.args.mark c.args.env.now ≡ false = search rules in
    stopped c.args.index.now c.args.path.now c.args.mark c.args.order.now c.args.env.now m
