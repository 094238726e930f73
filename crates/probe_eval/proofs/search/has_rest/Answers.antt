use Rattle.std.proofs.Common.{rules, ◌≡◌, ◌∙◌}
use Rattle.probe_eval.specs.Open.{may_go}
use Rattle.probe_eval.proofs.RestSteps.{sure_rest}
use Rattle.probe_eval.proofs.search.has_rest.Goals as goal

pub returns-then-sure-clause-rest : goal.returns-then-sure-clause-rest
returns-then-sure-clause-rest g c =
    let m : c.may_go.result ≡ may_go c.args.search.now.probe.now.path c.args.mark c.args.env.now = search rules in
    m ∙ sure_rest c.args.search.now.index.now c.args.search.now.probe.now.path c.args.mark c.args.order.now c.args.env.now
    (c.requires.sure c.if-sure.true)
