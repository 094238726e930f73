use Rattle.std.proofs.Common.{rules, ◌≡◌, length, []}
use Rattle.probe_eval.specs.Rests.{rest_of}
use Rattle.probe_eval.proofs.RestSteps.{no_order}
use Rattle.probe_eval.proofs.rests.rest_found.Goals as goal

pub returns-in-None-clause-exists : goal.returns-in-None-clause-exists
returns-in-None-clause-exists g c =
    let by = c.is_ended.ensures.ended c.args.index.now in
    let f : c.is_ended.result ≡ rest_of c.args.index.now c.args.path.now c.args.mark [] c.args.env.now = search (rules, by) in
    let e : length c.args.order.now ≡ 0 = search rules in
    no_order c.args.index.now c.args.path.now c.args.mark c.args.order.now c.args.env.now c.is_ended.result e f
