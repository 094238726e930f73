use Rattle.tql_core.specs.Condition.{condition}
use Rattle.tql_core.specs.Trees.{tree_at}
use Rattle.delta_rewrite.specs.Asking.{asked_body}
use Rattle.delta_rewrite.proofs.Appended.{pushed_kept, pushed_probes, body_kept, body_is}
use Rattle.delta_rewrite.proofs.asked.add_asked.Goals as goal

pub returns-clause-kept : goal.returns-clause-kept
returns-clause-kept c =
    let old = c.args.pool.now in
    let new = c.asked_body.new.pool in
    let x = asked_body c.args.ask (condition c.args.cond.now) c.args.probe.at (tree_at old c.args.probe.body.0) in
    pushed_kept old new c.in_ok-body.ensures.kept c.args.out.now _ _ c.in_ok-push.ensures.ok c.requires.kept
    (body_kept old new c.in_ok-body.ensures.kept c.args.probe c.in_ok-body.body x c.requires.one c.in_ok-body.ensures.tree)

pub returns-clause-probes : goal.returns-clause-probes
returns-clause-probes c =
    let old = c.args.pool.now in
    let new = c.asked_body.new.pool in
    let x = asked_body c.args.ask (condition c.args.cond.now) c.args.probe.at (tree_at old c.args.probe.body.0) in
    pushed_probes old new c.in_ok-body.ensures.kept c.args.out.now _ _ _ c.in_ok-push.ensures.ok c.requires.kept
    (body_is old new c.in_ok-body.ensures.kept c.args.probe c.in_ok-body.body x c.in_ok-body.ensures.tree)
