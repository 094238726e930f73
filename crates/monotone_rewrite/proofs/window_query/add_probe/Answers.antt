use Rattle.tql_core.specs.Condition.{condition}
use Rattle.time_marks.specs.Marks.{body}
use Rattle.time_marks.proofs.GrownPools.{all_still_kept}
use Rattle.monotone_rewrite.specs.Folding.{fold}
use Rattle.monotone_rewrite.proofs.SharedNodes.{probe_added}
use Rattle.monotone_rewrite.proofs.window_query.add_probe.Goals as goal

pub push_probe-requires-clause-kept : goal.push_probe-requires-clause-kept
push_probe-requires-clause-kept c =
    all_still_kept c.args.pool.now c.folded_body.new.pool c.in_ok-body.ensures.kept c.args.probes.now c.requires.kept

pub returns-clause-probes : goal.returns-clause-probes
returns-clause-probes c =
    probe_added c.args.pool.now c.folded_body.new.pool c.in_ok-body.ensures.kept c.args.probes.now c.requires.kept c.push_probe.new.probes
    c.args.mark.now c.in_ok-body.body.0 (fold c.args.mark.now.at (body (condition c.args.cond.now) c.args.mark.now.at))
    c.in_ok-body.ensures.tree c.in_ok-push_probe.ensures.probes
