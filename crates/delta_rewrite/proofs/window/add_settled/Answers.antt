use Rattle.std.proofs.Common.{rules, subst}
use Rattle.tql_core.specs.Trees.{tree_at, IsTreeAt, KeepsTrees}
use Rattle.time_marks.proofs.GrownPools.{all_still_kept}
use Rattle.monotone_rewrite.specs.Folding.{fold}
use Rattle.delta_rewrite.specs.Delta.{settled}
use Rattle.delta_rewrite.proofs.Appended.{settled_added}
use Rattle.delta_rewrite.proofs.window.add_settled.Goals as goal

pub push_found-requires-clause-kept : goal.push_found-requires-clause-kept
push_found-requires-clause-kept c =
    all_still_kept c.args.pool.now c.settled_body.new.pool
    (λ id x h. c.in_ok-settled.ensures.kept id x (c.in_ok-folded.ensures.kept id x h)) c.args.out.now c.requires.kept

pub returns-clause-nodes : goal.returns-clause-nodes
returns-clause-nodes c id x h = c.in_ok-settled.ensures.kept id x (c.in_ok-folded.ensures.kept id x h)

pub returns-clause-probes : goal.returns-clause-probes
returns-clause-probes c =
    let p = c.args.probe in
    let keeps : KeepsTrees c.args.pool.now c.settled_body.new.pool = (λ id x h.
    c.in_ok-settled.ensures.kept id x (c.in_ok-folded.ensures.kept id x h)) in
    let x = fold p.at (tree_at c.args.pool.now p.body.0) in
    let a : IsTreeAt c.folded_body.new.pool c.in_ok-folded.folded.0 x = search rules in
    let t : IsTreeAt c.settled_body.new.pool c.in_ok-settled.settled.0 (fold p.at (settled p.path
    (tree_at c.folded_body.new.pool c.in_ok-folded.folded.0))) = search rules in
    settled_added c.args.pool.now c.settled_body.new.pool keeps c.args.out.now c.push_found.new.out p
    c.in_ok-settled.settled.0 c.requires.kept
    (subst (λ z. IsTreeAt c.settled_body.new.pool c.in_ok-settled.settled.0 (fold p.at (settled p.path z))) a.is t)
    c.in_ok-push_found.ensures.probes
