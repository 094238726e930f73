use Rattle.std.proofs.Common.{rules, ◌≡◌, None}
use Rattle.tap_engine.specs.Standing.{look_refusal}
use Rattle.tap_model.specs.Replies.{entries_in_run}
use Rattle.tap_engine.proofs.UndoLaws.{after-memory}
use Rattle.tap_engine.proofs.CostLaws.{digest-since}
use Rattle.tap_engine.proofs.engine.Engine.digest_named.Goals as goal

pub returns-then-kept-clause-refusal : goal.returns-then-kept-clause-refusal
returns-then-kept-clause-refusal g c =
    let look : look_refusal c.args.self.now c.args.name.now ≡ None = search rules in
    after-memory _ _ look

pub returns-in_err-lines-clause-steps : goal.returns-in_err-lines-clause-steps
returns-in_err-lines-clause-steps g c =
    let same : c.as_slice.result.now ≡ entries_in_run c.args.ordinal c.in_ok-kept.kept.now.entries = search rules in
    digest-since c.args.self.now c.args.name.now c.args.ordinal c.in_ok-kept.kept.now c.as_slice.result.now c.digest.new.steps
    c.args.steps.now c.in_ok-kept.ensures.ok same c.digest.ensures.steps

pub returns-clause-steps : goal.returns-clause-steps
returns-clause-steps g c =
    let same : c.as_slice.result.now ≡ entries_in_run c.args.ordinal c.in_ok-kept.kept.now.entries = search rules in
    digest-since c.args.self.now c.args.name.now c.args.ordinal c.in_ok-kept.kept.now c.as_slice.result.now c.digest.new.steps
    c.args.steps.now c.in_ok-kept.ensures.ok same c.digest.ensures.steps
