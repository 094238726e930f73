use Rattle.std.proofs.Common.{rules, ◌≡◌, None}
use Rattle.tap_model.specs.Verdicts.{no_moment}
use Rattle.tap_engine.specs.Standing.{mbox_refusal}
use Rattle.tap_engine.proofs.UndoLaws.{after-memory}
use Rattle.tap_engine.proofs.engine.Engine.new_messages.Goals as goal

pub returns-in_err-texts-clause-refusal : goal.returns-in_err-texts-clause-refusal
returns-in_err-texts-clause-refusal c =
    let moment : no_moment c.args.self.now.session ≡ None = search rules in
    let by = after-memory _ (mbox_refusal c.args.self.now c.args.block.now) moment in search (rules, by)
