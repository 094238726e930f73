use Rattle.std.proofs.Common.{◌∙◌, sym}
use Rattle.restart_core.proofs.StartLaws.{text-at}
use Rattle.restart_core.proofs.start.cut_start.Goals as goal

pub returns-then-is_from_now-clause-text : goal.returns-then-is_from_now-clause-text
returns-then-is_from_now-clause-text c =
    text-at c.args.source.now c.skip_words.result.now c.skip_words.ensures (sym c.is_from_now.ensures ∙ c.if-is_from_now.true)
