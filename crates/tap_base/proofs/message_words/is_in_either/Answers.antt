use Rattle.std.proofs.Common.{◌∙◌, ap, sym}
use Rattle.std.specs.Prelude.{◌||◌}
use Rattle.tap_base.specs.Words.{words, has_text}
use Rattle.tap_base.proofs.FirstLaws.{held-in-both}
use Rattle.tap_base.proofs.message_words.is_in_either.Goals as goal

pub returns-then-has_word : goal.returns-then-has_word
returns-then-has_word c = sym (held-in-both c.args.subject.now c.args.body.now c.args.word.now
    ∙ ap (λ b. b || has_text (words c.args.body.now) c.args.word.now) (sym c.has_word.ensures ∙ c.if-has_word.true))

pub returns : goal.returns
returns c = c.has_word-2.ensures ∙ sym (held-in-both c.args.subject.now c.args.body.now c.args.word.now
    ∙ ap (λ b. b || has_text (words c.args.body.now) c.args.word.now) (sym c.has_word.ensures ∙ c.if-has_word.false))
