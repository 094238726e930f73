use Rattle.std.proofs.Common.{◌∙◌, ap, rules}
use Rattle.std.proofs.lemmas.List.{take_rest}
use Rattle.tap_base.specs.Words.{word_from}
use Rattle.tap_base.proofs.FirstLaws.{in-subject, in-body}
use Rattle.tap_base.proofs.message_words.from_place.Goals as goal

pub returns-then-at-subject : goal.returns-then-at-subject
returns-then-at-subject c = ap (λ xs. word_from xs 0) (take_rest c.args.subject.now c.args.at)
    ∙ in-subject c.args.subject.now c.args.body.now c.args.at (search rules)

pub returns-then-at-subject-3 : goal.returns-then-at-subject-3
returns-then-at-subject-3 c = ap (λ xs. word_from xs 0) (take_rest c.args.body.now _)
    ∙ in-body c.args.subject.now c.args.body.now c.args.at (search rules)
