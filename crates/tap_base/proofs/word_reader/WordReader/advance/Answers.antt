use Rattle.std.proofs.Common.{◌∙◌, ap, sym, drop}
use Rattle.std.proofs.lemmas.List.{take_rest}
use Rattle.tap_base.specs.Words.{joined_text}
use Rattle.tap_base.specs.FirstPlaces.{WordsRead}
use Rattle.tap_base.proofs.WordPlaces.{next-word}
use Rattle.tap_base.proofs.word_reader.WordReader.advance.Goals as goal

pub returns-in-Some-clause-word : goal.returns-in-Some-clause-word
returns-in-Some-clause-word c = λ _.
    ap (λ (r : WordsRead). r.left) (sym c.self.view_is)
    ∙ next-word c.self.inside.lowered (joined_text c.self.inside.subject (drop c.self.inside.body c.self.inside.text)) _
    c.self.inside.next c.in-Some.first.start c.in-Some.first.end c.in-Some.first.next c.self.invariant.lowers
    (take_rest c.as_slice.result.now c.self.inside.next ∙ ap (drop c.self.inside.next) c.as_slice.ensures) c.in-Some.ensures.some
    c.in-Some.ensures.run
