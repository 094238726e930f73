use Rattle.std.proofs.Common.{◌∙◌, ap, drop, subst}
use Rattle.std.proofs.lemmas.List.{take_rest}
use Rattle.tap_base.specs.Words.{joined_text}
use Rattle.tap_base.specs.FirstPlaces.{KnowsWords}
use Rattle.tap_base.proofs.Reading.{held-in-parts, held-at-places, tags-in-parts}
use Rattle.tap_base.proofs.message_words.MessageWords.holds.Goals as goal

pub returns-in-None : goal.returns-in-None
returns-in-None c = c.is_in_either.ensures ∙ held-in-parts c.self.inside.subject (drop c.self.inside.body c.self.inside.text)
    c.as_slice-subject.result.now _ c.args.self.now c.args.text.now c.as_slice-subject.ensures
    (take_rest c.as_slice.result.now c.self.inside.body ∙ ap (drop c.self.inside.body) c.as_slice.ensures) c.self.view_is

pub is_at-requires : goal.is_at-requires
is_at-requires c =
    let body = drop c.self.inside.body c.self.inside.text in
    tags-in-parts c.self.inside.subject body c.as_slice-subject.result.now _ c.in-Some.firsts.firsts c.as_slice-subject.ensures
    (take_rest c.as_slice.result.now c.self.inside.body ∙ ap (drop c.self.inside.body) c.as_slice.ensures)
    (subst (KnowsWords (joined_text c.self.inside.subject body)) c.in-Some.is c.self.invariant.1)

pub returns-in-Some : goal.returns-in-Some
returns-in-Some c =
    let body = drop c.self.inside.body c.self.inside.text in
    c.is_at.ensures
    ∙ held-at-places c.self.inside.subject body c.as_slice-subject.result.now _ c.args.self.now c.in-Some.firsts.firsts c.args.text.now
    c.as_slice-subject.ensures
    (take_rest c.as_slice.result.now c.self.inside.body ∙ ap (drop c.self.inside.body) c.as_slice.ensures) c.self.view_is
    (subst (KnowsWords (joined_text c.self.inside.subject body)) c.in-Some.is c.self.invariant.1)
