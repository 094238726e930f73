use Rattle.std.proofs.Common.{◌≡◌, ◌∙◌, ◌<◌, ◌-◌, ap, sym, subst, take, drop, length, rules}
use Rattle.tap_base.specs.FirstPlaces.{WordsRead, tag_of}
use Rattle.tap_base.proofs.Reading.{noted-reading, noted-words}
use Rattle.tap_base.proofs.word_reader.WordReader.note.Goals as goal

pub invariant_of-self : goal.invariant_of-self
invariant_of-self c =
    let r = c.self.inside in
    let some : 0 < length (take (r.end - r.start) (drop r.start r.lowered)) =
    subst (λ (read : WordsRead). 0 < length read.word) (sym c.self.view_is) c.requires in
    let word : c.word.result.now ≡ take (r.end - r.start) (drop r.start r.lowered) = search rules in
    noted-reading r.subject r.text r.body r.lowered r.start r.end r.next r.firsts c.push.new.self c.tag-tag.result c.push.result
    c.self.invariant some (c.tag-tag.ensures ∙ ap tag_of word) c.push.ensures.ok c.push.ensures.err

pub returns-clause-noted : goal.returns-clause-noted
returns-clause-noted c =
    let r = c.self.inside in
    let some : 0 < length (take (r.end - r.start) (drop r.start r.lowered)) =
    subst (λ (read : WordsRead). 0 < length read.word) (sym c.self.view_is) c.requires in
    noted-words r.subject r.text r.body r.lowered r.start r.end r.next r.firsts c.push.new.self c.tag-tag.result c.push.result
    c.args.self.now c.self.invariant (ap (λ (read : WordsRead). read.noted) (sym c.self.view_is))
    (ap (λ (read : WordsRead). read.word) (sym c.self.view_is)) some c.push.ensures.ok
