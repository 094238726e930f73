use Rattle.std.proofs.Common.{◌∙◌, ap, sym, map}
use Rattle.tap_base.specs.Words.{has_text, joined_text, word_from}
use Rattle.tap_base.specs.FirstPlaces.{places_with}
use Rattle.tap_base.proofs.FirstLaws.{by-tag}
use Rattle.tap_base.proofs.message_words.is_at.Goals as goal

pub places-init : goal.places-init
places-init c =
    by-tag (joined_text c.args.subject.now c.args.body.now) c.args.firsts.now.firsts c.args.word.now c.requires
    ∙ ap (λ tag. has_text (map (word_from (joined_text c.args.subject.now c.args.body.now)) (places_with tag c.args.firsts.now.firsts))
    c.args.word.now) (sym c.tag-tag.ensures)
    ∙ ap (λ firsts. has_text (map (word_from (joined_text c.args.subject.now c.args.body.now)) (places_with c.tag-tag.result firsts))
    c.args.word.now) (sym c.walk-rest.ensures)
