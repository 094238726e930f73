use Rattle.std.proofs.Common.{◌≡◌, map, length}
use Rattle.tap_base.specs.Words.{has_text, joined_text, word_from}
use Rattle.tap_base.specs.FirstPlaces.{words_at, places_with}
use Rattle.tap_base.proofs.message_words.is_at.Given as goal

-- the word is at one of the places if it is at one of those that are left, with its tag
abbrev pub invariant-places : goal.invariant-places
invariant-places l = has_text (words_at (joined_text l.subject l.body) l.firsts.firsts) l.word
    ≡ has_text (map (word_from (joined_text l.subject l.body)) (places_with l.tag l.rest)) l.word

abbrev pub decreases-places : goal.decreases-places
decreases-places l = length (places_with l.tag l.rest)
