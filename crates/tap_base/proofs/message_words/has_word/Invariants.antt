use Rattle.std.proofs.Common.{◌≡◌, length}
use Rattle.tap_base.specs.Words.{has_text, words}
use Rattle.tap_base.proofs.message_words.has_word.Given as goal

-- the word is in the text if it is in what is left
abbrev pub invariant-words : goal.invariant-words
invariant-words l = has_text (words l.fn.text) l.word ≡ has_text (words l.rest) l.word

abbrev pub decreases-words : goal.decreases-words
decreases-words l = length l.rest
