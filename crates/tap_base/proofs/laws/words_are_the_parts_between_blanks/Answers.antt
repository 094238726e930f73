use Rattle.tap_base.proofs.WordLaws.{word-is, has_words-is}
use Rattle.tap_base.proofs.laws.words_are_the_parts_between_blanks.Goals as goal

pub returns : goal.returns
returns c = λ n line. (word-is n line, has_words-is n line)
