use Rattle.std.proofs.Common.{sym, subst, drop}
use Rattle.tap_base.specs.FirstPlaces.{WordsRead, HoldSameTexts}
use Rattle.tap_base.proofs.FirstLaws.{noted-known}
use Rattle.tap_base.proofs.word_reader.WordReader.into_words.Goals as goal

pub known-requires-clause-firsts : goal.known-requires-clause-firsts
known-requires-clause-firsts c =
    noted-known c.self.inside.subject (drop c.self.inside.body c.self.inside.text) c.self.inside.lowered c.self.inside.firsts.firsts
    c.self.invariant.lowers c.self.invariant.begin
    (subst (λ (read : WordsRead). HoldSameTexts read.noted read.words) (sym c.self.view_is) c.requires)
