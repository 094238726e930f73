use Rattle.std.proofs.Common.{◌≡◌, drop, []}
use Rattle.tap_base.specs.Words.{with_new}
use Rattle.tap_base.proofs.word_set.WordSet.of.Given as goal

-- the texts that are left add what is missing
abbrev pub invariant-loop-text : goal.invariant-loop-text
invariant-loop-text l = with_new [] l.texts ≡ with_new l.set.keys (drop l.text-index l.texts)
