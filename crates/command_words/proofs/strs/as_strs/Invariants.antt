use Rattle.std.proofs.Common.{◌≡◌, ◌++◌, drop}
use Rattle.command_words.specs.Words.{word_bytes}
use Rattle.command_words.proofs.strs.as_strs.Given as goal

-- the texts are those so far, and then those that are left
abbrev pub invariant-loop-text : goal.invariant-loop-text
invariant-loop-text l = l.texts ≡ word_bytes l.strs.items ++ drop l.text-index l.texts
