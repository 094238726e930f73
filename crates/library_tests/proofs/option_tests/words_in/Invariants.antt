use Rattle.std.specs.List.{All}
use Rattle.std.specs.Str.{IsUtf8}
use Rattle.library_tests.proofs.option_tests.words_in.Given as goal

-- the words so far are UTF-8
abbrev pub invariant-loop-word : goal.invariant-loop-word
invariant-loop-word l = All IsUtf8 l.words
