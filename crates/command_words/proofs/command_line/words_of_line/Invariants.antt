use Rattle.std.specs.List.{All}
use Rattle.std.specs.Str.{IsUtf8}
use Rattle.command_words.proofs.command_line.words_of_line.Given as goal

-- the words so far are UTF-8
abbrev pub invariant-loop-word : goal.invariant-loop-word
invariant-loop-word g l = All IsUtf8 l.words
