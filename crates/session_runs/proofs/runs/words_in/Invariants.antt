use Rattle.std.specs.List.{All}
use Rattle.std.specs.Str.{IsUtf8}
use Rattle.session_runs.proofs.runs.words_in.Given as goal

-- the words so far are UTF-8
abbrev pub invariant-loop-word : goal.invariant-loop-word
invariant-loop-word l = All IsUtf8 l.words
