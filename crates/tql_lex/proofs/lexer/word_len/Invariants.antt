use Rattle.std.proofs.Common.{◌≡◌, ◌+◌, drop}
use Rattle.tql_lex.specs.Tokens.{run, is_of_word}
use Rattle.tql_lex.proofs.lexer.word_len.Given as goal

-- the bytes so far are of the run
abbrev pub invariant-loop-i : goal.invariant-loop-i
invariant-loop-i l = run is_of_word l.text ≡ l.i + run is_of_word (drop l.i l.text)
