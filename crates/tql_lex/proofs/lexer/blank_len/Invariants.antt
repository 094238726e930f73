use Rattle.std.proofs.Common.{◌≡◌, ◌+◌, drop}
use Rattle.tql_lex.specs.Tokens.{run, is_between_tokens}
use Rattle.tql_lex.proofs.lexer.blank_len.Given as goal

-- the bytes so far are of the run
abbrev pub invariant-loop-i : goal.invariant-loop-i
invariant-loop-i l = run is_between_tokens l.text ≡ l.i + run is_between_tokens (drop l.i l.text)
