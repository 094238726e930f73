use Rattle.std.proofs.Common.{◌≡◌, ◌≤◌, ◌<◌, ◌-◌, drop, length, false, get_or}
use Rattle.tql_lex.specs.Tokens.{tokens_from, with_front, is_between_tokens}
use Rattle.tql_lex.proofs.lexer.read.Given as goal

-- the tokens that are left follow those so far
abbrev pub invariant-loop-at : goal.invariant-loop-at
invariant-loop-at l = record {
  value : tokens_from 0 0 l.text ≡ with_front l.tokens.items (tokens_from 0 l.at (drop l.at l.text));
  within : l.at ≤ length l.text;
  short : length l.text ≤ 4096;
  stops : l.at < length l.text → is_between_tokens (get_or l.text l.at 0) ≡ false;
}

abbrev pub decreases-loop-at : goal.decreases-loop-at
decreases-loop-at l = length l.text - l.at
