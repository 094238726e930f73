use Rattle.std.proofs.Common.{◌≡◌, ◌≤◌, ◌-◌, ◌+◌, drop, length}
use Rattle.tql_lex.specs.Tokens.{quoted, width, with_content}
use Rattle.tql_lex.proofs.lexer.quoted_text.Given as goal

-- what is left follows the content so far
abbrev pub invariant-loop-width : goal.invariant-loop-width
invariant-loop-width l = record {
  value : quoted l.text ≡ with_content l.content l.at (quoted (drop l.at l.text));
  next : l.width ≡ width (drop l.at l.text);
  within : l.at + l.width ≤ length l.text;
}

abbrev pub decreases-loop-width : goal.decreases-loop-width
decreases-loop-width l = length l.text - l.at
