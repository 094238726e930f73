use Rattle.std.proofs.Common.{◌≡◌, ◌≤◌, drop, true}
use Rattle.std.specs.List.{list_all}
use Rattle.std.specs.Str.Parse.{digits_value, digits_value_after}
use Rattle.tql_lex.specs.Tokens.{is_digit, most}
use Rattle.tql_lex.proofs.lexer.number_of.Given as goal

-- the digits that are left follow those of the number so far
abbrev pub invariant-loop-b : goal.invariant-loop-b
invariant-loop-b l = record {
  digits : list_all is_digit (drop l.b-index l.text) ≡ true;
  value : digits_value 10 l.text ≡ digits_value_after 10 l.n (drop l.b-index l.text);
  small : l.n ≤ most;
}
