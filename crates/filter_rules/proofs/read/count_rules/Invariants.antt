use Rattle.std.proofs.Common.{◌≡◌, ◌≤◌, ◌+◌, length}
use Rattle.std.specs.Str.Lines.{lines}
use Rattle.filter_rules.specs.RuleTexts.{rule_lines, rule_lines_from}
use Rattle.filter_rules.proofs.read.count_rules.Given as goal

-- the lines of rules are those so far and those of what is left
abbrev pub invariant-lines : goal.invariant-lines
invariant-lines l = record {
  count : length (rule_lines l.fn.text) ≡ l.count + length (rule_lines_from 1 (lines l.rest));
  room : l.count + length l.rest ≤ length l.fn.text;
}

abbrev pub decreases-lines : goal.decreases-lines
decreases-lines l = length l.rest
