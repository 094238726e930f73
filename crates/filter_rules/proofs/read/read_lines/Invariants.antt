use Rattle.std.proofs.Common.{◌≡◌, ◌≤◌, ◌+◌, length, map}
use Rattle.std.specs.Str.Lines.{lines}
use Rattle.filter_rules.specs.Rules.{rule_view}
use Rattle.filter_rules.specs.RuleTexts.{rule_lines, rule_lines_from, rules_at, with_rules_before}
use Rattle.filter_rules.proofs.read.read_lines.Given as goal

-- the rules are those so far and those of the lines that are left
abbrev pub invariant-lines : goal.invariant-lines
invariant-lines l = record {
  rules : rules_at (rule_lines l.fn.text) ≡ with_rules_before (map rule_view l.items) (rules_at (rule_lines_from l.number (lines l.rest)));
  number : l.number + length l.rest ≤ length l.fn.text + 1;
}

abbrev pub decreases-lines : goal.decreases-lines
decreases-lines l = length l.rest
