-- The rules of a filter's text, a line each.
use Rattle.std.specs.Prelude.{ℕ, suc, ◌≡◌, ◌≤◌, ◌⊎◌, List, [], ◌∷◌, ◌++◌, length, nat_le, Result, Ok, Err, if◌then◌else◌}
use Rattle.std.specs.Str.Lines.{lines}
use Rattle.tap_base.specs.LineWords.{is_skipped}
use Rattle.filter_rules.specs.declared.fault.RuleFault.{RuleFault}
use Rattle.filter_rules.specs.declared.fault.RuleFault.TheVariants.{Line, ManyRules, Memory}
use Rattle.filter_rules.specs.declared.rules.Rules.{Rules}
use Rattle.filter_rules.specs.Rules.{Rule, rules_in}
use Rattle.filter_rules.specs.RuleLines.{rule_of}

-- the lines of rules, each with its number among all lines: those that are neither blank nor comments
abbrev pub rule_lines_from : ℕ → List (List ℕ) → List (ℕ × List ℕ)
rule_lines_from number [] = []
rule_lines_from number (line ∷ lines) = if is_skipped line then rule_lines_from (suc number) lines
    else (number, line) ∷ rule_lines_from (suc number) lines

-- the lines of rules of a text
abbrev pub rule_lines : List ℕ → List (ℕ × List ℕ)
rule_lines text = rule_lines_from 1 (lines text)

-- a line's rule before others; the first fault wins
abbrev pub with_rule : ℕ → Result Rule ℕ → Result (List Rule) RuleFault → Result (List Rule) RuleFault
with_rule number (Err place) others = Err (Line number place)
with_rule number (Ok rule) (Err fault) = Err fault
with_rule number (Ok rule) (Ok rules) = Ok (rule ∷ rules)

-- the rules of some lines, or the first fault
abbrev pub rules_at : List (ℕ × List ℕ) → Result (List Rule) RuleFault
rules_at [] = Ok []
rules_at (line ∷ lines) = with_rule line.0 (rule_of line.1) (rules_at lines)

-- the rules of a text, a line each, or its first fault; more than 64 rules are a fault before any of a line; blank lines and
-- comments are no rules
abbrev pub rules_of : List ℕ → Result (List Rule) RuleFault
rules_of text = if nat_le (length (rule_lines text)) 64 then rules_at (rule_lines text) else Err ManyRules

-- the fault's line has this number at most
abbrev pub IsWithin : ℕ → RuleFault → Type 0
IsWithin most (Line number place) = number ≤ most
IsWithin most ManyRules = Unit {0}
IsWithin most Memory = Unit {0}

-- rules that are read already, and then others
abbrev pub with_rules_before : List Rule → Result (List Rule) RuleFault → Result (List Rule) RuleFault
with_rules_before rules (Err fault) = Err fault
with_rules_before rules (Ok others) = Ok (rules ++ others)

-- the result is what the definition gives, or out of memory
abbrev pub ReadsRules : Result (List Rule) RuleFault → Result Rules RuleFault → Type 0
ReadsRules expected (Ok rules) = expected ≡ Ok (rules_in rules)
ReadsRules expected (Err fault) = (expected ≡ Err fault) ⊎ (fault ≡ Memory)
