-- Lines of rules, counted from any number.
use Rattle.std.proofs.Common.{◌≡◌, ◌∙◌, sym, ap, refl, subst, arith, ℕ, suc, List, [], ◌∷◌, ◌+◌, length, Bool, true, false, if◌then◌else◌}
use Rattle.tap_base.specs.LineWords.{is_skipped}
use Rattle.std.specs.Prelude.{◌≤◌, Result, Ok, Err}
use Rattle.filter_rules.specs.declared.fault.RuleFault.{RuleFault}
use Rattle.filter_rules.specs.Rules.{Rule}
use Rattle.filter_rules.specs.RuleLines.{rule_of}
use Rattle.filter_rules.specs.RuleTexts.{rule_lines_from, rule_lines, with_rule, rules_at}

-- there are as many, whatever the first number is
pub as-many : (n m : ℕ) (lines : List (List ℕ)) → length (rule_lines_from n lines) ≡ length (rule_lines_from m lines)
as-many n m [] = refl
as-many n m (line ∷ lines) = go (is_skipped line) (as-many (suc n) (suc m) lines) where
  go : (t : Bool) → length (rule_lines_from (suc n) lines) ≡ length (rule_lines_from (suc m) lines)
      → length (if t then rule_lines_from (suc n) lines else (n, line) ∷ rule_lines_from (suc n) lines)
      ≡ length (if t then rule_lines_from (suc m) lines else (m, line) ∷ rule_lines_from (suc m) lines)
  go true rest = rest
  go false rest = ap suc rest

-- a line more
pub one_more : (line : List ℕ) (lines : List (List ℕ))
    → length (rule_lines_from 1 (line ∷ lines)) ≡ (if is_skipped line then 0 else 1) + length (rule_lines_from 1 lines)
one_more line lines = go (is_skipped line) (as-many 2 1 lines) where
  go : (t : Bool) → length (rule_lines_from 2 lines) ≡ length (rule_lines_from 1 lines)
      → length (if t then rule_lines_from 2 lines else (1, line) ∷ rule_lines_from 2 lines)
      ≡ (if t then 0 else 1) + length (rule_lines_from 1 lines)
  go true same = grind (arith, same)
  go false same = grind (arith, same)

-- as many rules as lines, where all of them are rules
abbrev IfAsMany : ℕ → Result (List Rule) RuleFault → Type 0
IfAsMany n (Err fault) = Unit {0}
IfAsMany n (Ok rules) = length rules ≡ n

one-with : (number n : ℕ) (rule : Result Rule ℕ) (others : Result (List Rule) RuleFault) → IfAsMany n others
    → IfAsMany (suc n) (with_rule number rule others)
one-with number n (Err place) others rest = tt
one-with number n (Ok rule) (Err fault) rest = tt
one-with number n (Ok rule) (Ok rules) rest = ap suc rest

rules-count : (lines : List (ℕ × List ℕ)) → IfAsMany (length lines) (rules_at lines)
rules-count [] = refl
rules-count (line ∷ lines) = one-with line.0 (length lines) (rule_of line.1) (rules_at lines) (rules-count lines)

-- the rules of a text are no more than its lines of rules
pub no_more : (text : List ℕ) (rules : List Rule) (most : ℕ) → length (rule_lines text) ≤ most → rules_at (rule_lines text) ≡ Ok rules
    → length rules ≤ most
no_more text rules most few is =
    let same : length rules ≡ length (rule_lines text) = subst (IfAsMany (length (rule_lines text))) is (rules-count (rule_lines text)) in
    grind (arith, same, few)
