-- Rules of a filter.
use Rattle.std.specs.Prelude.{ℕ, List, map}
use Rattle.tql_core.specs.Condition.{Condition, condition}
use Rattle.filter_rules.specs.declared.rule.KeptRule.{KeptRule}
use Rattle.filter_rules.specs.declared.rules.Rules.{Rules}

-- a rule: a condition, and the rating of the documents that it holds for
pub record Rule : Type 0 where
  pub condition : Condition
  pub priority : ℕ
  pub class : List ℕ

-- the rule that the code's represents
abbrev pub rule_view : KeptRule → Rule
rule_view kept = record { condition = condition kept.cond; priority = kept.priority; class = kept.class }

-- the rules that the code's represent, in their order
abbrev pub rules_in : Rules → List Rule
rules_in rules = map rule_view rules.items
