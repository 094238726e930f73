use Rattle.std.proofs.Common.{rules, ◌≤◌, length}
use Rattle.filter_rules.specs.Rules.{rules_in}
use Rattle.filter_rules.specs.RuleTexts.{rule_lines}
use Rattle.filter_rules.proofs.Lines.{no_more}
use Rattle.filter_rules.proofs.read.read_rules.Goals as goal

pub returns-clause-few : goal.returns-clause-few
returns-clause-few c =
    let few : length (rule_lines c.args.text.now) ≤ 64 = search rules in
    no_more c.args.text.now (rules_in c.in_ok-rules.rules) 64 few c.in_ok-rules.ensures.rules
