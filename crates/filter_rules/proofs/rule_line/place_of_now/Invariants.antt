use Rattle.std.proofs.Common.{◌≡◌, drop}
use Rattle.filter_rules.specs.RuleLines.{place_of_now}
use Rattle.filter_rules.proofs.rule_line.place_of_now.Given as goal

-- the first place is that among the tokens that are left
abbrev pub invariant-loop-token : goal.invariant-loop-token
invariant-loop-token l = place_of_now l.tokens ≡ place_of_now (drop l.token-index l.tokens)
