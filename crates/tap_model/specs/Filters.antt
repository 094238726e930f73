-- Filters, and the rules of a user.
use Rattle.std.specs.Prelude.{ℕ, List, [], reverse, find, Option, Some, None, Result, Ok, Err}
use Rattle.std.specs.Str.{bytes_eq}
use Rattle.tap_rows.specs.declared.tables.Tables.{Tables}
use Rattle.tap_rows.specs.declared.rows.FilterRow.{FilterRow}
use Rattle.filter_rules.specs.declared.fault.RuleFault.{RuleFault}
use Rattle.filter_rules.specs.Rules.{Rule}
use Rattle.filter_rules.specs.RuleTexts.{rules_of}

-- the rules of a reading; one with a fault has no rules
abbrev pub or_none : Result (List Rule) RuleFault → List Rule
or_none (Err fault) = []
or_none (Ok rules) = rules

-- the rules of a filter's text
unfoldable pub rules_in_text : List ℕ → List Rule
rules_in_text source = or_none (rules_of source)

-- the last of the user's filters
abbrev pub last_filter : List ℕ → List FilterRow → Option FilterRow
last_filter user filters = find (λ filter. bytes_eq filter.owner user) (reverse filters)

-- the rules of a filter, if there is one
abbrev pub filter_rules : Option FilterRow → List Rule
filter_rules None = []
filter_rules (Some filter) = rules_in_text filter.source

-- the rules by which a user's boxes are listed: those of the user's last filter
abbrev pub rules_of_user : List ℕ → Tables → List Rule
rules_of_user user tables = filter_rules (last_filter user tables.filters)
