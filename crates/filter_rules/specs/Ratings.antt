-- How the rules of a filter rate a document.
use Rattle.std.specs.Prelude.{ℕ, pos, max, List, [], ◌∷◌, map, filter, Bool, codes}
use Rattle.tap_rows.specs.declared.rows.Doc.{Doc}
use Rattle.tap_rows.specs.Tables.{no_rows}
use Rattle.tql_core.specs.Holds.{truth, asked_of}
use Rattle.filter_rules.specs.Rules.{Rule}

-- does the rule hold for the document? Its condition names neither now nor other rows, so no rows and the second 0 will do
abbrev pub holds_for : Doc → Rule → Bool
holds_for doc rule = truth no_rows (pos 0) rule.condition (asked_of doc)

-- the rules that hold for the document, in their order
abbrev pub holding : List Rule → Doc → List Rule
holding rules doc = filter (holds_for doc) rules

-- the greatest of some priorities, 0 if there is none
abbrev pub greatest : List ℕ → ℕ
greatest [] = 0
greatest (n ∷ ns) = max n (greatest ns)

-- the class of the first of some rules, `other` if there is none
abbrev pub first_class : List Rule → List ℕ
first_class [] = codes "other"
first_class (rule ∷ rules) = rule.class

-- the greatest priority of the rules that hold; 0 if none holds
abbrev pub priority_of : List Rule → Doc → ℕ
priority_of rules doc = greatest (map (λ rule. rule.priority) (holding rules doc))

-- the class of the first rule that holds; `other` if none holds
abbrev pub class_of : List Rule → Doc → List ℕ
class_of rules doc = first_class (holding rules doc)
