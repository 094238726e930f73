-- Laws of ratings.
use Rattle.std.specs.Prelude.{◌≡◌, ℕ, List, true, Ok}
use Rattle.std.specs.List.{All}
use Rattle.tap_base.specs.Names.{is_name}
use Rattle.tap_rows.specs.declared.rows.Doc.{Doc}
use Rattle.tap_rows.specs.declared.results.Entry.{Entry}
use Rattle.filter_rules.specs.Rules.{Rule}
use Rattle.filter_rules.specs.RuleTexts.{rules_of}
use Rattle.filter_rules.specs.Listings.{listing_of}

-- each class of a list that the rules of a text rate is a name
abbrev pub ClassesAreNames : Type 0
ClassesAreNames =
    (text : List ℕ) (rules : List Rule) → rules_of text ≡ Ok rules → (docs : List Doc) (entries : List Entry)
    → All (λ row. is_name row.class ≡ true) (listing_of rules docs entries)
