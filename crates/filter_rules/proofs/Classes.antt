-- The classes of rules, and so of ratings, are names.
use Rattle.std.proofs.Common.{◌≡◌, ◌∙◌, sym, ap, refl, subst, ℕ, ℤ, List, [], ◌∷◌, ◌-◌, length, map, take, drop, Bool, true, false, Option}
use Rattle.std.proofs.Common.{Some, None, if◌then◌else◌}
use Rattle.std.specs.Prelude.{nat_le, int_le, Result, Ok, Err, codes, nat_abs}
use Rattle.std.specs.Str.Lines.{lines}
use Rattle.std.specs.List.{All, filter}
use Rattle.std.proofs.lemmas.List.Elements.{All-nil, All-cons, All-head, All-tail}
use Rattle.tap_base.specs.Names.{is_name}
use Rattle.tap_rows.specs.declared.rows.Doc.{Doc}
use Rattle.tap_rows.specs.declared.results.Entry.{Entry}
use Rattle.tap_rows.specs.declared.results.Listed.{Listed}
use Rattle.tap_rows.specs.WellFormed.{row_at}
use Rattle.tap_rows.specs.Kept.{Each}
use Rattle.tql_lex.specs.declared.kind.Kind.{Kind}
use Rattle.tql_lex.specs.declared.token.Token.{Token}
use Rattle.tql_lex.specs.declared.fault.LexFault.{LexFault}
use Rattle.tql_lex.specs.Tokens.{lexed}
use Rattle.tql_parse.specs.Reading.{query_at}
use Rattle.tql_core.specs.Condition.{Condition}
use Rattle.tql_text.specs.declared.fault.TextFault.{TextFault}
use Rattle.tql_text.specs.Texts.{of_tree}
use Rattle.filter_rules.specs.declared.fault.RuleFault.{RuleFault}
use Rattle.filter_rules.specs.declared.fault.RuleFault.TheVariants.{Line, ManyRules}
use Rattle.filter_rules.specs.Rules.{Rule}
use Rattle.filter_rules.specs.RuleLines.{is_priority, is_this_word, number_in_token, text_in_token, place_of_now, rated, timeless_rule}
use Rattle.filter_rules.specs.RuleLines.{rule_with, shaped, rule_at, rule_of_tokens, rule_of_reading, rule_of}
use Rattle.filter_rules.specs.RuleTexts.{rule_lines, rules_at, with_rule, rules_of}
use Rattle.filter_rules.specs.Ratings.{holds_for, holding, first_class, class_of}
use Rattle.filter_rules.specs.Listings.{listed_of, rated_entry, is_above, put_by, sorted_by, listing_of}

abbrev pub Named : Rule → Type 0
Named rule = is_name rule.class ≡ true

-- what is said of a rule that was read
abbrev IfRule : {E : Type 0} → Result Rule E → Type 0
IfRule (Err fault) = Unit {0}
IfRule (Ok rule) = Named rule

rated-named : (c : Condition) (n : ℤ) (n_place : ℕ) (class : List ℕ) (class_place : ℕ) → IfRule (rated c n n_place class class_place)
rated-named c n n_place class class_place = go (is_priority n) (is_name class) refl where
  go : (a b : Bool) → is_name class ≡ b → IfRule {E = ℕ}
      (if a then (if b then Ok (record { condition = c; priority = nat_abs n; class = class }) else Err class_place) else Err n_place)
  go false b e = tt
  go true false e = tt
  go true true e = e

timeless-named : (o : Option ℕ) (c : Condition) (n : ℤ) (n_place : ℕ) (class : List ℕ) (class_place : ℕ)
    → IfRule (timeless_rule o c n n_place class class_place)
timeless-named (Some place) c n n_place class class_place = tt
timeless-named None c n n_place class class_place = rated-named c n n_place class class_place

with-named : (r : Result Condition TextFault) (begins ends : ℕ) (middle : List Token) (n : ℤ) (n_place : ℕ) (class : List ℕ)
    (class_place : ℕ) → IfRule (rule_with r begins ends middle n n_place class class_place)
with-named (Err fault) begins ends middle n n_place class class_place = tt
with-named (Ok c) begins ends middle n n_place class class_place = timeless-named (place_of_now middle) c n n_place class class_place

shaped-named : (len begins : ℕ) (middle : List Token) (p : Token) (n : Option ℤ) (n_place : ℕ) (c : Bool) (class : Option (List ℕ))
    (class_place : ℕ) → IfRule (shaped len begins middle p n n_place c class class_place)
shaped-named len begins middle p None n_place c class class_place = tt
shaped-named len begins middle p (Some n) n_place false class class_place = tt
shaped-named len begins middle p (Some n) n_place true None class_place = tt
shaped-named len begins middle p (Some n) n_place true (Some class) class_place = go (is_this_word (codes "priority") p.kind) where
  go : (b : Bool)
      → IfRule {E = ℕ} (if b then rule_with (of_tree (query_at 32 middle)) begins p.place middle n n_place class class_place else Err len)
  go true = with-named (of_tree (query_at 32 middle)) begins p.place middle n n_place class class_place
  go false = tt

at-named : (len begins : ℕ) (middle last : List Token) → IfRule (rule_at len begins middle last)
at-named len begins middle [] = tt
at-named len begins middle (p ∷ []) = tt
at-named len begins middle (p ∷ n ∷ []) = tt
at-named len begins middle (p ∷ n ∷ c ∷ []) = tt
at-named len begins middle (p ∷ n ∷ c ∷ t ∷ []) =
    shaped-named len begins middle p (number_in_token n.kind) n.place (is_this_word (codes "class") c.kind) (text_in_token t.kind) t.place
at-named len begins middle (p ∷ n ∷ c ∷ t ∷ u ∷ more) = tt

tokens-named : (len : ℕ) (tokens : List Token) → IfRule (rule_of_tokens len tokens)
tokens-named len [] = tt
tokens-named len (first ∷ rest) = go (is_this_word (codes "when") first.kind) where
  go : (b : Bool)
      → IfRule {E = ℕ} (if b then rule_at len first.place (take (length rest - 4) rest) (drop (length rest - 4) rest) else Err first.place)
  go true = at-named len first.place (take (length rest - 4) rest) (drop (length rest - 4) rest)
  go false = tt

reading-named : (len : ℕ) (r : Result (List Token) LexFault) → IfRule (rule_of_reading len r)
reading-named len (Err fault) = tt
reading-named len (Ok tokens) = tokens-named len tokens

rule-named : (line : List ℕ) → IfRule (rule_of line)
unfolding rule_of
rule-named line = reading-named (length line) (lexed line)

-- the same of all rules of some lines
abbrev pub IfRules : Result (List Rule) RuleFault → Type 0
IfRules (Err fault) = Unit {0}
IfRules (Ok rules) = Each Named rules

one-named : (number : ℕ) (r : Result Rule ℕ) (others : Result (List Rule) RuleFault) → IfRule r → IfRules others
    → IfRules (with_rule number r others)
one-named number (Err place) others named rest = tt
one-named number (Ok rule) (Err fault) named rest = tt
one-named number (Ok rule) (Ok rules) named rest = (named, rest)

lines-named : (ls : List (ℕ × List ℕ)) → IfRules (rules_at ls)
lines-named [] = tt
lines-named (l ∷ ls) = one-named l.0 (rule_of l.1) (rules_at ls) (rule-named l.1) (lines-named ls)

pub text-named : (text : List ℕ) → IfRules (rules_of text)
text-named text = go (nat_le (length (rule_lines text)) 64) where
  go : (b : Bool) → IfRules (if b then rules_at (rule_lines text) else Err ManyRules)
  go true = lines-named (rule_lines text)
  go false = tt

-- the first of those that hold
class-named : (rules : List Rule) (doc : Doc) → Each Named rules → is_name (class_of rules doc) ≡ true
class-named [] doc each = refl
class-named (rule ∷ rules) doc each = go (holds_for doc rule) (class-named rules doc each.1) where
  go : (b : Bool) → is_name (class_of rules doc) ≡ true
      → is_name (first_class (if b then rule ∷ holding rules doc else holding rules doc)) ≡ true
  go true rest = each.0
  go false rest = rest

abbrev pub Classed : Listed → Type 0
Classed row = is_name row.class ≡ true

listed-named : (rules : List Rule) (entry : Entry) (doc : Option Doc) → Each Named rules → Classed (listed_of rules entry doc)
listed-named rules entry None each = refl
listed-named rules entry (Some doc) each = class-named rules doc each

put-named : (row : Listed) (rows : List Listed) → Classed row → All Classed rows → All Classed (put_by is_above row rows)
put-named row [] named all = All-cons Classed row [] named all
put-named row (other ∷ rows) named all = go (is_above other row) (put-named row rows named (All-tail Classed other rows all)) where
  go : (b : Bool) → All Classed (put_by is_above row rows)
      → All Classed (if b then other ∷ put_by is_above row rows else row ∷ other ∷ rows)
  go true rest = All-cons Classed other (put_by is_above row rows) (All-head Classed other rows all) rest
  go false rest = All-cons Classed row (other ∷ rows) named all

pub sorted-named : (rules : List Rule) (docs : List Doc) (entries : List Entry) → Each Named rules
    → All Classed (sorted_by is_above (map (rated_entry rules docs) entries))
sorted-named rules docs [] each = All-nil Classed
sorted-named rules docs (entry ∷ entries) each = put-named (rated_entry rules docs entry) _
    (listed-named rules entry (row_at entry.doc.0 docs) each) (sorted-named rules docs entries each)

pub listing_named : (text : List ℕ) (rules : List Rule) → rules_of text ≡ Ok rules → (docs : List Doc) (entries : List Entry)
    → All (λ row. is_name row.class ≡ true) (listing_of rules docs entries)
listing_named text rules is docs entries = sorted-named rules docs entries (subst IfRules is (text-named text))
