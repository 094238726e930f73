-- What a session may begin with: rows that stand in order, and texts that can be read.
use Rattle.std.proofs.Common.{◌≡◌, refl, arith, ℕ, ◌≤◌, pos, List, [], ◌∷◌, Bool, true, false, None, inl, inr, if◌then◌else◌}
use Rattle.std.specs.Prelude.{Result, Ok, Err, IsOk, nat_le, ◌≤ℤ◌, length}
use Rattle.std.proofs.lemmas.Bool.{false≢true}
use Rattle.std.proofs.lemmas.Int.{ints}
use Rattle.tap_rows.specs.declared.tables.Tables.{Tables}
use Rattle.tap_rows.specs.declared.rows.QueryRow.{QueryRow}
use Rattle.tap_rows.specs.Deliveries.{delivered}
use Rattle.tap_rows.specs.Kept.{Each, In, IsKeptQuery}
use Rattle.tap_rows.proofs.LaterLaws.{each-map}
use Rattle.tql_lex.specs.declared.fault.LexFault.{LexFault}
use Rattle.tql_lex.specs.declared.token.Token.{Token}
use Rattle.tql_lex.specs.Tokens.{lexed}
use Rattle.tql_tree.specs.Syntax.{Syntax}
use Rattle.tql_parse.specs.declared.fault.ParseFault.{ParseFault}
use Rattle.tql_parse.specs.Reading.{query_at}
use Rattle.tql_core.specs.Condition.{Condition}
use Rattle.tql_types.specs.declared.fault.TypeFault.{TypeFault}
use Rattle.tql_types.specs.Core.{typed}
use Rattle.tql_text.specs.declared.fault.TextFault.{TextFault}
use Rattle.tql_text.specs.Texts.{condition_of, of_typing, of_tree, of_tokens}
use Rattle.filter_rules.specs.declared.fault.RuleFault.{RuleFault}
use Rattle.filter_rules.specs.declared.fault.RuleFault.TheVariants.{ManyRules}
use Rattle.filter_rules.specs.Rules.{Rule}
use Rattle.filter_rules.specs.RuleLines.{rule_of}
use Rattle.filter_rules.specs.RuleTexts.{rules_of, rules_at, rule_lines, with_rule}
use Rattle.script_lang.specs.declared.refusal.Refusal.TheVariants as refusal
use Rattle.restart_core.specs.Starts.{is_from_now, condition_text}
use Rattle.tap_model.specs.Verdicts.{text_fault, reading_refusal, filter_fault, rules_refusal}
use Rattle.tap_model.specs.Queries.{query_truth, start_of, box_of_query}
use Rattle.tap_model.specs.Sound.{IsStore}
use Rattle.tap_model.specs.Laws.{AreBoxed}
use Rattle.tap_model.proofs.AnswerLaws.{some-none}
use Rattle.tap_model.proofs.FormedRows.{Placed, placed}
use Rattle.tap_base.specs.Numbers.{IsMoment}

typing-read : (r : Result Condition TypeFault) → reading_refusal (of_typing r) ≡ None → IsOk (of_typing r)
typing-read (Ok condition) none = refl
typing-read (Err fault) none = absurd (some-none (refusal.Types fault) none)

tree-read : (r : Result Syntax ParseFault) → reading_refusal (of_tree r) ≡ None → IsOk (of_tree r)
tree-read (Ok tree) none = typing-read (typed tree) none
tree-read (Err fault) none = absurd (some-none (refusal.Parse fault) none)

tokens-read : (r : Result (List Token) LexFault) → reading_refusal (of_tokens r) ≡ None → IsOk (of_tokens r)
tokens-read (Ok tokens) none = tree-read (query_at 32 tokens) none
tokens-read (Err fault) none = absurd (some-none (refusal.Lex fault) none)

-- a text without a fault has a condition
pub text-read : (text : List ℕ) → text_fault text ≡ None → IsOk (condition_of text)
unfolding text_fault
text-read text none = tokens-read (lexed text) none

lines-read : (lines : List (ℕ × List ℕ)) → rules_refusal (rules_at lines) ≡ None → IsOk (rules_at lines)
lines-read [] none = refl
lines-read (line ∷ lines) none = go (rule_of line.1) (rules_at lines) (lines-read lines) none where
  go : (rule : Result Rule ℕ) (others : Result (List Rule) RuleFault) → (rules_refusal others ≡ None → IsOk others)
      → rules_refusal (with_rule line.0 rule others) ≡ None → IsOk (with_rule line.0 rule others)
  go (Err place) others rest none = absurd (some-none (refusal.Rule line.0 place) none)
  go (Ok rule) (Err fault) rest none = rest none
  go (Ok rule) (Ok rules) rest none = refl

-- a filter's text without a fault has rules
pub rules-read : (source : List ℕ) → filter_fault source ≡ None → IsOk (rules_of source)
unfolding filter_fault
rules-read source none = go (nat_le (length (rule_lines source)) 64) none where
  go : (b : Bool) → rules_refusal (if b then rules_at (rule_lines source) else Err ManyRules) ≡ None
      → IsOk (if b then rules_at (rule_lines source) else Err ManyRules)
  go true none = lines-read (rule_lines source) none
  go false none = absurd (some-none refusal.ManyRules none)

pub sources-read : (tables : Tables) → IsStore tables → Each (λ query. IsOk (condition_of (condition_text query.source))) tables.queries
sources-read tables store =
    each-map (λ query. text_fault (condition_text query.source) ≡ None) (λ query. IsOk (condition_of (condition_text query.source)))
    tables.queries (λ query none. text-read (condition_text query.source) none) store.sources

pub filters-read : (tables : Tables) → IsStore tables → Each (λ filter. IsOk (rules_of filter.source)) tables.filters
filters-read tables store = each-map (λ filter. filter_fault filter.source ≡ None) (λ filter. IsOk (rules_of filter.source))
    tables.filters (λ filter none. rules-read filter.source none) store.rules

-- a text that has a condition has no fault
text-none : (text : List ℕ) → IsOk (condition_of text) → text_fault text ≡ None
unfolding text_fault
text-none text ok = go (condition_of text) ok where
  go : (r : Result Condition TextFault) → IsOk r → reading_refusal r ≡ None
  go (Ok condition) ok = refl
  go (Err fault) ok = absurd (false≢true ok)

rules-none : (source : List ℕ) → IsOk (rules_of source) → filter_fault source ≡ None
unfolding filter_fault
rules-none source ok = go (rules_of source) ok where
  go : (r : Result (List Rule) RuleFault) → IsOk r → rules_refusal r ≡ None
  go (Ok rules) ok = refl
  go (Err fault) ok = absurd (false≢true ok)

pub store-boxed : (tables : Tables) → IsStore tables → AreBoxed tables
store-boxed tables store = record {
  rows = store.formed;
  queries = sources-read tables store;
  filters = filters-read tables store;
  boxes = each-map (IsKeptQuery query_truth start_of tables) (λ query. delivered query.num.0 tables ≡ box_of_query query tables)
      tables.queries (λ query kept. kept.box) store.kept.each;
}

-- a query's start isn't after its arrival
start-by : (query : QueryRow) → pos 0 ≤ℤ query.arrival → start_of query ≤ℤ query.arrival
unfolding start_of
start-by query from = elim (is_from_now query.source)
    as (λ b. (if b then query.arrival else pos 0) ≤ℤ query.arrival) [ true ↦ omega (arith, ints) | false ↦ from ]

module _ (tables : Tables) (rows : Placed tables) where
  kept-each : (queries : List QueryRow) → ((query : QueryRow) → In query queries → In query tables.queries)
      → Each (λ query. IsMoment query.arrival) queries
      → Each (λ query. delivered query.num.0 tables ≡ box_of_query query tables) queries
      → Each (IsKeptQuery query_truth start_of tables) queries
  kept-each [] has moments boxes = tt
  kept-each (query ∷ queries) has moments boxes = (
    record { rising = rows.rising query (start_of query) (has query (inl refl)) (start-by query moments.0.0); box = boxes.0 },
    kept-each queries (λ other there. has other (inr there)) moments.1 boxes.1,
  )

pub boxed-store : (tables : Tables) → AreBoxed tables → IsStore tables
boxed-store tables are =
    let rows = placed tables are.rows in
    record {
      kept = record {
        docs = rows.docs;
        queries = rows.queries;
        runs = rows.runs;
        owned = each-map (λ run. (1 ≤ run.query.0) × (run.query.0 ≤ length tables.queries)) (λ run. run.query.0 ≤ length tables.queries)
            tables.runs (λ run owned. owned.1) rows.owned;
        picks = rows.picks;
        each = kept-each tables rows tables.queries (λ query has. has) rows.arrivals are.boxes;
      };
      now = tt;
      formed = are.rows;
      sources =
          each-map (λ query. IsOk (condition_of (condition_text query.source))) (λ query. text_fault (condition_text query.source) ≡ None)
          tables.queries (λ query ok. text-none (condition_text query.source) ok) are.queries;
      rules = each-map (λ filter. IsOk (rules_of filter.source)) (λ filter. filter_fault filter.source ≡ None)
          tables.filters (λ filter ok. rules-none filter.source ok) are.filters;
      user = tt;
    }
