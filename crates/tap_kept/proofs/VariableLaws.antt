-- The EXISTS of a condition that is read bind at most five variables.
use Rattle.std.proofs.Common.{◌≡◌, ◌∙◌, ap, refl, arith, ℕ, ◌+◌, ◌≤◌, Bool, true, false, Option, Some, None, List, if◌then◌else◌}
use Rattle.std.specs.Prelude.{nat_lt, Result, Ok, Err}
use Rattle.tap_base.specs.declared.numbers.Op.{Op}
use Rattle.tap_base.specs.declared.numbers.Op.TheVariants.{Eq, Ne, Lt, Le, Gt, Ge}
use Rattle.tql_lex.specs.declared.fault.LexFault.{LexFault}
use Rattle.tql_lex.specs.declared.token.Token.{Token}
use Rattle.tql_lex.specs.Tokens.{lexed}
use Rattle.tql_parse.specs.declared.fault.ParseFault.{ParseFault}
use Rattle.tql_parse.specs.Reading.{query_at}
use Rattle.tql_tree.specs.declared.expr.Expr.{Expr}
use Rattle.tql_tree.specs.declared.expr.Expr.TheVariants as E
use Rattle.tql_tree.specs.Syntax.{Syntax, True, False, Or, And, Not, Exists, Compare, Has}
use Rattle.tql_core.specs.declared.term.Term.{Term}
use Rattle.tql_core.specs.declared.atom.TextExpr.{TextExpr}
use Rattle.tql_core.specs.Condition.{Condition, Always, Never}
use Rattle.tql_core.specs.Bounds.{are_bounded}
use Rattle.tql_core.specs.Scope.{IsQuery}
use Rattle.tql_types.proofs.ScopeLaws.{none-parts, next-grows, after-grows, binder-fine, typed-parts, typed-is-query}
use Rattle.tql_types.proofs.BoundLaws.{typed-bounded}
use Rattle.tql_types.specs.declared.scope.Variable.{Variable}
use Rattle.tql_types.specs.declared.field.Field.{Field}
use Rattle.tql_types.specs.declared.field.Field.TheVariants as F
use Rattle.tql_types.specs.declared.sort.Sort.{Sort}
use Rattle.tql_types.specs.declared.sort.Sort.TheVariants.{Number, Text, Time, List as Texts, Now, Today}
use Rattle.tql_types.specs.declared.clock.Clock.{Clock}
use Rattle.tql_types.specs.declared.clock.Clock.TheVariants as K
use Rattle.tql_types.specs.declared.fault.TypeFault.{TypeFault}
use Rattle.tql_types.specs.Scopes.{variable_named, first_scope, next_variable, variables_after}
use Rattle.tql_types.specs.Sorts.{field_in, sort_of}
use Rattle.tql_types.specs.Clocks.{clock_of, turned, half_line, times_core}
use Rattle.tql_types.specs.Core.{binder_fault, inner_scope, first_fault, text_or_empty, lowered, has_field, has_core, compare_core, core}
use Rattle.tql_types.specs.Core.{typed}
use Rattle.tql_text.specs.Texts.{of_typing, of_tree, of_tokens, condition_of}
use Rattle.snapshot_meaning.specs.Seen.{exists_in}

half-none : (op : Op) (at next : Term) → exists_in (half_line op at next) ≡ 0
half-none Ge at next = refl
half-none Gt at next = refl
half-none Lt at next = refl
half-none Le at next = refl
half-none Eq at next = refl
half-none Ne at next = refl

constant-none : (b : Bool) → exists_in (if b then Always else Never) ≡ 0
constant-none true = refl
constant-none false = refl

times-none : (op : Op) (x y : Clock) → exists_in (times_core op x y) ≡ 0
times-none op (K.At x) (K.At y) = refl
times-none op (K.Now a) (K.At y) = half-none op _ _
times-none op (K.At x) (K.Now b) = half-none (turned op) _ _
times-none op (K.Now a) (K.Now b) = constant-none _
times-none op (K.Today a) (K.At y) = half-none op _ _
times-none op (K.At x) (K.Today b) = half-none (turned op) _ _
times-none op (K.Today a) (K.Today b) = constant-none _
times-none op (K.Now a) (K.Today b) = refl
times-none op (K.Today a) (K.Now b) = refl

compare-none : (sort : Option Sort) (scope : List Variable) (left : Expr) (op : Op) (right : Expr)
    → exists_in (compare_core sort scope left op right) ≡ 0
compare-none (Some Number) scope left op right = refl
compare-none (Some Text) scope left op right = refl
compare-none (Some Time) scope left op right = times-none op (clock_of scope left) (clock_of scope right)
compare-none (Some Texts) scope left op right = times-none op (clock_of scope left) (clock_of scope right)
compare-none (Some Now) scope left op right = times-none op (clock_of scope left) (clock_of scope right)
compare-none (Some Today) scope left op right = times-none op (clock_of scope left) (clock_of scope right)
compare-none None scope left op right = times-none op (clock_of scope left) (clock_of scope right)

field-none : (variable : Option Variable) (field : Option Field) (text : TextExpr) → exists_in (has_field variable field text) ≡ 0
field-none None field text = refl
field-none (Some variable) None text = refl
field-none (Some variable) (Some (F.Number f)) text = refl
field-none (Some variable) (Some (F.Text f)) text = refl
field-none (Some variable) (Some (F.List f)) text = refl
field-none (Some variable) (Some F.Arrival) text = refl
field-none (Some variable) (Some F.Date) text = refl

has-none : (scope : List Variable) (expr : Expr) (text : TextExpr) → exists_in (has_core scope expr text) ≡ 0
has-none scope (E.Number place value) text = refl
has-none scope (E.Str place bytes) text = refl
has-none scope (E.Now place shift) text = refl
has-none scope (E.Today place shift) text = refl
has-none scope (E.Moment place moment shift) text = refl
has-none scope (E.Field var var_place name place shift) text =
    field-none (variable_named var scope) (field_in (variable_named var scope) name) text

up : (n : ℕ) → nat_lt n 6 ≡ true → next_variable n ≡ n + 1
up n h = rw h refl

both-within : (a b k m n : ℕ) → a + k ≤ m → b + m ≤ n → (a + b) + k ≤ n
both-within a b k m n le le' = omega (arith, le, le')

one-within : (a k m n : ℕ) → m ≡ k + 1 → a + m ≤ n → (1 + a) + k ≤ n
one-within a k m n e le = omega (arith, e, le)

none-within : (a k : ℕ) → a ≡ 0 → a + k ≤ k
none-within a k e = omega (arith, e)

-- a condition without a fault binds no more variables than are counted in it
within : (scope : List Variable) (count : ℕ) (s : Syntax) → count ≤ 6 → first_fault scope count s ≡ None
    → exists_in (core scope count s) + count ≤ variables_after count s
within scope count True high fine = none-within 0 count refl
within scope count False high fine = none-within 0 count refl
within scope count (Or l r) high fine =
    let parts = none-parts (first_fault scope count l) (first_fault scope (variables_after count l) r) fine in
    both-within (exists_in (core scope count l)) (exists_in (core scope (variables_after count l) r)) count (variables_after count l)
    (variables_after (variables_after count l) r)
    (within scope count l high parts.0) (within scope (variables_after count l) r (after-grows count l high).1 parts.1)
within scope count (And l r) high fine =
    let parts = none-parts (first_fault scope count l) (first_fault scope (variables_after count l) r) fine in
    both-within (exists_in (core scope count l)) (exists_in (core scope (variables_after count l) r)) count (variables_after count l)
    (variables_after (variables_after count l) r)
    (within scope count l high parts.0) (within scope (variables_after count l) r (after-grows count l high).1 parts.1)
within scope count (Not x) high fine = within scope count x high fine
within scope count (Exists name place table body) high fine =
    let inner = inner_scope scope count name place table in
    let parts = none-parts (binder_fault scope count name place) (first_fault inner (next_variable count) body) fine in
    one-within (exists_in (core inner (next_variable count) body)) count (next_variable count) (variables_after (next_variable count) body)
    (up count (binder-fine scope count name place parts.0))
    (within inner (next_variable count) body (next-grows count high).1 parts.1)
within scope count (Compare left op place right) high fine = none-within (exists_in (compare_core (sort_of scope left) scope left op right))
    count (compare-none (sort_of scope left) scope left op right)
within scope count (Has left place right) high fine = none-within (exists_in (has_core scope left (lowered (text_or_empty scope right))))
    count (has-none scope left (lowered (text_or_empty scope right)))

typed-few : (s : Syntax) (c : Condition) → typed s ≡ Ok c → exists_in c ≤ 5
typed-few s c e =
    let parts = typed-parts (first_fault first_scope 1 s) (core first_scope 1 s) c e in
    let le = within first_scope 1 s (omega arith) parts.0 in
    let most = (after-grows 1 s (omega arith)).1 in
    omega (arith, le, most, ap exists_in parts.1)

typing-few : (typing : Result Condition TypeFault) (c : Condition) → of_typing typing ≡ Ok c → typing ≡ Ok c
typing-few (Err fault) c e = absurd cc
typing-few (Ok condition) c e = cc

tree-few : (tree : Result Syntax ParseFault) (c : Condition) → of_tree tree ≡ Ok c → exists_in c ≤ 5
tree-few (Err fault) c e = absurd cc
tree-few (Ok tree) c e = typed-few tree c (typing-few (typed tree) c e)

tokens-few : (tokens : Result (List Token) LexFault) (c : Condition) → of_tokens tokens ≡ Ok c → exists_in c ≤ 5
tokens-few (Err fault) c e = absurd cc
tokens-few (Ok tokens) c e = tree-few (query_at 32 tokens) c e

-- the condition of a text binds at most five
pub read-few : (text : List ℕ) (c : Condition) → condition_of text ≡ Ok c → exists_in c ≤ 15
read-few text c e = omega (arith, tokens-few (lexed text) c e)

typing-query : (typing : Result Condition TypeFault) (tree : Syntax) (c : Condition) → typed tree ≡ typing → of_typing typing ≡ Ok c
    → IsQuery c × (are_bounded c ≡ true)
typing-query typing tree c is e = let ok = is ∙ typing-few typing c e in (typed-is-query tree c ok, typed-bounded tree c ok)

tree-query : (tree : Result Syntax ParseFault) (c : Condition) → of_tree tree ≡ Ok c → IsQuery c × (are_bounded c ≡ true)
tree-query (Err fault) c e = absurd cc
tree-query (Ok tree) c e = typing-query (typed tree) tree c refl e

tokens-query : (tokens : Result (List Token) LexFault) (c : Condition) → of_tokens tokens ≡ Ok c → IsQuery c × (are_bounded c ≡ true)
tokens-query (Err fault) c e = absurd cc
tokens-query (Ok tokens) c e = tree-query (query_at 32 tokens) c e

-- the condition of a text names only variables in scope, and its times are bounded
pub read-query : (text : List ℕ) (c : Condition) → condition_of text ≡ Ok c → IsQuery c × (are_bounded c ≡ true)
read-query text c e = tokens-query (lexed text) c e
