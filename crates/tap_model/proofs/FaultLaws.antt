-- No fault of a text is out of memory.
use Rattle.std.proofs.Common.{◌≡◌, ◌∙◌, sym, ap, refl, arith, ℕ, ◌≤◌, List, length, Bool, true, false, Option, Some, None, if◌then◌else◌}
use Rattle.std.specs.Prelude.{◌||◌, is_some, nat_le, nat_lt, int_lt, pos, Result, Ok, Err}
use Rattle.std.proofs.lemmas.Bool.{false≢true}
use Rattle.tap_base.specs.Numbers.{moment_of}
use Rattle.tql_lex.specs.declared.fault.LexFault.{LexFault}
use Rattle.tql_lex.specs.declared.fault.LexFault.TheVariants.{TooLong, Memory as LexMemory}
use Rattle.tql_lex.specs.declared.token.Token.{Token}
use Rattle.tql_lex.specs.Tokens.{lexed, tokens_from}
use Rattle.tql_lex.proofs.Causes.{fault_has_cause}
use Rattle.tql_tree.specs.declared.shift.Shift.{Shift}
use Rattle.tql_tree.specs.declared.expr.Expr.{Expr}
use Rattle.tql_tree.specs.declared.expr.Expr.TheVariants as E
use Rattle.tql_tree.specs.Syntax.{Syntax, True, False, Or, And, Not, Exists, Compare, Has}
use Rattle.tql_core.specs.Condition.{Condition}
use Rattle.tql_types.specs.declared.scope.Variable.{Variable}
use Rattle.tql_types.specs.declared.field.Field.{Field}
use Rattle.tql_types.specs.declared.fault.TypeFault.{TypeFault}
use Rattle.tql_types.specs.declared.fault.TypeFault.TheVariants.{Clash, Shadow, BadTime, BigSpan, ManyVars, ManyNodes, Memory}
use Rattle.tql_types.specs.Faults.{type_fault_place, sooner}
use Rattle.tql_types.specs.Fields.{field_named, is_time}
use Rattle.tql_types.specs.Scopes.{variable_named, first_scope, next_variable, variables_after}
use Rattle.tql_types.specs.Spans.{span_of, span_fault, shift_fault}
use Rattle.tql_types.specs.Sorts.{named_fault, field_fault, moment_fault, expr_fault, sort_of, comparable, holdable, clash}
use Rattle.tql_types.specs.Core.{binder_fault, inner_scope, first_fault, core, nodes, unless_fault, typed}

-- the tokens of a text
lex-apart : (n : ℕ) → TooLong n ≡ LexMemory → ⊥
lex-apart n e = cc

abbrev failed : LexFault → Result (List Token) LexFault
failed fault = Err fault

err-same : (x y : LexFault) → failed x ≡ failed y → x ≡ y
err-same x y e = cc

short : (n : ℕ) → nat_lt 4096 n ≡ false → n ≤ 4096
short n e = grind arith

pub lexed-fine : (text : List ℕ) → lexed text ≡ Err LexMemory → ⊥
lexed-fine text e = go (nat_lt 4096 (length text)) refl where
  go : (b : Bool) → nat_lt 4096 (length text) ≡ b → ⊥
  go true long = lex-apart (length text) (err-same (TooLong (length text)) LexMemory
      (sym (ap (λ b. if b then Err (TooLong (length text)) else tokens_from 0 0 text) long) ∙ e))
  go false n = (fault_has_cause text LexMemory (short (length text) n) e).cause

-- no fault of types, or one that isn't out of memory
abbrev calm : Option TypeFault → Bool
calm (Some Memory) = false
calm fault = true

sooner-calm : (a b : Option TypeFault) → calm a ≡ true → calm b ≡ true → calm (sooner a b) ≡ true
sooner-calm None b x y = y
sooner-calm (Some f) None x y = x
sooner-calm (Some f) (Some g) x y =
    elim (nat_le (type_fault_place f) (type_fault_place g)) as (λ b. calm (if b then Some f else Some g) ≡ true) [ true ↦ x | false ↦ y ]

span-calm : (shift : Option Shift) → calm (span_fault shift) ≡ true
span-calm None = refl
span-calm (Some shift) = elim (int_lt (pos 100000000000) (span_of shift))
    as (λ b. calm (if b then Some (BigSpan shift.count_place) else None) ≡ true) [ true ↦ refl | false ↦ refl ]

shift-calm : (shift : Option Shift) → calm (shift_fault shift) ≡ true
shift-calm None = refl
shift-calm (Some shift) = refl

named-calm : (field : Option Field) (place : ℕ) (shift : Option Shift) → calm (named_fault field place shift) ≡ true
named-calm None place shift = refl
named-calm (Some field) place shift =
    elim (is_time field) as (λ b. calm (if b then None else shift_fault shift) ≡ true) [ true ↦ refl | false ↦ shift-calm shift ]

field-calm : (variable : Option Variable) (var_place : ℕ) (name : List ℕ) (place : ℕ) (shift : Option Shift)
    → calm (field_fault variable var_place name place shift) ≡ true
field-calm None var_place name place shift = refl
field-calm (Some variable) var_place name place shift = named-calm (field_named variable.table name) place shift

moment-calm : (text : List ℕ) (place : ℕ) → calm (moment_fault text place) ≡ true
moment-calm text place =
    elim (is_some (moment_of text)) as (λ b. calm (if b then None else Some (BadTime place)) ≡ true) [ true ↦ refl | false ↦ refl ]

expr-calm : (scope : List Variable) (expr : Expr) → calm (expr_fault scope expr) ≡ true
expr-calm scope (E.Number place value) = refl
expr-calm scope (E.Str place bytes) = refl
expr-calm scope (E.Now place shift) = span-calm shift
expr-calm scope (E.Today place shift) = span-calm shift
expr-calm scope (E.Moment place text shift) =
    sooner-calm (moment_fault text place) (span_fault shift) (moment-calm text place) (span-calm shift)
expr-calm scope (E.Field var var_place field field_place shift) =
    sooner-calm (field_fault (variable_named var scope) var_place field field_place shift) (span_fault shift)
    (field-calm (variable_named var scope) var_place field field_place shift) (span-calm shift)

clash-calm : (left right : Option TypeFault) (fits : Bool) (place : ℕ) → calm left ≡ true → calm right ≡ true
    → calm (clash left right fits place) ≡ true
clash-calm left right fits place l r = elim (is_some left || is_some right)
    as (λ b. calm (if b then sooner left right else (if fits then None else Some (Clash place))) ≡ true) [
      | true ↦ sooner-calm left right l r
      | false ↦ elim fits as (λ b. calm (if b then None else Some (Clash place)) ≡ true) [ true ↦ refl | false ↦ refl ]
    ]

binder-calm : (scope : List Variable) (count : ℕ) (name : List ℕ) (place : ℕ) → calm (binder_fault scope count name place) ≡ true
binder-calm scope count name place = elim (is_some (variable_named name scope))
    as (λ b. calm (if b then Some (Shadow place) else (if nat_lt count 6 then None else Some (ManyVars place))) ≡ true) [
      | true ↦ refl
      | false ↦ elim (nat_lt count 6) as (λ b. calm (if b then None else Some (ManyVars place)) ≡ true) [ true ↦ refl | false ↦ refl ]
    ]

first-calm : (scope : List Variable) (count : ℕ) (tree : Syntax) → calm (first_fault scope count tree) ≡ true
first-calm scope count True = refl
first-calm scope count False = refl
first-calm scope count (Or l r) = sooner-calm (first_fault scope count l) (first_fault scope (variables_after count l) r)
    (first-calm scope count l) (first-calm scope (variables_after count l) r)
first-calm scope count (And l r) = sooner-calm (first_fault scope count l) (first_fault scope (variables_after count l) r)
    (first-calm scope count l) (first-calm scope (variables_after count l) r)
first-calm scope count (Not x) = first-calm scope count x
first-calm scope count (Exists name place table body) =
    sooner-calm (binder_fault scope count name place) (first_fault (inner_scope scope count name place table) (next_variable count) body)
    (binder-calm scope count name place) (first-calm (inner_scope scope count name place table) (next_variable count) body)
first-calm scope count (Compare left op place right) =
    clash-calm (expr_fault scope left) (expr_fault scope right) (comparable (sort_of scope left) (sort_of scope right)) place
    (expr-calm scope left) (expr-calm scope right)
first-calm scope count (Has left place right) =
    clash-calm (expr_fault scope left) (expr_fault scope right) (holdable (sort_of scope left) (sort_of scope right)) place
    (expr-calm scope left) (expr-calm scope right)

-- the fault of a typing, if it has one
abbrev fault_in : Result Condition TypeFault → Option TypeFault
fault_in (Ok condition) = None
fault_in (Err fault) = Some fault

pub typed-fine : (tree : Syntax) → typed tree ≡ Err Memory → ⊥
typed-fine tree e =
    false≢true (sym (ap (λ r. calm (fault_in r)) e) ∙ go (first_fault first_scope 1 tree) (first-calm first_scope 1 tree)) where
      go : (o : Option TypeFault) → calm o ≡ true → calm (fault_in (unless_fault o (core first_scope 1 tree))) ≡ true
      go None c = elim (nat_le (nodes (core first_scope 1 tree)) 128)
          as (λ b. calm (fault_in (if b then Ok (core first_scope 1 tree) else Err ManyNodes)) ≡ true) [ true ↦ refl | false ↦ refl ]
      go (Some fault) c = c
