-- Each time of a condition that typing gives adds no more than that many seconds, and nothing to a day.
use Rattle.std.proofs.Common.{◌≡◌, ◌∙◌, sym, ap, refl, arith, ℕ, zero, suc, ℤ, pos, negsuc, Bool, true, false, Option, Some, None, List}
use Rattle.std.proofs.Common.{if◌then◌else◌, inl, inr}
use Rattle.std.specs.Prelude.{Ok, ◌&&◌, ◌≤ℤ◌, ◌+ℤ◌, neg_ℤ, int_le}
use Rattle.std.proofs.lemmas.Bool.{cases_Bool, and_parts, and_from}
use Rattle.std.proofs.lemmas.Int.{ints}
use Rattle.tap_base.specs.declared.numbers.Op.{Op}
use Rattle.tap_base.specs.declared.numbers.Op.TheVariants.{Eq, Ne, Lt, Le, Gt, Ge}
use Rattle.tap_base.specs.Numbers.{moment_of}
use Rattle.tql_tree.specs.declared.shift.Shift.{Shift}
use Rattle.tql_tree.specs.declared.expr.Expr.{Expr}
use Rattle.tql_tree.specs.declared.expr.Expr.TheVariants as E
use Rattle.tql_tree.specs.Syntax.{Syntax, True, False, Or, And, Not, Exists, Compare, Has}
use Rattle.tql_core.specs.declared.term.Base.{Base}
use Rattle.tql_core.specs.declared.term.Base.TheVariants.{Arrival, Date, Fixed, ArrivalDay, DateDay}
use Rattle.tql_core.specs.declared.term.Term.{Term}
use Rattle.tql_core.specs.declared.term.Var.{Var}
use Rattle.tql_core.specs.declared.atom.TextExpr.{TextExpr}
use Rattle.tql_core.specs.Bounds.{is_near, is_bounded_base, is_bounded, are_bounded}
use Rattle.tql_core.specs.Condition.{Condition}
use Rattle.tql_core.specs.Values.{round_up_to_day, compare}
use Rattle.tql_types.specs.declared.scope.Variable.{Variable}
use Rattle.tql_types.specs.declared.field.Field.{Field}
use Rattle.tql_types.specs.declared.field.Field.TheVariants as F
use Rattle.tql_types.specs.declared.sort.Sort.{Sort}
use Rattle.tql_types.specs.declared.sort.Sort.TheVariants.{Number, Text}
use Rattle.tql_types.specs.declared.clock.Clock.{Clock}
use Rattle.tql_types.specs.declared.clock.Clock.TheVariants.{At, Now, Today}
use Rattle.tql_types.specs.Scopes.{variable_named, first_scope, next_variable, variables_after}
use Rattle.tql_types.specs.Sorts.{field_in, sort_of}
use Rattle.tql_types.specs.Spans.{span_of, kept_span, amount_of}
use Rattle.tql_types.specs.Clocks.{base_of, base_in, clock_of, later, day, day_of_term, turned, half_line, now_core, today_core}
use Rattle.tql_types.specs.Clocks.{compared_numbers, times_core}
use Rattle.tql_types.specs.Core.{inner_scope, first_fault, text_or_empty, lowered, has_field, has_core, compare_core, core, typed}
use Rattle.tql_types.proofs.Ranges.{moment-range, kept-range}
use Rattle.tql_types.proofs.ScopeLaws.{typed-parts}

near : (n : ℤ) → negsuc 450000086399 ≤ℤ n → n ≤ℤ pos 450000086400 → is_near n ≡ true
near n l h =
    let a : int_le (negsuc 450000086399) n ≡ true = grind (arith, ints) in
    let b : int_le n (pos 450000086400) ≡ true = grind (arith, ints) in
    and_from _ _ a b

-- anything may be added to the base
abbrev Free : Base → Type 0
Free b = (n : ℤ) → is_bounded_base b n ≡ true

free-of : (var : Var) (field : Option Field) → Free (base_of var field)
free-of var (Some F.Arrival) n = refl
free-of var (Some F.Date) n = refl
free-of var _ n = refl

free-in : (variable : Option Variable) (name : List ℕ) → Free (base_in variable name)
free-in None name n = refl
free-in (Some variable) name n = free-of variable.var (field_in (Some variable) name) n

bounded : (b : Base) (n : ℤ) → Free b → negsuc 450000086399 ≤ℤ n → n ≤ℤ pos 450000086400 → is_bounded (record { base = b; plus = n }) ≡ true
bounded b n free l h = and_from _ _ (near n l h) (free n)

abbrev IsSpan : ℤ → Type 0
IsSpan n = (negsuc 99999999999 ≤ℤ n) × (n ≤ℤ pos 100000000000)

kept : (n : ℤ) → (pos 0 ≤ℤ kept_span n) × (kept_span n ≤ℤ pos 100000000000)
kept n =
    elim (cases_Bool (int_le (pos 0) n && int_le n (pos 100000000000))) [
      | inl y ↦ rw y (within n
          (and_parts (int_le (pos 0) n) (int_le n (pos 100000000000)) y).0 (and_parts (int_le (pos 0) n) (int_le n (pos 100000000000)) y).1)
      | inr f ↦ rw f (omega (arith, ints), omega (arith, ints))
    ]
  where
    within : (n : ℤ) → int_le (pos 0) n ≡ true → int_le n (pos 100000000000) ≡ true → (pos 0 ≤ℤ n) × (n ≤ℤ pos 100000000000)
    within n l h = (grind (arith, ints), grind (arith, ints))

amount : (shift : Option Shift) → IsSpan (amount_of shift)
amount None = (omega (arith, ints), omega (arith, ints))
amount (Some shift) = go shift.back (kept_span (span_of shift)) (kept (span_of shift)) where
  go : (back : Bool) (k : ℤ) → (pos 0 ≤ℤ k) × (k ≤ℤ pos 100000000000) → IsSpan (if back then neg_ℤ k else k)
  go true k r = (omega (arith, ints, r.0, r.1), omega (arith, ints, r.0, r.1))
  go false k r = (omega (arith, ints, r.0, r.1), omega (arith, ints, r.0, r.1))

abbrev IsClock : Clock → Type 0
IsClock (At term) = Free term.base × (negsuc 99999999999 ≤ℤ term.plus) × (term.plus ≤ℤ pos 350000000000)
IsClock (Now a) = IsSpan a
IsClock (Today a) = IsSpan a

clock : (scope : List Variable) (e : Expr) → IsClock (clock_of scope e)
clock scope (E.Now place shift) = amount shift
clock scope (E.Today place shift) = amount shift
clock scope (E.Moment place text shift) =
    let m = kept-range (moment_of text) (moment-range text) in
    let a = amount shift in
    ((λ n. refl), omega (arith, ints, m.0, a.0), omega (arith, ints, m.1, a.1))
clock scope (E.Field var var_place field field_place shift) =
    let a = amount shift in
    (free-in (variable_named var scope) field, omega (arith, ints, a.0), omega (arith, ints, a.1))
clock scope (E.Number place value) = ((λ n. refl), omega (arith, ints), omega (arith, ints))
clock scope (E.Str place bytes) = ((λ n. refl), omega (arith, ints), omega (arith, ints))

round_up_to_day-low : (x : ℤ) → x ≤ℤ round_up_to_day x
round_up_to_day-low (pos zero) = omega (arith, ints)
round_up_to_day-low (pos (suc n)) = omega (arith, ints)
round_up_to_day-low (negsuc n) = omega (arith, ints)

round_up_to_day-high : (x : ℤ) → round_up_to_day x ≤ℤ (x +ℤ pos 86399)
round_up_to_day-high (pos zero) = omega (arith, ints)
round_up_to_day-high (pos (suc n)) = omega (arith, ints)
round_up_to_day-high (negsuc n) = omega (arith, ints)

day-bounded : (b : Base) (n : ℤ) → Free b → negsuc 450000000000 ≤ℤ n → n ≤ℤ pos 450000000001
    → is_bounded (day_of_term (record { base = b; plus = n }) b) ≡ true
day-bounded (Arrival v) n free l h =
    let e = near n (omega (arith, ints, l)) (omega (arith, ints, h)) in
    and_from _ _ refl (and_from _ _ e refl)
day-bounded (Date v) n free l h =
    let e = near n (omega (arith, ints, l)) (omega (arith, ints, h)) in
    and_from _ _ refl (and_from _ _ e refl)
day-bounded Fixed n free l h = and_from _ _
    (near (round_up_to_day n) (omega (arith, ints, l, round_up_to_day-low n)) (omega (arith, ints, h, round_up_to_day-high n))) refl
day-bounded (ArrivalDay v k) n free l h = bounded (ArrivalDay v k) n free (omega (arith, ints, l)) (omega (arith, ints, h))
day-bounded (DateDay v k) n free l h = bounded (DateDay v k) n free (omega (arith, ints, l)) (omega (arith, ints, h))

half-bounded : (op : Op) (at next : Term) → is_bounded at ≡ true → is_bounded next ≡ true → are_bounded (half_line op at next) ≡ true
half-bounded Ge at next a b = a
half-bounded Gt at next a b = b
half-bounded Lt at next a b = a
half-bounded Le at next a b = b
half-bounded Eq at next a b = and_from _ _ a b
half-bounded Ne at next a b = and_from _ _ a b

now-bounded : (op : Op) (a : ℤ) (term : Term) → IsSpan a → IsClock (At term) → are_bounded (now_core op a term) ≡ true
now-bounded op a term s t =
    half-bounded op (later term (neg_ℤ a)) (later (later term (neg_ℤ a)) (pos 1))
    (bounded term.base (term.plus +ℤ neg_ℤ a) t.0 (omega (arith, ints, s.1, t.1)) (omega (arith, ints, s.0, t.2)))
    (bounded term.base ((term.plus +ℤ neg_ℤ a) +ℤ pos 1) t.0 (omega (arith, ints, s.1, t.1)) (omega (arith, ints, s.0, t.2)))

today-bounded : (op : Op) (a : ℤ) (term : Term) → IsSpan a → IsClock (At term) → are_bounded (today_core op a term) ≡ true
today-bounded op a term s t =
    half-bounded op (day (later term (neg_ℤ a))) (day (later (later term (neg_ℤ a)) (pos 1)))
    (day-bounded term.base (term.plus +ℤ neg_ℤ a) t.0 (omega (arith, ints, s.1, t.1)) (omega (arith, ints, s.0, t.2)))
    (day-bounded term.base ((term.plus +ℤ neg_ℤ a) +ℤ pos 1) t.0 (omega (arith, ints, s.1, t.1)) (omega (arith, ints, s.0, t.2)))

constant-bounded : (op : Op) (a b : ℤ) → are_bounded (compared_numbers op a b) ≡ true
constant-bounded op a b = elim (cases_Bool (compare op a b)) [ inl y ↦ rw y refl | inr n ↦ rw n refl ]

time-bounded : (x : Term) → IsClock (At x) → is_bounded x ≡ true
time-bounded x t = bounded x.base x.plus t.0 (omega (arith, ints, t.1)) (omega (arith, ints, t.2))

times-bounded : (op : Op) (x y : Clock) → IsClock x → IsClock y → are_bounded (times_core op x y) ≡ true
times-bounded op (At x) (At y) a b = and_from _ _ (time-bounded x a) (time-bounded y b)
times-bounded op (Now x) (At y) a b = now-bounded op x y a b
times-bounded op (At x) (Now y) a b = now-bounded (turned op) y x b a
times-bounded op (Now x) (Now y) a b = constant-bounded op x y
times-bounded op (Today x) (At y) a b = today-bounded op x y a b
times-bounded op (At x) (Today y) a b = today-bounded (turned op) y x b a
times-bounded op (Today x) (Today y) a b = constant-bounded op x y
times-bounded op (Now x) (Today y) a b = refl
times-bounded op (Today x) (Now y) a b = refl

compare-bounded : (sort : Option Sort) (scope : List Variable) (left : Expr) (op : Op) (right : Expr)
    → are_bounded (compare_core sort scope left op right) ≡ true
compare-bounded (Some Number) scope left op right = refl
compare-bounded (Some Text) scope left op right = refl
compare-bounded _ scope left op right = times-bounded op (clock_of scope left) (clock_of scope right) (clock scope left) (clock scope right)

field-bounded : (variable : Option Variable) (field : Option Field) (text : TextExpr) → are_bounded (has_field variable field text) ≡ true
field-bounded (Some variable) (Some (F.List field)) text = refl
field-bounded _ _ text = refl

has-bounded : (scope : List Variable) (left : Expr) (text : TextExpr) → are_bounded (has_core scope left text) ≡ true
has-bounded scope (E.Field var var_place field field_place shift) text =
    field-bounded (variable_named var scope) (field_in (variable_named var scope) field) text
has-bounded scope _ text = refl

core-bounded : (scope : List Variable) (count : ℕ) (tree : Syntax) → are_bounded (core scope count tree) ≡ true
core-bounded scope count True = refl
core-bounded scope count False = refl
core-bounded scope count (Or l r) = and_from _ _ (core-bounded scope count l) (core-bounded scope (variables_after count l) r)
core-bounded scope count (And l r) = and_from _ _ (core-bounded scope count l) (core-bounded scope (variables_after count l) r)
core-bounded scope count (Not x) = core-bounded scope count x
core-bounded scope count (Exists name place table body) = core-bounded (inner_scope scope count name place table) (next_variable count) body
core-bounded scope count (Compare left op place right) = compare-bounded (sort_of scope left) scope left op right
core-bounded scope count (Has left place right) = has-bounded scope left (lowered (text_or_empty scope right))

pub typed-bounded : (s : Syntax) (c : Condition) → typed s ≡ Ok c → are_bounded c ≡ true
typed-bounded s c e =
    let parts = typed-parts (first_fault first_scope 1 s) (core first_scope 1 s) c e in
    ap are_bounded (sym parts.1) ∙ core-bounded first_scope 1 s
