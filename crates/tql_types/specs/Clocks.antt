-- Comparisons of times, and what they say of now.
use Rattle.std.specs.Prelude.{ℕ, ℤ, pos, neg_ℤ, ◌+ℤ◌, List, Option, Some, None, unwrap_or, if◌then◌else◌}
use Rattle.tap_base.specs.declared.numbers.Op.{Op}
use Rattle.tap_base.specs.declared.numbers.Op.TheVariants.{Eq, Ne, Lt, Le, Gt, Ge}
use Rattle.tap_base.specs.Numbers.{moment_of}
use Rattle.tql_tree.specs.declared.expr.Expr.{Expr}
use Rattle.tql_tree.specs.declared.expr.Expr.TheVariants as E
use Rattle.tql_core.specs.declared.term.Var.{Var}
use Rattle.tql_core.specs.declared.term.Base.{Base}
use Rattle.tql_core.specs.declared.term.Base.TheVariants.{Arrival, Date, Fixed, ArrivalDay, DateDay}
use Rattle.tql_core.specs.declared.term.Term.{Term}
use Rattle.tql_core.specs.declared.atom.Atom.TheVariants.{Times}
use Rattle.tql_core.specs.Condition.{Condition, Always, Never, Plain, NowAtLeast, NowBefore, All, Either}
use Rattle.tql_core.specs.Values.{round_up_to_day, compare}
use Rattle.tql_types.specs.declared.scope.Variable.{Variable}
use Rattle.tql_types.specs.declared.field.Field.{Field}
use Rattle.tql_types.specs.declared.field.Field.TheVariants as F
use Rattle.tql_types.specs.declared.clock.Clock.{Clock}
use Rattle.tql_types.specs.declared.clock.Clock.TheVariants.{At, Now, Today}
use Rattle.tql_types.specs.Scopes.{variable_named}
use Rattle.tql_types.specs.Sorts.{field_in}
use Rattle.tql_types.specs.Spans.{amount_of}

-- the base of a field of this variable
abbrev pub base_of : Var → Option Field → Base
base_of var (Some F.Arrival) = Arrival var
base_of var (Some F.Date) = Date var
base_of var field = Fixed

-- the base of a field of a variable that may be out of scope
abbrev pub base_in : Option Variable → List ℕ → Base
base_in None name = Fixed
base_in (Some variable) name = base_of variable.var (field_in (Some variable) name)

-- the time of an expression, or now or today and how far it is shifted
abbrev pub clock_of : List Variable → Expr → Clock
clock_of scope (E.Now place shift) = Now (amount_of shift)
clock_of scope (E.Today place shift) = Today (amount_of shift)
clock_of scope (E.Moment place text shift) = At (record { base = Fixed; plus = unwrap_or (moment_of text) (pos 0) +ℤ amount_of shift })
clock_of scope (E.Field var var_place field field_place shift) =
    At (record { base = base_in (variable_named var scope) field; plus = amount_of shift })
clock_of scope (E.Number place value) = At (record { base = Fixed; plus = pos 0 })
clock_of scope (E.Str place bytes) = At (record { base = Fixed; plus = pos 0 })

-- a time that many seconds later
abbrev pub later : Term → ℤ → Term
later term n = record { base = term.base; plus = term.plus +ℤ n }

-- the start of the first UTC day that is not before a time of this base
abbrev pub day_of_term : Term → Base → Term
day_of_term term (Arrival var) = record { base = ArrivalDay var term.plus; plus = pos 0 }
day_of_term term (Date var) = record { base = DateDay var term.plus; plus = pos 0 }
day_of_term term Fixed = record { base = Fixed; plus = round_up_to_day term.plus }
day_of_term term (ArrivalDay var n) = term
day_of_term term (DateDay var n) = term

-- the start of the first UTC day that is not before a time
abbrev pub day : Term → Term
day term = day_of_term term term.base

-- the comparison with its sides exchanged
abbrev pub turned : Op → Op
turned Eq = Eq
turned Ne = Ne
turned Lt = Gt
turned Le = Ge
turned Gt = Lt
turned Ge = Le

-- now compared with a time; `next` is a second later
abbrev pub half_line : Op → Term → Term → Condition
half_line Ge at next = NowAtLeast at
half_line Gt at next = NowAtLeast next
half_line Lt at next = NowBefore at
half_line Le at next = NowBefore next
half_line Eq at next = All (NowAtLeast at) (NowBefore next)
half_line Ne at next = Either (NowBefore at) (NowAtLeast next)

-- now, shifted by a, compared with a time
abbrev pub now_core : Op → ℤ → Term → Condition
now_core op a term = half_line op (later term (neg_ℤ a)) (later (later term (neg_ℤ a)) (pos 1))

-- today, shifted by a, compared with a time
abbrev pub today_core : Op → ℤ → Term → Condition
today_core op a term = half_line op (day (later term (neg_ℤ a))) (day (later (later term (neg_ℤ a)) (pos 1)))

-- two numbers compared
abbrev pub compared_numbers : Op → ℤ → ℤ → Condition
compared_numbers op a b = if compare op a b then Always else Never

-- two times compared; now with today never
abbrev pub times_core : Op → Clock → Clock → Condition
times_core op (At x) (At y) = Plain (Times x op y)
times_core op (Now a) (At y) = now_core op a y
times_core op (At x) (Now b) = now_core (turned op) b x
times_core op (Now a) (Now b) = compared_numbers op a b
times_core op (Today a) (At y) = today_core op a y
times_core op (At x) (Today b) = today_core (turned op) b x
times_core op (Today a) (Today b) = compared_numbers op a b
times_core op (Now a) (Today b) = Never
times_core op (Today a) (Now b) = Never
