-- The condition of a query without a fault names only variables that are in scope, and each EXISTS binds a new one.
use Rattle.std.proofs.Common.{◌≡◌, sym, ap, refl, arith, ℕ, ◌+◌, ◌≤◌, ◌<◌, Bool, true, false, Option, Some, None, List, [], ◌∷◌, ◌++◌}
use Rattle.std.proofs.Common.{if◌then◌else◌, inl, inr}
use Rattle.std.specs.Prelude.{◌⊎◌, nat_lt, nat_le, find, is_some, Result, Ok, Err}
use Rattle.std.proofs.lemmas.Bool.{cases_Bool}
use Rattle.tap_base.specs.declared.numbers.Op.{Op}
use Rattle.tap_base.specs.declared.numbers.Op.TheVariants.{Eq, Ne, Lt, Le, Gt, Ge}
use Rattle.tql_tree.specs.declared.table.Table.{Table}
use Rattle.tql_tree.specs.declared.expr.Expr.{Expr}
use Rattle.tql_tree.specs.declared.expr.Expr.TheVariants as E
use Rattle.tql_tree.specs.Syntax.{Syntax, True, False, Or, And, Not, Exists, Compare, Has}
use Rattle.tql_core.specs.declared.term.Base.{Base}
use Rattle.tql_core.specs.declared.term.Base.TheVariants.{Arrival, Date, Fixed, ArrivalDay, DateDay}
use Rattle.tql_core.specs.declared.term.Term.{Term}
use Rattle.tql_core.specs.declared.term.Var.{Var}
use Rattle.tql_core.specs.declared.atom.TextExpr.{TextExpr}
use Rattle.tql_core.specs.declared.atom.TextExpr.TheVariants as X
use Rattle.tql_core.specs.Condition.{Condition}
use Rattle.tql_core.specs.Scope.{BaseIn, NumIn, TextIn, Scoped, IsQuery}
use Rattle.tap_rows.specs.Kept.{In}
use Rattle.tql_types.specs.declared.scope.Variable.{Variable}
use Rattle.tql_types.specs.declared.field.Field.{Field}
use Rattle.tql_types.specs.declared.field.Field.TheVariants as F
use Rattle.tql_types.specs.declared.sort.Sort.{Sort}
use Rattle.tql_types.specs.declared.sort.Sort.TheVariants.{Number, Text, Time, List as Texts, Now, Today}
use Rattle.tql_types.specs.declared.clock.Clock.{Clock}
use Rattle.tql_types.specs.declared.clock.Clock.TheVariants as K
use Rattle.tql_types.specs.declared.fault.TypeFault.{TypeFault}
use Rattle.tql_types.specs.Scopes.{is_variable_named, variable_named, first_scope, entered, next_variable, variables_after}
use Rattle.tql_types.specs.Faults.{sooner, type_fault_place}
use Rattle.tql_types.specs.Sorts.{field_in, sort_of}
use Rattle.tql_types.specs.Clocks.{base_of, base_in, clock_of, later, day, day_of_term, turned, half_line, times_core}
use Rattle.tql_types.specs.Core.{binder_fault, inner_scope, first_fault, num_field, num_of, text_field_or_empty, text_or_empty, lowered}
use Rattle.tql_types.specs.Core.{has_field, has_core, compare_core, core, nodes, unless_fault, typed}

-- the numbers of a scope's variables are among these
abbrev Knows : List Variable → List ℕ → Type 0
Knows scope names = (variable : Variable) → In variable scope → In variable.var.0 names

-- these numbers are below the next one
abbrev Below : List ℕ → ℕ → Type 0
Below names count = (k : ℕ) → In k names → k < count

find-in : {A : Type 0} (p : A → Bool) (xs : List A) (x : A) → find p xs ≡ Some x → In x xs
find-in p [] x e = absurd cc
find-in p (y ∷ xs) x e =
    elim (cases_Bool (p y)) [
      | inl yes' ↦ inl (some-same (sym (rw yes' at e)))
      | inr no' ↦ inr (find-in p xs x (rw no' at e))
    ]
  where
    some-same : {A : Type 0} {a b : A} → Some a ≡ Some b → a ≡ b
    some-same e = cc

in-last : {A : Type 0} (x y : A) (xs : List A) → In x (xs ++ y ∷ []) → In x xs ⊎ (x ≡ y)
in-last x y [] (inl e) = inr e
in-last x y [] (inr i) = absurd i
in-last x y (z ∷ xs) (inl e) = inl (inl e)
in-last x y (z ∷ xs) (inr i) = elim (in-last x y xs i) [ inl j ↦ inl (inr j) | inr e ↦ inr e ]

pub none-parts : (f g : Option TypeFault) → sooner f g ≡ None → (f ≡ None) × (g ≡ None)
none-parts None None e = (refl, refl)
none-parts None (Some g) e = absurd cc
none-parts (Some f) None e = absurd cc
none-parts (Some f) (Some g) e =
    elim (cases_Bool (nat_le (type_fault_place f) (type_fault_place g))) [
      | inl y ↦ absurd (some-none (rw y at e))
      | inr n ↦ absurd (some-none (rw n at e))
    ]
  where
    some-none : {f : TypeFault} → Some f ≡ None → ⊥
    some-none e = cc

num-in : (scope : List Variable) (names : List ℕ) (expr : Expr) → Knows scope names → NumIn names (num_of scope expr)
num-in scope names (E.Number place value) knows = tt
num-in scope names (E.Str place bytes) knows = tt
num-in scope names (E.Now place shift) knows = tt
num-in scope names (E.Today place shift) knows = tt
num-in scope names (E.Moment place text shift) knows = tt
num-in scope names (E.Field var var_place name place shift) knows = go (variable_named var scope) refl where
  field : (variable : Variable) (found : Option Field) → In variable.var.0 names → NumIn names (num_field (Some variable) found)
  field variable None i = tt
  field variable (Some (F.Number f)) i = i
  field variable (Some (F.Text f)) i = tt
  field variable (Some (F.List f)) i = tt
  field variable (Some F.Arrival) i = tt
  field variable (Some F.Date) i = tt

  go : (found : Option Variable) → variable_named var scope ≡ found
      → NumIn names (num_field (variable_named var scope) (field_in (variable_named var scope) name))
  go None e = rw e tt
  go (Some variable) e =
      rw e (field variable (field_in (Some variable) name) (knows variable (find-in (is_variable_named var) scope variable e)))

text-in : (scope : List Variable) (names : List ℕ) (expr : Expr) → Knows scope names → TextIn names (text_or_empty scope expr)
text-in scope names (E.Number place value) knows = tt
text-in scope names (E.Str place bytes) knows = tt
text-in scope names (E.Now place shift) knows = tt
text-in scope names (E.Today place shift) knows = tt
text-in scope names (E.Moment place text shift) knows = tt
text-in scope names (E.Field var var_place name place shift) knows = go (variable_named var scope) refl where
  field : (variable : Variable) (found : Option Field) → In variable.var.0 names → TextIn names (text_field_or_empty (Some variable) found)
  field variable None i = tt
  field variable (Some (F.Number f)) i = tt
  field variable (Some (F.Text f)) i = i
  field variable (Some (F.List f)) i = tt
  field variable (Some F.Arrival) i = tt
  field variable (Some F.Date) i = tt

  go : (found : Option Variable) → variable_named var scope ≡ found
      → TextIn names (text_field_or_empty (variable_named var scope) (field_in (variable_named var scope) name))
  go None e = rw e tt
  go (Some variable) e =
      rw e (field variable (field_in (Some variable) name) (knows variable (find-in (is_variable_named var) scope variable e)))

lowered-in : (names : List ℕ) (text : TextExpr) → TextIn names text → TextIn names (lowered text)
lowered-in names (X.Literal bytes) i = tt
lowered-in names (X.Field var field) i = i

has-in : (scope : List Variable) (names : List ℕ) (expr : Expr) (text : TextExpr) → Knows scope names → TextIn names text
    → Scoped names (has_core scope expr text)
has-in scope names (E.Number place value) text knows i = tt
has-in scope names (E.Str place bytes) text knows i = tt
has-in scope names (E.Now place shift) text knows i = tt
has-in scope names (E.Today place shift) text knows i = tt
has-in scope names (E.Moment place moment shift) text knows i = tt
has-in scope names (E.Field var var_place name place shift) text knows i = go (variable_named var scope) refl where
  field : (variable : Variable) (found : Option Field) → In variable.var.0 names → Scoped names (has_field (Some variable) found text)
  field variable None j = tt
  field variable (Some (F.Number f)) j = tt
  field variable (Some (F.Text f)) j = tt
  field variable (Some (F.List f)) j = (j, i)
  field variable (Some F.Arrival) j = tt
  field variable (Some F.Date) j = tt

  go : (found : Option Variable) → variable_named var scope ≡ found
      → Scoped names (has_field (variable_named var scope) (field_in (variable_named var scope) name) text)
  go None e = rw e tt
  go (Some variable) e =
      rw e (field variable (field_in (Some variable) name) (knows variable (find-in (is_variable_named var) scope variable e)))

-- the time of a clock is of a variable in scope
abbrev ClockIn : List ℕ → Clock → Type 0
ClockIn names (K.At term) = BaseIn names term.base
ClockIn names (K.Now a) = Unit {0}
ClockIn names (K.Today a) = Unit {0}

clock-in : (scope : List Variable) (names : List ℕ) (expr : Expr) → Knows scope names → ClockIn names (clock_of scope expr)
clock-in scope names (E.Number place value) knows = tt
clock-in scope names (E.Str place bytes) knows = tt
clock-in scope names (E.Now place shift) knows = tt
clock-in scope names (E.Today place shift) knows = tt
clock-in scope names (E.Moment place text shift) knows = tt
clock-in scope names (E.Field var var_place name place shift) knows = go (variable_named var scope) refl where
  field : (v : Var) (found : Option Field) → In v.0 names → BaseIn names (base_of v found)
  field v None i = tt
  field v (Some (F.Number f)) i = tt
  field v (Some (F.Text f)) i = tt
  field v (Some (F.List f)) i = tt
  field v (Some F.Arrival) i = i
  field v (Some F.Date) i = i

  go : (found : Option Variable) → variable_named var scope ≡ found → BaseIn names (base_in (variable_named var scope) name)
  go None e = rw e tt
  go (Some variable) e =
      rw e (field variable.var (field_in (Some variable) name) (knows variable (find-in (is_variable_named var) scope variable e)))

half-in : (names : List ℕ) (op : Op) (at next : Term) → BaseIn names at.base → BaseIn names next.base → Scoped names (half_line op at next)
half-in names Ge at next i j = i
half-in names Gt at next i j = j
half-in names Lt at next i j = i
half-in names Le at next i j = j
half-in names Eq at next i j = (i, j)
half-in names Ne at next i j = (i, j)

day-in : (names : List ℕ) (term : Term) (base : Base) → BaseIn names term.base → BaseIn names base
    → BaseIn names (day_of_term term base).base
day-in names term (Arrival v) i j = j
day-in names term (Date v) i j = j
day-in names term Fixed i j = tt
day-in names term (ArrivalDay v n) i j = i
day-in names term (DateDay v n) i j = i

constant-in : (names : List ℕ) (b : Bool)
    → Scoped names (if b then Rattle.tql_core.specs.Condition.Always else Rattle.tql_core.specs.Condition.Never)
constant-in names true = tt
constant-in names false = tt

times-in : (names : List ℕ) (op : Op) (x y : Clock) → ClockIn names x → ClockIn names y → Scoped names (times_core op x y)
times-in names op (K.At x) (K.At y) i j = (i, j)
times-in names op (K.Now a) (K.At y) i j = half-in names op (later y _) (later (later y _) _) j j
times-in names op (K.At x) (K.Now b) i j = half-in names (turned op) (later x _) (later (later x _) _) i i
times-in names op (K.Now a) (K.Now b) i j = constant-in names _
times-in names op (K.Today a) (K.At y) i j = half-in names op (day (later y _)) (day (later (later y _) _))
    (day-in names (later y _) y.base j j) (day-in names (later (later y _) _) y.base j j)
times-in names op (K.At x) (K.Today b) i j = half-in names (turned op) (day (later x _)) (day (later (later x _) _))
    (day-in names (later x _) x.base i i) (day-in names (later (later x _) _) x.base i i)
times-in names op (K.Today a) (K.Today b) i j = constant-in names _
times-in names op (K.Now a) (K.Today b) i j = tt
times-in names op (K.Today a) (K.Now b) i j = tt

compare-in : (sort : Option Sort) (scope : List Variable) (names : List ℕ) (left : Expr) (op : Op) (right : Expr) → Knows scope names
    → Scoped names (compare_core sort scope left op right)
compare-in (Some Number) scope names left op right knows = (num-in scope names left knows, num-in scope names right knows)
compare-in (Some Text) scope names left op right knows = (text-in scope names left knows, text-in scope names right knows)
compare-in (Some Time) scope names left op right knows =
    times-in names op (clock_of scope left) (clock_of scope right) (clock-in scope names left knows) (clock-in scope names right knows)
compare-in (Some Texts) scope names left op right knows =
    times-in names op (clock_of scope left) (clock_of scope right) (clock-in scope names left knows) (clock-in scope names right knows)
compare-in (Some Now) scope names left op right knows =
    times-in names op (clock_of scope left) (clock_of scope right) (clock-in scope names left knows) (clock-in scope names right knows)
compare-in (Some Today) scope names left op right knows =
    times-in names op (clock_of scope left) (clock_of scope right) (clock-in scope names left knows) (clock-in scope names right knows)
compare-in None scope names left op right knows =
    times-in names op (clock_of scope left) (clock_of scope right) (clock-in scope names left knows) (clock-in scope names right knows)

pub next-grows : (count : ℕ) → count ≤ 6 → (count ≤ next_variable count) × (next_variable count ≤ 6)
next-grows count le = elim (cases_Bool (nat_lt count 6)) [
  | inl y ↦ rw y (omega arith, below count y)
  | inr n ↦ rw n (le, omega arith)
] where
  below : (n : ℕ) → nat_lt n 6 ≡ true → n + 1 ≤ 6
  below n h = grind arith

pub after-grows : (count : ℕ) (s : Syntax) → count ≤ 6 → (count ≤ variables_after count s) × (variables_after count s ≤ 6)
after-grows count True le = (omega arith, le)
after-grows count False le = (omega arith, le)
after-grows count (Or l r) le =
    let a = after-grows count l le in
    let b = after-grows (variables_after count l) r a.1 in
    (omega (arith, a.0, b.0), b.1)
after-grows count (And l r) le =
    let a = after-grows count l le in
    let b = after-grows (variables_after count l) r a.1 in
    (omega (arith, a.0, b.0), b.1)
after-grows count (Not x) le = after-grows count x le
after-grows count (Exists name place table body) le =
    let a = next-grows count le in
    let b = after-grows (next_variable count) body a.1 in
    (omega (arith, a.0, b.0), b.1)
after-grows count (Compare left op place right) le = (omega arith, le)
after-grows count (Has left place right) le = (omega arith, le)

pub binder-fine : (scope : List Variable) (count : ℕ) (name : List ℕ) (place : ℕ) → binder_fault scope count name place ≡ None
    → nat_lt count 6 ≡ true
binder-fine scope count name place e =
    elim (cases_Bool (is_some (variable_named name scope))) [
      | inl y ↦ absurd (some-none (rw y at e))
      | inr n ↦ elim (cases_Bool (nat_lt count 6)) [
        | inl y ↦ y
        | inr m ↦ absurd (some-none (rw (n, m) at e))
      ]
    ]
  where
    some-none : {f : TypeFault} → Some f ≡ None → ⊥
    some-none e = cc

scoped : (scope : List Variable) (count : ℕ) (s : Syntax) (names : List ℕ) → Knows scope names → Below names count → 1 ≤ count → count ≤ 6
    → first_fault scope count s ≡ None → Scoped names (core scope count s)
scoped scope count True names knows below low high fine = tt
scoped scope count False names knows below low high fine = tt
scoped scope count (Or l r) names knows below low high fine =
    let parts = none-parts (first_fault scope count l) (first_fault scope (variables_after count l) r) fine in
    let a = after-grows count l high in (
      scoped scope count l names knows below low high parts.0,
      scoped scope (variables_after count l) r names knows (λ k i. omega (arith, below k i, a.0)) (omega (arith, a.0)) a.1 parts.1,
    )
scoped scope count (And l r) names knows below low high fine =
    let parts = none-parts (first_fault scope count l) (first_fault scope (variables_after count l) r) fine in
    let a = after-grows count l high in (
      scoped scope count l names knows below low high parts.0,
      scoped scope (variables_after count l) r names knows (λ k i. omega (arith, below k i, a.0)) (omega (arith, a.0)) a.1 parts.1,
    )
scoped scope count (Not x) names knows below low high fine = scoped scope count x names knows below low high fine
scoped scope count (Exists name place table body) names knows below low high fine =
    let parts = none-parts (binder_fault scope count name place)
    (first_fault (inner_scope scope count name place table) (next_variable count) body) fine in
    let room : nat_lt count 6 ≡ true = binder-fine scope count name place parts.0 in
    let inner : inner_scope scope count name place table ≡ entered scope count name table = inside scope count name place table parts.0 in
    let next : next_variable count ≡ count + 1 = up count room in
    let less : count < 6 = lower count room in
    let body-fine : first_fault (entered scope count name table) (count + 1) body ≡ None = moved (inner_scope scope count name place table)
    (entered scope count name table) (next_variable count) (count + 1) inner next parts.1 in (
      low,
      omega (arith, less),
      (λ i. absurd (omega (arith, below count i))),
      back (entered scope count name table) (inner_scope scope count name place table) (count + 1) (next_variable count) (sym inner)
          (sym next)
          (scoped (entered scope count name table) (count + 1) body (count ∷ names)
          (λ variable i. elim (in-last variable _ scope i) [ inl j ↦ inr (knows variable j) | inr e ↦ inl (ap (λ v. v.var.0) e) ])
          (λ k i. elim i [ inl e ↦ omega (arith, e) | inr j ↦ omega (arith, below k j) ])
          (omega arith) (omega (arith, less)) body-fine),
    )
  where
    inside : (scope : List Variable) (count : ℕ) (name : List ℕ) (place : ℕ) (table : Table) → binder_fault scope count name place ≡ None
        → inner_scope scope count name place table ≡ entered scope count name table
    inside scope count name place table e = picked (binder_fault scope count name place) e where
      picked : (fault : Option TypeFault) → fault ≡ None
          → (if is_some fault then scope else entered scope count name table) ≡ entered scope count name table
      picked fault e = rw e refl

    up : (n : ℕ) → nat_lt n 6 ≡ true → next_variable n ≡ n + 1
    up n h = rw h refl

    lower : (n : ℕ) → nat_lt n 6 ≡ true → n < 6
    lower n h = grind arith

    moved : (a b : List Variable) (m n : ℕ) → a ≡ b → m ≡ n → first_fault a m body ≡ None → first_fault b n body ≡ None
    moved a b m n e f fine = rw (sym e, sym f) fine

    back : (a b : List Variable) (m n : ℕ) → a ≡ b → m ≡ n → Scoped (count ∷ names) (core a m body) → Scoped (count ∷ names) (core b n body)
    back a b m n e f holds = rw (sym e, sym f) holds
scoped scope count (Compare left op place right) names knows below low high fine =
    compare-in (sort_of scope left) scope names left op right knows
scoped scope count (Has left place right) names knows below low high fine = has-in scope names left (lowered (text_or_empty scope right))
    knows (lowered-in names (text_or_empty scope right) (text-in scope names right knows))

first-knows : Knows first_scope (0 ∷ [])
first-knows variable (inl e) = inl (ap (λ v. v.var.0) e)
first-knows variable (inr i) = absurd i

abbrev ok : Condition → Result Condition TypeFault
ok c = Ok c

pub typed-parts : (fault : Option TypeFault) (c x : Condition) → unless_fault fault c ≡ Ok x → (fault ≡ None) × (c ≡ x)
typed-parts (Some f) c x e = absurd cc
typed-parts None c x e =
    elim (cases_Bool (nat_le (nodes c) 128)) [
      | inl y ↦ (refl, ok-same (rw y at e))
      | inr n ↦ absurd (err-ok (rw n at e))
    ]
  where
    ok-same : {a b : Condition} → ok a ≡ ok b → a ≡ b
    ok-same e = cc

    err-ok : {f : TypeFault} {b : Condition} → Err f ≡ Ok b → ⊥
    err-ok e = cc

pub typed-is-query : (s : Syntax) (c : Condition) → typed s ≡ Ok c → IsQuery c
typed-is-query s c e =
    let parts = typed-parts (first_fault first_scope 1 s) (core first_scope 1 s) c e in
    rw (sym parts.1) (scoped first_scope 1 s (0 ∷ []) first-knows
    (λ k i. elim i [ inl same ↦ omega (arith, same) | inr none ↦ absurd none ]) (omega arith) (omega arith) parts.0)
