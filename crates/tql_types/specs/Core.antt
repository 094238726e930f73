-- The first fault of a query, and the condition of a query without one.
use Rattle.std.specs.Prelude.{ℕ, ◌+◌, pos, List, [], nat_le, nat_lt, Option, Some, None, Result, Ok, Err, is_some, if◌then◌else◌}
use Rattle.std.specs.Str.{str_to_ascii_lowercase}
use Rattle.tap_base.specs.declared.numbers.Op.{Op}
use Rattle.tql_tree.specs.declared.table.Table.{Table}
use Rattle.tql_tree.specs.declared.expr.Expr.{Expr}
use Rattle.tql_tree.specs.declared.expr.Expr.TheVariants as E
use Rattle.tql_tree.specs.Syntax.{Syntax, True, False, Or, And, Not, Exists, Compare, Has}
use Rattle.tql_core.specs.declared.atom.NumExpr.{NumExpr}
use Rattle.tql_core.specs.declared.atom.NumExpr.TheVariants as N
use Rattle.tql_core.specs.declared.atom.TextExpr.{TextExpr}
use Rattle.tql_core.specs.declared.atom.TextExpr.TheVariants as X
use Rattle.tql_core.specs.declared.atom.Atom.TheVariants as A
use Rattle.tql_core.specs.Condition as C
use Rattle.tql_core.specs.Condition.{Condition, Always, Never, Plain, NowAtLeast, NowBefore, All, Either}
use Rattle.tql_types.specs.declared.scope.Variable.{Variable}
use Rattle.tql_types.specs.declared.field.Field.{Field}
use Rattle.tql_types.specs.declared.field.Field.TheVariants as F
use Rattle.tql_types.specs.declared.sort.Sort.{Sort}
use Rattle.tql_types.specs.declared.sort.Sort.TheVariants.{Number, Text}
use Rattle.tql_types.specs.declared.fault.TypeFault.{TypeFault}
use Rattle.tql_types.specs.declared.fault.TypeFault.TheVariants.{Shadow, ManyVars, ManyNodes}
use Rattle.tql_types.specs.Scopes.{variable_named, first_scope, entered, next_variable, variables_after}
use Rattle.tql_types.specs.Faults.{sooner}
use Rattle.tql_types.specs.Sorts.{field_in, expr_fault, sort_of, comparable, holdable, clash}
use Rattle.tql_types.specs.Clocks.{clock_of, times_core}

-- the fault of the variable of an EXISTS, behind that many variables
abbrev pub binder_fault : List Variable → ℕ → List ℕ → ℕ → Option TypeFault
binder_fault scope count name place =
    if is_some (variable_named name scope) then Some (Shadow place) else (if nat_lt count 6 then None else Some (ManyVars place))

-- the scope of the condition of an EXISTS; a variable at fault isn't in it
abbrev pub inner_scope : List Variable → ℕ → List ℕ → ℕ → Table → List Variable
inner_scope scope count name place table = if is_some (binder_fault scope count name place) then scope else entered scope count name table

-- the fault of a tree's types at the least place; sides that don't go together are a fault only if neither has one of its own; at
-- one place the first of two
abbrev pub first_fault : List Variable → ℕ → Syntax → Option TypeFault
first_fault scope count True = None
first_fault scope count False = None
first_fault scope count (Or l r) = sooner (first_fault scope count l) (first_fault scope (variables_after count l) r)
first_fault scope count (And l r) = sooner (first_fault scope count l) (first_fault scope (variables_after count l) r)
first_fault scope count (Not x) = first_fault scope count x
first_fault scope count (Exists name place table body) =
    sooner (binder_fault scope count name place) (first_fault (inner_scope scope count name place table) (next_variable count) body)
first_fault scope count (Compare left op place right) =
    clash (expr_fault scope left) (expr_fault scope right) (comparable (sort_of scope left) (sort_of scope right)) place
first_fault scope count (Has left place right) =
    clash (expr_fault scope left) (expr_fault scope right) (holdable (sort_of scope left) (sort_of scope right)) place

-- a number field of a variable, or 0
abbrev pub num_field : Option Variable → Option Field → NumExpr
num_field (Some variable) (Some (F.Number field)) = N.Field variable.var field
num_field variable field = N.Literal (pos 0)

-- a side that is a number, or 0
abbrev pub num_of : List Variable → Expr → NumExpr
num_of scope (E.Number place value) = N.Literal value
num_of scope (E.Field var var_place field field_place shift) =
    num_field (variable_named var scope) (field_in (variable_named var scope) field)
num_of scope expr = N.Literal (pos 0)

-- a text field of a variable, or an empty text
abbrev pub text_field_or_empty : Option Variable → Option Field → TextExpr
text_field_or_empty (Some variable) (Some (F.Text field)) = X.Field variable.var field
text_field_or_empty variable field = X.Literal []

-- a side that is a text, or an empty text
abbrev pub text_or_empty : List Variable → Expr → TextExpr
text_or_empty scope (E.Str place bytes) = X.Literal bytes
text_or_empty scope (E.Field var var_place field field_place shift) =
    text_field_or_empty (variable_named var scope) (field_in (variable_named var scope) field)
text_or_empty scope expr = X.Literal []

-- a text that a list may have: A to Z of a literal are lowered
abbrev pub lowered : TextExpr → TextExpr
lowered (X.Literal bytes) = X.Literal (str_to_ascii_lowercase bytes)
lowered (X.Field var field) = X.Field var field

-- does a list of a variable have a text?
abbrev pub has_field : Option Variable → Option Field → TextExpr → Condition
has_field (Some variable) (Some (F.List field)) text = Plain (A.Has variable.var field text)
has_field variable field text = Never

-- does a list have a text?
abbrev pub has_core : List Variable → Expr → TextExpr → Condition
has_core scope (E.Field var var_place field field_place shift) text =
    has_field (variable_named var scope) (field_in (variable_named var scope) field) text
has_core scope expr text = Never

-- a comparison, by what its left side is
abbrev pub compare_core : Option Sort → List Variable → Expr → Op → Expr → Condition
compare_core (Some Number) scope left op right = Plain (A.Numbers (num_of scope left) op (num_of scope right))
compare_core (Some Text) scope left op right = Plain (A.Texts (text_or_empty scope left) op (text_or_empty scope right))
compare_core sort scope left op right = times_core op (clock_of scope left) (clock_of scope right)

-- the condition of a query without a fault
abbrev pub core : List Variable → ℕ → Syntax → Condition
core scope count True = Always
core scope count False = Never
core scope count (Or l r) = Either (core scope count l) (core scope (variables_after count l) r)
core scope count (And l r) = All (core scope count l) (core scope (variables_after count l) r)
core scope count (Not x) = C.Not (core scope count x)
core scope count (Exists name place table body) =
    C.Exists (record { 0 = count }) table (core (inner_scope scope count name place table) (next_variable count) body)
core scope count (Compare left op place right) = compare_core (sort_of scope left) scope left op right
core scope count (Has left place right) = has_core scope left (lowered (text_or_empty scope right))

-- how many nodes a condition has
abbrev pub nodes : Condition → ℕ
nodes Always = 1
nodes Never = 1
nodes (Plain a) = 1
nodes (NowAtLeast e) = 1
nodes (NowBefore e) = 1
nodes (All l r) = 1 + nodes l + nodes r
nodes (Either l r) = 1 + nodes l + nodes r
nodes (C.Not x) = 1 + nodes x
nodes (C.Exists v t x) = 1 + nodes x

-- the condition, if it has at most 128 nodes
abbrev pub sized : Condition → Result Condition TypeFault
sized condition = if nat_le (nodes condition) 128 then Ok condition else Err ManyNodes

-- the fault if there is one, and else the condition
abbrev pub unless_fault : Option TypeFault → Condition → Result Condition TypeFault
unless_fault None condition = sized condition
unless_fault (Some fault) condition = Err fault

-- the first fault; without one the condition, or too many nodes if it has more than 128
abbrev pub typed : Syntax → Result Condition TypeFault
typed tree = unless_fault (first_fault first_scope 1 tree) (core first_scope 1 tree)
