-- What an expression is, and its faults.
use Rattle.std.specs.Prelude.{ℕ, List, Bool, true, false, Option, Some, None, is_some, ◌||◌, if◌then◌else◌}
use Rattle.tap_base.specs.Numbers.{moment_of}
use Rattle.tql_tree.specs.declared.shift.Shift.{Shift}
use Rattle.tql_tree.specs.declared.expr.Expr.{Expr}
use Rattle.tql_tree.specs.declared.expr.Expr.TheVariants as E
use Rattle.tql_types.specs.declared.scope.Variable.{Variable}
use Rattle.tql_types.specs.declared.field.Field.{Field}
use Rattle.tql_types.specs.declared.field.Field.TheVariants as F
use Rattle.tql_types.specs.declared.sort.Sort.{Sort}
use Rattle.tql_types.specs.declared.sort.Sort.TheVariants.{Number, Text, Time, List as Texts, Now, Today}
use Rattle.tql_types.specs.declared.fault.TypeFault.{TypeFault}
use Rattle.tql_types.specs.declared.fault.TypeFault.TheVariants.{NoVar, NoField, Clash, BadTime}
use Rattle.tql_types.specs.Scopes.{variable_named}
use Rattle.tql_types.specs.Fields.{field_named, is_time}
use Rattle.tql_types.specs.Faults.{sooner}
use Rattle.tql_types.specs.Spans.{span_fault, shift_fault}

-- the field of a variable that may be out of scope
abbrev pub field_in : Option Variable → List ℕ → Option Field
field_in None name = None
field_in (Some variable) name = field_named variable.table name

-- the fault of a field that may be missing: its name, or a shift if it is no time
abbrev pub named_fault : Option Field → ℕ → Option Shift → Option TypeFault
named_fault None place shift = Some (NoField place)
named_fault (Some field) place shift = if is_time field then None else shift_fault shift

-- the fault of a field of a variable that may be out of scope
abbrev pub field_fault : Option Variable → ℕ → List ℕ → ℕ → Option Shift → Option TypeFault
field_fault None var_place name place shift = Some (NoVar var_place)
field_fault (Some variable) var_place name place shift = named_fault (field_named variable.table name) place shift

-- the fault of a text that is no moment
abbrev pub moment_fault : List ℕ → ℕ → Option TypeFault
moment_fault text place = if is_some (moment_of text) then None else Some (BadTime place)

-- the first fault of an expression
abbrev pub expr_fault : List Variable → Expr → Option TypeFault
expr_fault scope (E.Number place value) = None
expr_fault scope (E.Str place bytes) = None
expr_fault scope (E.Now place shift) = span_fault shift
expr_fault scope (E.Today place shift) = span_fault shift
expr_fault scope (E.Moment place text shift) = sooner (moment_fault text place) (span_fault shift)
expr_fault scope (E.Field var var_place field field_place shift) =
    sooner (field_fault (variable_named var scope) var_place field field_place shift) (span_fault shift)

-- what a field is
abbrev pub sort_of_field : Field → Sort
sort_of_field (F.Number field) = Number
sort_of_field (F.Text field) = Text
sort_of_field (F.List field) = Texts
sort_of_field F.Arrival = Time
sort_of_field F.Date = Time

-- what a field is, if it is there
abbrev pub sort_in : Option Field → Option Sort
sort_in None = None
sort_in (Some field) = Some (sort_of_field field)

-- what an expression is; a field that is not there is nothing
abbrev pub sort_of : List Variable → Expr → Option Sort
sort_of scope (E.Number place value) = Some Number
sort_of scope (E.Str place bytes) = Some Text
sort_of scope (E.Now place shift) = Some Now
sort_of scope (E.Today place shift) = Some Today
sort_of scope (E.Moment place text shift) = Some Time
sort_of scope (E.Field var var_place field field_place shift) = sort_in (field_in (variable_named var scope) field)

-- can the two be compared? Both are numbers, texts, or times, and not now with today
abbrev pub go_together : Sort → Sort → Bool
go_together Number Number = true
go_together Text Text = true
go_together Time Time = true
go_together Time Now = true
go_together Time Today = true
go_together Now Time = true
go_together Now Now = true
go_together Today Time = true
go_together Today Today = true
go_together x y = false

-- are both there, and can they be compared?
abbrev pub comparable : Option Sort → Option Sort → Bool
comparable None y = false
comparable (Some x) None = false
comparable (Some x) (Some y) = go_together x y

-- is the left one a list and the right one a text?
abbrev pub holdable : Option Sort → Option Sort → Bool
holdable (Some Texts) (Some Text) = true
holdable x y = false

-- the fault of two sides: one of their own, or that they don't go together
abbrev pub clash : Option TypeFault → Option TypeFault → Bool → ℕ → Option TypeFault
clash left right fits place = if is_some left || is_some right then sooner left right else (if fits then None else Some (Clash place))
