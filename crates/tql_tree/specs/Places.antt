-- Queries, places aside.
use Rattle.std.specs.Prelude.{Option, Some, None}
use Rattle.tql_tree.specs.declared.shift.Shift.{Shift}
use Rattle.tql_tree.specs.declared.expr.Expr.{Expr}
use Rattle.tql_tree.specs.declared.expr.Expr.TheVariants as E
use Rattle.tql_tree.specs.Syntax.{Syntax, True, False, Or, And, Not, Exists, Compare, Has}

-- a shift whose places are 0
abbrev pub plain_shift : Option Shift → Option Shift
plain_shift None = None
plain_shift (Some s) = Some (record { place = 0; back = s.back; count_place = 0; count = s.count; unit = s.unit })

-- an expression whose places are 0
abbrev pub plain_expr : Expr → Expr
plain_expr (E.Number place value) = E.Number 0 value
plain_expr (E.Str place bytes) = E.Str 0 bytes
plain_expr (E.Now place s) = E.Now 0 (plain_shift s)
plain_expr (E.Today place s) = E.Today 0 (plain_shift s)
plain_expr (E.Moment place text s) = E.Moment 0 text (plain_shift s)
plain_expr (E.Field var var_place field field_place s) = E.Field var 0 field 0 (plain_shift s)

-- a query whose places are 0
abbrev pub plain : Syntax → Syntax
plain True = True
plain False = False
plain (Or l r) = Or (plain l) (plain r)
plain (And l r) = And (plain l) (plain r)
plain (Not x) = Not (plain x)
plain (Exists var place table body) = Exists var 0 table (plain body)
plain (Compare left op place right) = Compare (plain_expr left) op 0 (plain_expr right)
plain (Has left place right) = Has (plain_expr left) 0 (plain_expr right)
