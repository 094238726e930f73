-- Trees whose shifts count from 0 and whose HAS have a plain field on the left.
use Rattle.std.specs.Prelude.{◌≡◌, ◌≤ℤ◌, pos, Bool, true, false, Option, Some, None}
use Rattle.tql_tree.specs.declared.shift.Shift.{Shift}
use Rattle.tql_tree.specs.declared.expr.Expr.{Expr}
use Rattle.tql_tree.specs.declared.expr.Expr.TheVariants as E
use Rattle.tql_tree.specs.Syntax.{Syntax, True, False, Or, And, Not, Exists, Compare, Has}

-- a field without a shift
abbrev pub is_plain : Expr → Bool
is_plain (E.Field var var_place field field_place None) = true
is_plain _ = false

-- a count of units is at least 0
abbrev pub IsCounted : Option Shift → Type 0
IsCounted None = Unit {0}
IsCounted (Some s) = pos 0 ≤ℤ s.count

-- the shift of an expression counts at least 0 units
abbrev pub IsProperExpr : Expr → Type 0
IsProperExpr (E.Number place value) = Unit {0}
IsProperExpr (E.Str place bytes) = Unit {0}
IsProperExpr (E.Now place s) = IsCounted s
IsProperExpr (E.Today place s) = IsCounted s
IsProperExpr (E.Moment place text s) = IsCounted s
IsProperExpr (E.Field var var_place field field_place s) = IsCounted s

-- counts of shifts are at least 0, and the left side of HAS is a field without a shift
abbrev pub IsProper : Syntax → Type 0
IsProper True = Unit {0}
IsProper False = Unit {0}
IsProper (Or l r) = IsProper l × IsProper r
IsProper (And l r) = IsProper l × IsProper r
IsProper (Not x) = IsProper x
IsProper (Exists var place table body) = IsProper body
IsProper (Compare left op place right) = IsProperExpr left × IsProperExpr right
IsProper (Has left place right) = (is_plain left ≡ true) × IsProperExpr right
