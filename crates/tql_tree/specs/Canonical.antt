-- The canonical text of a query.
use Rattle.std.specs.Prelude.{ℕ, List, [], ◌++◌, codes, Bool, true, false, nat_lt, Option, Some, None}
use Rattle.std.specs.List.{flat_map}
use Rattle.std.specs.Fmt.{signed_decimal}
use Rattle.tap_base.specs.declared.numbers.Op.{Op}
use Rattle.tap_base.specs.declared.numbers.Op.TheVariants.{Eq, Ne, Lt, Le, Gt, Ge}
use Rattle.tql_tree.specs.declared.table.Table.{Table}
use Rattle.tql_tree.specs.declared.table.Table.TheVariants.{Docs, Notes}
use Rattle.tql_tree.specs.declared.shift.Unit.{Unit as TimeUnit}
use Rattle.tql_tree.specs.declared.shift.Unit.TheVariants.{Seconds, Minutes, Hours, Days}
use Rattle.tql_tree.specs.declared.shift.Shift.{Shift}
use Rattle.tql_tree.specs.declared.expr.Expr.{Expr}
use Rattle.tql_tree.specs.declared.expr.Expr.TheVariants as E
use Rattle.tql_tree.specs.Syntax.{Syntax, True, False, Or, And, Not, Exists, Compare, Has}
use Rattle.tap_base.specs.Bytes.{doubled}

-- a text in quotes
abbrev pub text_of_bytes : List ℕ → List ℕ
text_of_bytes bytes = codes "'" ++ flat_map doubled bytes ++ codes "'"

-- a unit in the plural
abbrev pub text_of_unit : TimeUnit → List ℕ
text_of_unit Seconds = codes "SECONDS"
text_of_unit Minutes = codes "MINUTES"
text_of_unit Hours = codes "HOURS"
text_of_unit Days = codes "DAYS"

-- the name of a table
abbrev pub text_of_table : Table → List ℕ
text_of_table Docs = codes "DOC"
text_of_table Notes = codes "NOTE"

-- the sign of a comparison
abbrev pub text_of_op : Op → List ℕ
text_of_op Eq = codes "="
text_of_op Ne = codes "<>"
text_of_op Lt = codes "<"
text_of_op Le = codes "<="
text_of_op Gt = codes ">"
text_of_op Ge = codes ">="

-- the sign of a shift; true is backwards
abbrev pub text_of_direction : Bool → List ℕ
text_of_direction true = codes " - "
text_of_direction false = codes " + "

-- a shift, or nothing
abbrev pub text_of_shift : Option Shift → List ℕ
text_of_shift None = []
text_of_shift (Some s) = text_of_direction s.back ++ signed_decimal s.count ++ codes " " ++ text_of_unit s.unit

-- a side of a comparison
abbrev pub text_of_expr : Expr → List ℕ
text_of_expr (E.Number place value) = signed_decimal value
text_of_expr (E.Str place bytes) = text_of_bytes bytes
text_of_expr (E.Now place s) = codes "NOW" ++ text_of_shift s
text_of_expr (E.Today place s) = codes "TODAY" ++ text_of_shift s
text_of_expr (E.Moment place text s) = codes "TIME " ++ text_of_bytes text ++ text_of_shift s
text_of_expr (E.Field var var_place field field_place s) = var ++ codes "." ++ field ++ text_of_shift s

-- how tightly it holds together: 0 for OR, 1 for AND, 2 for what is one unit
abbrev pub strength : Syntax → ℕ
strength (Or l r) = 0
strength (And l r) = 1
strength _ = 2

-- a text, in parentheses if asked
abbrev pub parenthesized : Bool → List ℕ → List ℕ
parenthesized true text = codes "(" ++ text ++ codes ")"
parenthesized false text = text

-- the canonical text of a query
abbrev pub canonical : Syntax → List ℕ
canonical True = codes "TRUE"
canonical False = codes "FALSE"
canonical (Or l r) = canonical l ++ codes " OR " ++ parenthesized (nat_lt (strength r) 1) (canonical r)
canonical (And l r) =
    parenthesized (nat_lt (strength l) 1) (canonical l) ++ codes " AND " ++ parenthesized (nat_lt (strength r) 2) (canonical r)
canonical (Not x) = codes "NOT " ++ parenthesized (nat_lt (strength x) 2) (canonical x)
canonical (Exists var place table body) =
    codes "EXISTS (" ++ var ++ codes ": " ++ text_of_table table ++ codes " WHERE " ++ canonical body ++ codes ")"
canonical (Compare left op place right) = text_of_expr left ++ codes " " ++ text_of_op op ++ codes " " ++ text_of_expr right
canonical (Has left place right) = text_of_expr left ++ codes " HAS " ++ text_of_expr right
