-- Queries without the places in memory of their parts, as every definition and law reads them.
use Rattle.std.specs.Prelude.{ℕ, List}
use Rattle.tap_base.specs.declared.numbers.Op.{Op}
use Rattle.tql_tree.specs.declared.table.Table.{Table}
use Rattle.tql_tree.specs.declared.expr.Expr.{Expr}
use Rattle.tql_tree.specs.declared.tree.Tree.{Tree}
use Rattle.tql_tree.specs.declared.tree.Tree.TheVariants as T

-- a query
pub data Syntax : Type 0 where
  True : Syntax
  False : Syntax
  Or : Syntax → Syntax → Syntax
  And : Syntax → Syntax → Syntax
  Not : Syntax → Syntax
  Exists : List ℕ → ℕ → Table → Syntax → Syntax
  Compare : Expr → Op → ℕ → Expr → Syntax
  Has : Expr → ℕ → Expr → Syntax

-- the query that the code's tree represents
abbrev pub syntax : Tree → Syntax
syntax T.True = True
syntax T.False = False
syntax (T.Or' p l q r) = Or (syntax l) (syntax r)
syntax (T.And' p l q r) = And (syntax l) (syntax r)
syntax (T.Not' p x) = Not (syntax x)
syntax (T.Exists' var var_place table p body) = Exists var var_place table (syntax body)
syntax (T.Compare left op place right) = Compare left op place right
syntax (T.Has left place right) = Has left place right
