-- Conditions without the places in memory of their parts, as every definition and law reads them.
use Rattle.tql_tree.specs.declared.table.Table.{Table}
use Rattle.tql_core.specs.declared.term.Var.{Var}
use Rattle.tql_core.specs.declared.term.Term.{Term}
use Rattle.tql_core.specs.declared.atom.Atom.{Atom}
use Rattle.tql_core.specs.declared.cond.Cond.{Cond}
use Rattle.tql_core.specs.declared.cond.Cond.TheVariants as C

-- a condition without the places in memory of its parts, as every law reads it; one with neither NowAtLeast nor NowBefore is
-- timeless
pub data Condition : Type 0 where
  Always : Condition
  Never : Condition
  Plain : Atom → Condition
  NowAtLeast : Term → Condition
  NowBefore : Term → Condition
  All : Condition → Condition → Condition
  Either : Condition → Condition → Condition
  Not : Condition → Condition
  Exists : Var → Table → Condition → Condition

-- the condition that the code's one represents
abbrev pub condition : Cond → Condition
condition C.True = Always
condition C.False = Never
condition (C.Plain a) = Plain a
condition (C.NowAtLeast e) = NowAtLeast e
condition (C.NowBefore e) = NowBefore e
condition (C.All' p l q r) = All (condition l) (condition r)
condition (C.Either' p l q r) = Either (condition l) (condition r)
condition (C.Not' p x) = Not (condition x)
condition (C.Exists' v t p x) = Exists v t (condition x)
