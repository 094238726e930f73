-- Bodies with what is known of them worked out.
use Rattle.std.specs.Prelude.{Bool, true, false, ◌&&◌, nat_eq, if◌then◌else◌}
use Rattle.std.specs.Ordering.{int_eq}
use Rattle.tql_core.specs.declared.term.Base.{Base}
use Rattle.tql_core.specs.declared.term.Base.TheVariants.{Arrival, Date, Fixed, ArrivalDay, DateDay}
use Rattle.tql_core.specs.declared.term.Term.{Term}
use Rattle.tql_core.specs.declared.atom.Atom.{Atom}
use Rattle.tql_core.specs.declared.atom.Atom.TheVariants.{Numbers, Texts, Times, Has}
use Rattle.tql_tree.specs.declared.table.Table.{Table}
use Rattle.tql_core.specs.declared.term.Var.{Var}
use Rattle.tql_core.specs.Condition.{Condition, Always, Never, Plain, NowAtLeast, NowBefore, All, Either, Not, Exists}
use Rattle.tql_core.specs.Values.{compare}

-- what is known of a condition: it is True, it is False, or neither
pub data KnownTruth : Type 0 where
  Yes : KnownTruth
  No : KnownTruth
  Open : KnownTruth

abbrev pub known : Condition → KnownTruth
known Always = Yes
known Never = No
known _ = Open

abbrev pub is_no : KnownTruth → Bool
is_no No = true
is_no _ = false

abbrev pub constant : Bool → Condition
constant true = Always
constant false = Never

abbrev pub same_base : Base → Base → Bool
same_base (Arrival v) (Arrival w) = nat_eq v.0 w.0
same_base (Date v) (Date w) = nat_eq v.0 w.0
same_base Fixed Fixed = true
same_base (ArrivalDay v n) (ArrivalDay w k) = nat_eq v.0 w.0 && int_eq n k
same_base (DateDay v n) (DateDay w k) = nat_eq v.0 w.0 && int_eq n k
same_base _ _ = false

-- the base is present wherever at is
abbrev pub is_there : Term → Base → Bool
is_there at (Arrival v) = true
is_there at (Date v) = same_base (Date v) at.base
is_there at Fixed = true
is_there at (ArrivalDay v n) = same_base (ArrivalDay v n) at.base
is_there at (DateDay v n) = same_base (DateDay v n) at.base

-- a comparison of times with one base that is present goes by the numbers
abbrev pub fold_atom : Term → Atom → Condition
fold_atom at (Numbers x op y) = Plain (Numbers x op y)
fold_atom at (Texts x op y) = Plain (Texts x op y)
fold_atom at (Has v f y) = Plain (Has v f y)
fold_atom at (Times x op y) = if same_base x.base y.base && is_there at x.base then constant (compare op x.plus y.plus)
    else Plain (Times x op y)

abbrev pub fold_all : KnownTruth → KnownTruth → Condition → Condition → Condition
fold_all No k l r = Never
fold_all Yes k l r = r
fold_all Open No l r = Never
fold_all Open Yes l r = l
fold_all Open Open l r = All l r

abbrev pub fold_either : KnownTruth → KnownTruth → Condition → Condition → Condition
fold_either Yes k l r = Always
fold_either No k l r = r
fold_either Open Yes l r = Always
fold_either Open No l r = l
fold_either Open Open l r = Either l r

abbrev pub fold_not : KnownTruth → Condition → Condition
fold_not Yes x = Never
fold_not No x = Always
fold_not Open x = Not x

abbrev pub fold_exists : KnownTruth → Var → Table → Condition → Condition
fold_exists No v t x = Never
fold_exists Yes v t x = Exists v t x
fold_exists Open v t x = Exists v t x

-- a body with comparisons of shifts of one base settled, if the base is an arrival, a fixed second or the mark's own, and the
-- truths that this gives worked in
abbrev pub fold : Term → Condition → Condition
fold at Always = Always
fold at Never = Never
fold at (Plain a) = fold_atom at a
fold at (NowAtLeast e) = NowAtLeast e
fold at (NowBefore e) = NowBefore e
fold at (All l r) = fold_all (known (fold at l)) (known (fold at r)) (fold at l) (fold at r)
fold at (Either l r) = fold_either (known (fold at l)) (known (fold at r)) (fold at l) (fold at r)
fold at (Not x) = fold_not (known (fold at x)) (fold at x)
fold at (Exists v t x) = fold_exists (known (fold at x)) v t (fold at x)
