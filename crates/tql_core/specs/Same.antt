-- Equality of conditions, as a test.
use Rattle.std.specs.Prelude.{◌≡◌, ◌↔◌, Bool, true, false, ◌&&◌}
use Rattle.tql_tree.specs.contracts.table.TablePartialEq.TheImpl as table
use Rattle.tql_core.specs.contracts.term.VarPartialEq.TheImpl as var
use Rattle.tql_core.specs.contracts.term.TermPartialEq.TheImpl as term
use Rattle.tql_core.specs.contracts.atom.AtomPartialEq.TheImpl as atom
use Rattle.tql_core.specs.Condition.{Condition, Always, Never, Plain, NowAtLeast, NowBefore, All, Either, Not, Exists}

-- are the conditions equal?
abbrev pub same_condition : Condition → Condition → Bool
same_condition Always Always = true
same_condition Never Never = true
same_condition (Plain a) (Plain b) = atom.ghosts.eq a b
same_condition (NowAtLeast e) (NowAtLeast f) = term.ghosts.eq e f
same_condition (NowBefore e) (NowBefore f) = term.ghosts.eq e f
same_condition (All l r) (All l' r') = same_condition l l' && same_condition r r'
same_condition (Either l r) (Either l' r') = same_condition l l' && same_condition r r'
same_condition (Not x) (Not y) = same_condition x y
same_condition (Exists v t x) (Exists w u y) = var.ghosts.eq v w && (table.ghosts.eq t u && same_condition x y)
same_condition _ _ = false

-- the test is true if and only if the conditions are equal
abbrev pub SameIsEqual : Type 0
SameIsEqual = (x y : Condition) → ((same_condition x y ≡ true) ↔ (x ≡ y))
