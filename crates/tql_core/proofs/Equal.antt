-- The test of conditions is equality.
use Rattle.std.proofs.Common.{◌≡◌, ap, refl, subst, true}
use Rattle.std.proofs.lemmas.Bool.{and_parts, and_from, false≢true}
use Rattle.tql_tree.specs.contracts.table.TableEq.TheImpl.Laws as table
use Rattle.tql_core.specs.contracts.term.VarEq.TheImpl.Laws as var
use Rattle.tql_core.specs.contracts.term.TermEq.TheImpl.Laws as term
use Rattle.tql_core.specs.contracts.atom.AtomEq.TheImpl.Laws as atom
use Rattle.tql_core.specs.Condition.{Condition, Always, Never, Plain, NowAtLeast, NowBefore, All, Either, Not, Exists}
use Rattle.tql_core.specs.Exact.{var_is, table_is, term_is, atom_is}
use Rattle.tql_core.specs.Same.{same_condition, SameIsEqual}

pub condition_is : (a b : Condition) → same_condition a b ≡ true → a ≡ b
condition_is Always Always h = refl
condition_is Never Never h = refl
condition_is (Plain a) (Plain b) h = ap Plain (atom_is a b h)
condition_is (NowAtLeast a) (NowAtLeast b) h = ap NowAtLeast (term_is a b h)
condition_is (NowBefore a) (NowBefore b) h = ap NowBefore (term_is a b h)
condition_is (All l r) (All l' r') h = let p = and_parts _ _ h in let e = condition_is l l' p.0 in let f = condition_is r r' p.1 in cc
condition_is (Either l r) (Either l' r') h = let p = and_parts _ _ h in let e = condition_is l l' p.0 in let f = condition_is r r' p.1 in cc
condition_is (Not x) (Not y) h = ap Not (condition_is x y h)
condition_is (Exists v t x) (Exists w u y) h =
    let p = and_parts _ _ h in
    let q = and_parts _ _ p.1 in
    let e = var_is v w p.0 in
    let f = table_is t u q.0 in
    let g = condition_is x y q.1 in
    cc
condition_is _ _ h = absurd (false≢true h)

pub itself : (x : Condition) → same_condition x x ≡ true
itself Always = refl
itself Never = refl
itself (Plain a) = atom.laws-law.refl a
itself (NowAtLeast e) = term.laws-law.refl e
itself (NowBefore e) = term.laws-law.refl e
itself (All l r) = and_from _ _ (itself l) (itself r)
itself (Either l r) = and_from _ _ (itself l) (itself r)
itself (Not x) = itself x
itself (Exists v t x) = and_from _ _ (var.laws-law.refl v) (and_from _ _ (table.laws-law.refl t) (itself x))

pub same_is_equal : SameIsEqual
same_is_equal x y = (condition_is x y, λ e. subst (λ z. same_condition x z ≡ true) e (itself x))
