-- Sides of an equation, and that it may be turned round.
use Rattle.std.proofs.Common.{◌≡◌, ◌∙◌, refl, sym, ap, subst, true, ℤ, pos, ℕ, List, Option, Some, None}
use Rattle.std.specs.Ordering.{int_eq, is_eq}
use Rattle.std.specs.Cmp.Lexicographic.{bytes_decides}
use Rattle.std.proofs.lemmas.Bool.{false≢true}
use Rattle.std.proofs.lemmas.Bool.Decides.{Decides-int_eq}
use Rattle.std.proofs.lemmas.Map.Text.{is_eq-slice_cmp}
use Rattle.tap_base.specs.declared.numbers.Op.TheVariants.{Eq}
use Rattle.tql_core.specs.declared.atom.NumExpr.{NumExpr}
use Rattle.tql_core.specs.declared.atom.NumExpr.TheVariants.{Literal}
use Rattle.tql_core.specs.declared.atom.Atom.{Atom}
use Rattle.tql_core.specs.declared.atom.Atom.TheVariants.{Numbers}
use Rattle.tql_core.specs.contracts.atom.NumExprPartialEq.TheImpl as num_expr
use Rattle.tql_core.specs.Exact.{atom_is}
use Rattle.tql_core.specs.Values.{text_cmp, both, both_texts}

abbrev left_number : Atom → NumExpr
left_number (Numbers x op y) = x
left_number _ = Literal (pos 0)

-- numbers of expressions that compare as equal are the same
pub number_is : (x y : NumExpr) → num_expr.ghosts.eq x y ≡ true → x ≡ y
number_is x y h = ap left_number (atom_is (Numbers x Eq (Literal (pos 0))) (Numbers y Eq (Literal (pos 0))) (rw h refl))

-- an equation is true the other way round too
pub both_round : (x y : Option ℤ) → both Eq x y ≡ true → both Eq y x ≡ true
both_round None y h = absurd (false≢true h)
both_round (Some x) None h = absurd (false≢true h)
both_round (Some x) (Some y) h =
    let e = (Decides-int_eq x y).0 h in
    subst (λ z. int_eq z x ≡ true) e (subst (λ z. int_eq x z ≡ true) (sym e) h)

text_eq : (x y : List ℕ) → is_eq (text_cmp x y) ≡ true → x ≡ y
text_eq x y h = (bytes_decides x y).0 (sym (is_eq-slice_cmp x y) ∙ h)

pub texts_round : (x y : Option (List ℕ)) → both_texts Eq x y ≡ true → both_texts Eq y x ≡ true
texts_round None y h = absurd (false≢true h)
texts_round (Some x) None h = absurd (false≢true h)
texts_round (Some x) (Some y) h =
    let e = text_eq x y h in
    subst (λ z. is_eq (text_cmp z x) ≡ true) e (subst (λ z. is_eq (text_cmp x z) ≡ true) (sym e) h)
