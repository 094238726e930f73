-- A body at a mark is true if and only if its condition holds at the mark's value.
use Rattle.std.proofs.Common.{◌≡◌, ℕ, ℤ, pos, not, Option, Some, None, List, ◌∷◌, refl, sym, ap, ◌∙◌}
use Rattle.std.specs.Prelude.{◌&&◌, int_le}
use Rattle.tql_core.specs.declared.term.Var.{Var}
use Rattle.tql_core.specs.declared.term.Term.{Term}
use Rattle.tap_base.specs.declared.numbers.Op.TheVariants.{Lt, Le, Gt, Ge}
use Rattle.tql_core.specs.Condition.{Condition, Always, Never, Plain, NowAtLeast, NowBefore, All, Either, Not, Exists}
use Rattle.tql_core.specs.Row.{Row, arrival, rows_of}
use Rattle.tap_rows.specs.declared.tables.Tables.{Tables}
use Rattle.tap_rows.specs.Results.{visible}
use Rattle.tql_core.specs.Values.{Env, bind, on_row, plus_to, value, both}
use Rattle.tql_core.specs.Holds.{truth}
use Rattle.tql_core.specs.Scope.{Scoped}
use Rattle.tql_core.proofs.Bound.{bind_same}
use Rattle.time_marks.specs.Marks.{copy_term, arrival_term, body}
use Rattle.time_marks.specs.Laws.{Same}
use Rattle.time_marks.proofs.Lists.{any_same, any_visible}
use Rattle.time_marks.proofs.Envs.{same_bind, value_same, atom_same, copy_stays}
use Rattle.time_marks.proofs.Crossing.{plus_none}

at_least_turned : (o : Option ℤ) (b : ℤ) → both Ge (Some b) o ≡ both Le o (Some b)
at_least_turned None b = refl
at_least_turned (Some x) b = refl

before_turned : (o : Option ℤ) (b : ℤ) → both Lt (Some b) o ≡ both Gt o (Some b)
before_turned None b = refl
before_turned (Some x) b = refl

pub arrival_value : (v : Var) (r : Row) (env : Env) → value (arrival_term v) (bind v r env) ≡ Some (arrival r)
arrival_value v r env = ap (λ o. plus_to (on_row o (λ row. Some (arrival row))) (pos 0)) (bind_same v r env)
    ∙ ap Some (plus_none (arrival r))

module _ (T : Tables) (n b : ℤ) (e : Term) where
  pub body_truth : (c : Condition) (scope : List ℕ) (env final : Env) → Scoped scope c → Same scope env final
      → value (copy_term e) final ≡ Some b → truth T n (body c (copy_term e)) final ≡ truth (visible T b) b c env
  body_truth Always scope env final sc h v = refl
  body_truth Never scope env final sc h v = refl
  body_truth (Plain a) scope env final sc h v = atom_same scope env final h a sc
  body_truth (NowAtLeast x) scope env final sc h v = rw (v, value_same scope env final h x sc) (at_least_turned (value x env) b)
  body_truth (NowBefore x) scope env final sc h v = rw (v, value_same scope env final h x sc) (before_turned (value x env) b)
  body_truth (All l r) scope env final sc h v = rw (body_truth l scope env final sc.0 h v, body_truth r scope env final sc.1 h v)
  body_truth (Either l r) scope env final sc h v = rw (body_truth l scope env final sc.0 h v, body_truth r scope env final sc.1 h v)
  body_truth (Not x) scope env final sc h v = ap not (body_truth x scope env final sc h v)
  body_truth (Exists w t x) scope env final sc h v =
      any_same _ (λ r. int_le (arrival r) b && truth (visible T b) b x (bind w r env)) (rows_of t T) (λ r.
      let s = copy_stays e w r final sc.0 sc.1 ∙ v in
      rw (arrival_value w r final, s) (ap (λ y. int_le (arrival r) b && y)
      (body_truth x (w.0 ∷ scope) (bind w r env) (bind w r final) sc.3 (same_bind scope env final w r h) s)))
      ∙ sym (any_visible t T b (λ r. truth (visible T b) b x (bind w r env)))
