-- A condition that doesn't name a variable is true whatever row that has.
use Rattle.std.proofs.Common.{◌≡◌, ℕ, ℤ, false, Some, refl, sym, ap, ◌∙◌, inl, inr}
use Rattle.std.specs.Prelude.{◌+ℤ◌, nat_eq, not}
use Rattle.std.proofs.lemmas.Bool.{cases_eq, eq-eqb, eqb-false, or_parts}
use Rattle.tql_core.specs.declared.term.Var.{Var}
use Rattle.tql_core.specs.declared.term.Base.{Base}
use Rattle.tql_core.specs.declared.term.Base.TheVariants.{Arrival, Date, Fixed, ArrivalDay, DateDay}
use Rattle.tql_core.specs.declared.term.Term.{Term}
use Rattle.tql_core.specs.declared.atom.NumExpr.{NumExpr}
use Rattle.tql_core.specs.declared.atom.NumExpr.TheVariants.{Literal, Field}
use Rattle.tql_core.specs.declared.atom.Atom.{Atom}
use Rattle.tql_core.specs.declared.atom.Atom.TheVariants.{Numbers, Texts, Times, Has}
use Rattle.tql_core.specs.declared.atom.TextExpr.{TextExpr}
use Rattle.tql_core.specs.declared.atom.TextExpr.TheVariants as X
use Rattle.tql_core.specs.Condition.{Condition, Always, Never, Plain, NowAtLeast, NowBefore, All, Either, Not, Exists}
use Rattle.tql_core.specs.Row.{Row, arrival, date, rows_of}
use Rattle.tap_rows.specs.declared.tables.Tables.{Tables}
use Rattle.tql_core.specs.Values.{Env, bind, lookup, on_row, round_up_to_day, day_of, base_value, plus_to, value, field, number, text_field}
use Rattle.tql_core.specs.Values.{text, true_atom}
use Rattle.tql_core.specs.Holds.{truth}
use Rattle.tql_core.proofs.Bound.{bind_other}
use Rattle.query_form.specs.Form.{base_names, number_names, text_names, atom_names, names}
use Rattle.query_form.proofs.Bools.{any_same}

-- both environments have the same for all variables but this one
abbrev pub AgreeBut : Var → Env → Env → Type 0
AgreeBut v env final = (k : ℕ) → (k ≡ v.0 → ⊥) → lookup k final ≡ lookup k env

pub agree_bound : (v : Var) (r : Row) (env : Env) → AgreeBut v env (bind v r env)
agree_bound v r env k h = bind_other k v r env h

agree_bind : (v w : Var) (r : Row) (env final : Env) → AgreeBut v env final → AgreeBut v (bind w r env) (bind w r final)
agree_bind v w r env final h k n =
    elim (cases_eq k w.0) [
      | inl e ↦ at_same k e
      | inr m ↦ bind_other k w r final m ∙ h k n ∙ sym (bind_other k w r env m)
    ]
  where
    at_same : (k : ℕ) → k ≡ w.0 → lookup k (bind w r final) ≡ lookup k (bind w r env)
    at_same k e = rw (eq-eqb k w.0 e)

module _ (v : Var) (env final : Env) (h : AgreeBut v env final) where
  kept : (w : Var) → nat_eq w.0 v.0 ≡ false → lookup w.0 final ≡ lookup w.0 env
  kept w e = h w.0 (eqb-false w.0 v.0 e)

  base_kept : (b : Base) → base_names v b ≡ false → base_value b final ≡ base_value b env
  base_kept (Arrival w) e = ap (λ o. on_row o (λ r. Some (arrival r))) (kept w e)
  base_kept (Date w) e = ap (λ o. on_row o date) (kept w e)
  base_kept Fixed e = refl
  base_kept (ArrivalDay w n) e = ap (λ o. on_row o (λ r. Some (round_up_to_day (arrival r +ℤ n)))) (kept w e)
  base_kept (DateDay w n) e = ap (λ o. on_row o (λ r. day_of n (date r))) (kept w e)

  value_kept : (t : Term) → base_names v t.base ≡ false → value t final ≡ value t env
  value_kept t e = ap (λ o. plus_to o t.plus) (base_kept t.base e)

  number_kept : (x : NumExpr) → number_names v x ≡ false → number x final ≡ number x env
  number_kept (Literal n) e = refl
  number_kept (Field w f) e = ap (λ o. on_row o (field f)) (kept w e)

  text_kept : (x : TextExpr) → text_names v x ≡ false → text x final ≡ text x env
  text_kept (X.Literal t) e = refl
  text_kept (X.Field w f) e = ap (λ o. on_row o (text_field f)) (kept w e)

  atom_kept : (a : Atom) → atom_names v a ≡ false → true_atom a final ≡ true_atom a env
  atom_kept (Numbers x op y) e = let p = or_parts (number_names v x) (number_names v y) e in rw (number_kept x p.0, number_kept y p.1)
  atom_kept (Texts x op y) e = let p = or_parts (text_names v x) (text_names v y) e in rw (text_kept x p.0, text_kept y p.1)
  atom_kept (Times x op y) e = let p = or_parts (base_names v x.base) (base_names v y.base) e in rw (value_kept x p.0, value_kept y p.1)
  atom_kept (Has w f y) e = let p = or_parts (nat_eq w.0 v.0) (text_names v y) e in rw (kept w p.0, text_kept y p.1)

pub truth_kept : (T : Tables) (s : ℤ) (v : Var) (c : Condition) (env final : Env) → AgreeBut v env final → names v c ≡ false
    → truth T s c final ≡ truth T s c env
truth_kept T s v Always env final h e = refl
truth_kept T s v Never env final h e = refl
truth_kept T s v (Plain a) env final h e = atom_kept v env final h a e
truth_kept T s v (NowAtLeast t) env final h e = rw (value_kept v env final h t e)
truth_kept T s v (NowBefore t) env final h e = rw (value_kept v env final h t e)
truth_kept T s v (All l r) env final h e =
    let p = or_parts (names v l) (names v r) e in
    rw (truth_kept T s v l env final h p.0, truth_kept T s v r env final h p.1)
truth_kept T s v (Either l r) env final h e =
    let p = or_parts (names v l) (names v r) e in
    rw (truth_kept T s v l env final h p.0, truth_kept T s v r env final h p.1)
truth_kept T s v (Not x) env final h e = ap not (truth_kept T s v x env final h e)
truth_kept T s v (Exists w t x) env final h e =
    any_same (λ row. truth T s x (bind w row final)) (λ row. truth T s x (bind w row env)) (rows_of t T)
    (λ row. truth_kept T s v x (bind w row env) (bind w row final) (agree_bind v w row env final h) e)
