-- Environments that agree on the variables in scope, and those of path copies.
use Rattle.std.proofs.Common.{◌≡◌, ℕ, zero, suc, ◌≤◌, ℤ, true, Some, List, [], ◌∷◌, ◌++◌, refl, sym, ap, ◌∙◌, subst, inl, inr, arith}
use Rattle.std.specs.Prelude.{◌+ℤ◌, map}
use Rattle.std.specs.List.{list_all}
use Rattle.std.proofs.lemmas.Bool.{cases_eq, and_parts}
use Rattle.tql_core.specs.declared.term.Var.{Var}
use Rattle.tql_core.specs.declared.term.Base.{Base}
use Rattle.tql_core.specs.declared.term.Base.TheVariants.{Arrival, Date, Fixed, ArrivalDay, DateDay}
use Rattle.tql_core.specs.declared.term.Term.{Term}
use Rattle.tql_core.specs.declared.atom.NumExpr.{NumExpr}
use Rattle.tql_core.specs.declared.atom.NumExpr.TheVariants.{Literal, Field}
use Rattle.tql_core.specs.declared.atom.Atom.{Atom}
use Rattle.tql_core.specs.declared.atom.Atom.TheVariants.{Numbers, Texts, Times, Has}
use Rattle.tql_core.specs.declared.atom.TextExpr.{TextExpr}
use Rattle.tql_core.specs.declared.atom.TextExpr.TheVariants as X
use Rattle.tql_core.specs.Condition.{Condition, Plain, All}
use Rattle.tql_core.specs.Row.{Row, arrival, date}
use Rattle.tap_rows.specs.declared.tables.Tables.{Tables}
use Rattle.tql_core.specs.Values.{Env, bind, lookup, on_row, round_up_to_day, day_of, base_value, plus_to, value, field, number, text_field}
use Rattle.tql_core.specs.Values.{text, true_atom}
use Rattle.tql_core.specs.Holds.{truth}
use Rattle.tql_core.specs.Scope.{BaseIn, NumIn, TextIn, AtomIn, Scoped}
use Rattle.tql_core.proofs.Bound.{bind_same, bind_other}
use Rattle.tap_rows.specs.Kept.{In}
use Rattle.time_marks.specs.Marks.{copied, copy, copy_base, copy_term, copy_number, copy_text, copy_atom, guards_of}
use Rattle.time_marks.specs.Laws.{Keeps, Same}
use Rattle.time_marks.proofs.Lists.{all_append}

pub copied_back : (j k : ℕ) → copied j ≡ copied k → j ≡ k
copied_back zero zero e = refl
copied_back zero (suc k) e = absurd (omega arith)
copied_back (suc j) zero e = absurd (omega arith)
copied_back (suc j) (suc k) e = omega arith

pub copied_apart : (k v : ℕ) → 1 ≤ v → v ≤ 5 → copied k ≡ v → ⊥
copied_apart zero v a b e = omega arith
copied_apart (suc k) v a b e = omega arith

pub copied_pos : (v : ℕ) → 1 ≤ v → copied v ≡ 0 → ⊥
copied_pos zero a e = omega arith
copied_pos (suc v) a e = omega arith

pub keeps_bind : (scope : List ℕ) (env penv : Env) (v : Var) (r : Row) → (In v.0 scope → ⊥) → Keeps scope env penv
    → Keeps (v.0 ∷ scope) (bind v r env) (bind (copy v) r penv)
keeps_bind scope env penv v r new h k (inl e) =
    subst (λ j. lookup (copied j) (bind (copy v) r penv) ≡ lookup j (bind v r env)) (sym e)
    (bind_same (copy v) r penv ∙ sym (bind_same v r env))
keeps_bind scope env penv v r new h k (inr i) =
    let apart : k ≡ v.0 → ⊥ = λ e. new (subst (λ j. In j scope) e i) in
    bind_other (copied k) (copy v) r penv (λ e. apart (copied_back k v.0 e)) ∙ h k i ∙ sym (bind_other k v r env apart)

pub keeps_unbind : (scope : List ℕ) (env final : Env) (v : Var) (r : Row) → (In v.0 scope → ⊥) → Keeps (v.0 ∷ scope) (bind v r env) final
    → Keeps scope env final
keeps_unbind scope env final v r new h k i =
    let apart : k ≡ v.0 → ⊥ = λ e. new (subst (λ j. In j scope) e i) in
    h k (inr i) ∙ bind_other k v r env apart

pub same_bind : (scope : List ℕ) (env final : Env) (v : Var) (r : Row) → Same scope env final
    → Same (v.0 ∷ scope) (bind v r env) (bind v r final)
same_bind scope env final v r h k (inl e) =
    subst (λ j. lookup j (bind v r final) ≡ lookup j (bind v r env)) (sym e) (bind_same v r final ∙ sym (bind_same v r env))
same_bind scope env final v r h k (inr i) =
    elim (cases_eq k v.0) [
      | inl e ↦ subst (λ j. lookup j (bind v r final) ≡ lookup j (bind v r env)) (sym e) (bind_same v r final ∙ sym (bind_same v r env))
      | inr n ↦ bind_other k v r final n ∙ h k i ∙ sym (bind_other k v r env n)
    ]

module _ (scope : List ℕ) (env final : Env) (h : Keeps scope env final) where
  pub base_copy : (b : Base) → BaseIn scope b → base_value (copy_base b) final ≡ base_value b env
  base_copy (Arrival v) i = ap (λ o. on_row o (λ r. Some (arrival r))) (h v.0 i)
  base_copy (Date v) i = ap (λ o. on_row o date) (h v.0 i)
  base_copy Fixed i = refl
  base_copy (ArrivalDay v n) i = ap (λ o. on_row o (λ r. Some (round_up_to_day (arrival r +ℤ n)))) (h v.0 i)
  base_copy (DateDay v n) i = ap (λ o. on_row o (λ r. day_of n (date r))) (h v.0 i)

  pub value_copy : (e : Term) → BaseIn scope e.base → value (copy_term e) final ≡ value e env
  value_copy e i = ap (λ o. plus_to o e.plus) (base_copy e.base i)

  pub number_copy : (x : NumExpr) → NumIn scope x → number (copy_number x) final ≡ number x env
  number_copy (Literal n) i = refl
  number_copy (Field v f) i = ap (λ o. on_row o (field f)) (h v.0 i)

  pub text_copy : (x : TextExpr) → TextIn scope x → text (copy_text x) final ≡ text x env
  text_copy (X.Literal t) i = refl
  text_copy (X.Field v f) i = ap (λ o. on_row o (text_field f)) (h v.0 i)

  pub atom_copy : (a : Atom) → AtomIn scope a → true_atom (copy_atom a) final ≡ true_atom a env
  atom_copy (Numbers x op y) i = rw (number_copy x i.0, number_copy y i.1)
  atom_copy (Texts x op y) i = rw (text_copy x i.0, text_copy y i.1)
  atom_copy (Has v f y) i = rw (h v.0 i.0, text_copy y i.1)
  atom_copy (Times x op y) i = rw (value_copy x i.0, value_copy y i.1)

  -- a true condition's guards are true
  pub guards_hold : (T : Tables) (s : ℤ) (c : Condition) → Scoped scope c → truth T s c env ≡ true
      → list_all (λ a. true_atom a final) (map copy_atom (guards_of c)) ≡ true
  guards_hold T s (Plain a) i y = rw (atom_copy a i, y)
  guards_hold T s (All l r) i y =
      let p = and_parts (truth T s l env) (truth T s r env) y in
      rw (map_append copy_atom (guards_of l) (guards_of r)) (all_append (λ a. true_atom a final) (map copy_atom (guards_of l))
      (map copy_atom (guards_of r)) (guards_hold T s l i.0 p.0) (guards_hold T s r i.1 p.1))
    where
      map_append : (f : Atom → Atom) (xs ys : List Atom) → map f (xs ++ ys) ≡ map f xs ++ map f ys
      map_append f [] ys = refl
      map_append f (x ∷ xs) ys = ap (λ zs. f x ∷ zs) (map_append f xs ys)
  guards_hold T s _ i y = refl

module _ (scope : List ℕ) (env final : Env) (h : Same scope env final) where
  pub base_same : (b : Base) → BaseIn scope b → base_value b final ≡ base_value b env
  base_same (Arrival v) i = ap (λ o. on_row o (λ r. Some (arrival r))) (h v.0 i)
  base_same (Date v) i = ap (λ o. on_row o date) (h v.0 i)
  base_same Fixed i = refl
  base_same (ArrivalDay v n) i = ap (λ o. on_row o (λ r. Some (round_up_to_day (arrival r +ℤ n)))) (h v.0 i)
  base_same (DateDay v n) i = ap (λ o. on_row o (λ r. day_of n (date r))) (h v.0 i)

  pub value_same : (e : Term) → BaseIn scope e.base → value e final ≡ value e env
  value_same e i = ap (λ o. plus_to o e.plus) (base_same e.base i)

  pub number_same : (x : NumExpr) → NumIn scope x → number x final ≡ number x env
  number_same (Literal n) i = refl
  number_same (Field v f) i = ap (λ o. on_row o (field f)) (h v.0 i)

  pub text_same : (x : TextExpr) → TextIn scope x → text x final ≡ text x env
  text_same (X.Literal t) i = refl
  text_same (X.Field v f) i = ap (λ o. on_row o (text_field f)) (h v.0 i)

  pub atom_same : (a : Atom) → AtomIn scope a → true_atom a final ≡ true_atom a env
  atom_same (Numbers x op y) i = rw (number_same x i.0, number_same y i.1)
  atom_same (Texts x op y) i = rw (text_same x i.0, text_same y i.1)
  atom_same (Has v f y) i = rw (h v.0 i.0, text_same y i.1)
  atom_same (Times x op y) i = rw (value_same x i.0, value_same y i.1)

-- a copy's value doesn't depend on the variables of EXISTS
pub base_stays : (b : Base) (v : Var) (r : Row) (env : Env) → 1 ≤ v.0 → v.0 ≤ 5
    → base_value (copy_base b) (bind v r env) ≡ base_value (copy_base b) env
base_stays (Arrival w) v r env a b = ap (λ o. on_row o (λ r. Some (arrival r))) (bind_other (copied w.0) v r env (copied_apart w.0 v.0 a b))
base_stays (Date w) v r env a b = ap (λ o. on_row o date) (bind_other (copied w.0) v r env (copied_apart w.0 v.0 a b))
base_stays Fixed v r env a b = refl
base_stays (ArrivalDay w n) v r env a b =
    ap (λ o. on_row o (λ r. Some (round_up_to_day (arrival r +ℤ n)))) (bind_other (copied w.0) v r env (copied_apart w.0 v.0 a b))
base_stays (DateDay w n) v r env a b =
    ap (λ o. on_row o (λ r. day_of n (date r))) (bind_other (copied w.0) v r env (copied_apart w.0 v.0 a b))

pub copy_stays : (e : Term) (v : Var) (r : Row) (env : Env) → 1 ≤ v.0 → v.0 ≤ 5
    → value (copy_term e) (bind v r env) ≡ value (copy_term e) env
copy_stays e v r env a b = ap (λ o. plus_to o e.plus) (base_stays e.base v r env a b)
