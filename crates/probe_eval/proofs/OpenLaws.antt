-- Guards while rows are looked for.
use Rattle.std.proofs.Common.{◌≡◌, ◌∙◌, ℕ, Bool, true, false, Some, None, List, refl, sym, ap, subst, inl, inr}
use Rattle.std.specs.Prelude.{◌⊎◌, ◌+ℤ◌, is_some}
use Rattle.tql_core.specs.declared.term.Term.{Term}
use Rattle.std.proofs.lemmas.Bool.{cases_Bool, cases_eq, and_parts, and_from}
use Rattle.tql_core.specs.declared.term.Var.{Var}
use Rattle.tql_core.specs.declared.term.Base.{Base}
use Rattle.tql_core.specs.declared.term.Base.TheVariants.{Arrival, Date, Fixed, ArrivalDay, DateDay}
use Rattle.tql_core.specs.declared.atom.NumExpr.{NumExpr}
use Rattle.tql_core.specs.declared.atom.NumExpr.TheVariants.{Literal, Field}
use Rattle.tql_core.specs.declared.atom.TextExpr.{TextExpr}
use Rattle.tql_core.specs.declared.atom.TextExpr.TheVariants as X
use Rattle.tql_core.specs.declared.atom.Atom.{Atom}
use Rattle.tql_core.specs.declared.atom.Atom.TheVariants.{Numbers, Texts, Times, Has}
use Rattle.tql_core.specs.Row.{Row, date, arrival}
use Rattle.tql_core.specs.Scope.{BaseIn, NumIn, TextIn, AtomIn}
use Rattle.tap_rows.specs.Kept.{In}
use Rattle.tql_core.specs.Values.{Env, bind, lookup, on_row, round_up_to_day, day_of, base_value, plus_to, value, field, number, text_field}
use Rattle.tql_core.specs.Values.{text, true_atom}
use Rattle.tql_core.proofs.Bound.{bind_same, bind_other}
use Rattle.time_marks.specs.declared.mark.Step.{Step}
use Rattle.time_marks.proofs.Lists.{all_in}
use Rattle.time_marks.proofs.Orders.{all_from}
use Rattle.access_plan.specs.Accesses.{is_held}
use Rattle.access_plan.specs.Laws.{AreSame}
use Rattle.probe_eval.specs.Open.{base_known, number_known, text_known, atom_known, atom_held, may_hold, are_open, path_open}

-- what is bound has a row
pub held_same : (env : Env) (v : Var) (row : Row) → is_held (bind v row env) v.0 ≡ true
held_same env v row = ap is_some (bind_same v row env)

pub held_other : (env : Env) (v : Var) (row : Row) (k : ℕ) → (k ≡ v.0 → ⊥) → is_held (bind v row env) k ≡ is_held env k
held_other env v row k n = ap is_some (bind_other k v row env n)

pub held_more : (env : Env) (v : Var) (row : Row) (k : ℕ) → is_held env k ≡ true → is_held (bind v row env) k ≡ true
held_more env v row k h =
    elim (cases_eq k v.0) [
      | inl e ↦ subst (λ j. is_held (bind v row env) j ≡ true) (sym e) (held_same env v row)
      | inr n ↦ held_other env v row k n ∙ h
    ]

pub held_was : (env : Env) (v : Var) (row : Row) (k : ℕ) → is_held (bind v row env) k ≡ true → (k ≡ v.0) ⊎ (is_held env k ≡ true)
held_was env v row k h = elim (cases_eq k v.0) [ inl e ↦ inl e | inr n ↦ inr (sym (held_other env v row k n) ∙ h) ]

pub row_held : (env : Env) (k : ℕ) (row : Row) → lookup k env ≡ Some row → is_held env k ≡ true
row_held env k row e = ap is_some e

pub not_held : (env : Env) (k : ℕ) → lookup k env ≡ None → is_held env k ≡ false
not_held env k e = ap is_some e

-- binding a row of the end keeps what agrees with it
pub same_bound : (env final : Env) (v : Var) (row : Row) → AreSame (is_held env) env final → lookup v.0 final ≡ Some row
    → AreSame (is_held (bind v row env)) (bind v row env) final
same_bound env final v row same e k h =
    elim (cases_eq k v.0) [
      | inl q ↦ subst (λ j. lookup j final ≡ lookup j (bind v row env)) (sym q) (e ∙ sym (bind_same v row env))
      | inr n ↦ same k (sym (held_other env v row k n) ∙ h) ∙ sym (bind_other k v row env n)
    ]

-- a guard that names known variables alone has the truth that it has in the end
module _ (known : ℕ → Bool) (env final : Env) (h : AreSame known env final) where
  base_is : (b : Base) → base_known known b ≡ true → base_value b final ≡ base_value b env
  base_is (Arrival v) i = ap (λ o. on_row o (λ r. Some (arrival r))) (h v.0 i)
  base_is (Date v) i = ap (λ o. on_row o date) (h v.0 i)
  base_is Fixed i = refl
  base_is (ArrivalDay v n) i = ap (λ o. on_row o (λ r. Some (round_up_to_day (arrival r +ℤ n)))) (h v.0 i)
  base_is (DateDay v n) i = ap (λ o. on_row o (λ r. day_of n (date r))) (h v.0 i)

  pub value_is : (e : Term) → base_known known e.base ≡ true → value e final ≡ value e env
  value_is e i = ap (λ o. plus_to o e.plus) (base_is e.base i)

  pub number_is : (x : NumExpr) → number_known known x ≡ true → number x final ≡ number x env
  number_is (Literal n) i = refl
  number_is (Field v f) i = ap (λ o. on_row o (field f)) (h v.0 i)

  pub text_is : (x : TextExpr) → text_known known x ≡ true → text x final ≡ text x env
  text_is (X.Literal t) i = refl
  text_is (X.Field v f) i = ap (λ o. on_row o (text_field f)) (h v.0 i)

  pub atom_is : (a : Atom) → atom_known known a ≡ true → true_atom a final ≡ true_atom a env
  atom_is (Numbers x op y) i = let k = and_parts (number_known known x) (number_known known y) i in rw (number_is x k.0, number_is y k.1)
  atom_is (Texts x op y) i = let k = and_parts (text_known known x) (text_known known y) i in rw (text_is x k.0, text_is y k.1)
  atom_is (Has v f y) i = let k = and_parts (known v.0) (text_known known y) i in rw (h v.0 k.0, text_is y k.1)
  atom_is (Times x op y) i = let k = and_parts (base_known known x.base) (base_known known y.base) i in rw (value_is x k.0, value_is y k.1)

-- what is named of some variables is named of more of them
module _ (known more : ℕ → Bool) (h : (k : ℕ) → known k ≡ true → more k ≡ true) where
  more_base : (b : Base) → base_known known b ≡ true → base_known more b ≡ true
  more_base (Arrival v) i = h v.0 i
  more_base (Date v) i = h v.0 i
  more_base Fixed i = refl
  more_base (ArrivalDay v n) i = h v.0 i
  more_base (DateDay v n) i = h v.0 i

  more_number : (x : NumExpr) → number_known known x ≡ true → number_known more x ≡ true
  more_number (Literal n) i = refl
  more_number (Field v f) i = h v.0 i

  more_text : (x : TextExpr) → text_known known x ≡ true → text_known more x ≡ true
  more_text (X.Literal t) i = refl
  more_text (X.Field v f) i = h v.0 i

  pub more_known : (a : Atom) → atom_known known a ≡ true → atom_known more a ≡ true
  more_known (Numbers x op y) i =
      let k = and_parts (number_known known x) (number_known known y) i in
      and_from _ _ (more_number x k.0) (more_number y k.1)
  more_known (Texts x op y) i =
      let k = and_parts (text_known known x) (text_known known y) i in
      and_from _ _ (more_text x k.0) (more_text y k.1)
  more_known (Has v f y) i = let k = and_parts (known v.0) (text_known known y) i in and_from _ _ (h v.0 k.0) (more_text y k.1)
  more_known (Times x op y) i =
      let k = and_parts (base_known known x.base) (base_known known y.base) i in
      and_from _ _ (more_base x.base k.0) (more_base y.base k.1)

-- a guard that can be evaluated has the truth that it has in the end
module _ (env final : Env) (h : AreSame (is_held env) env final) where
  open_one : (a : Atom) → true_atom a final ≡ true → may_hold env a ≡ true
  open_one a t = elim (cases_Bool (atom_held env a)) [
    | inl y ↦ let e : true_atom a env ≡ true = sym (atom_is (is_held env) env final h a y) ∙ t in rw (y, e) refl
    | inr n ↦ rw n refl
  ]

  -- guards that are true in the end are open before
  pub stays_open : (path : List Step) → ((step : Step) → In step path → (a : Atom) → In a step.guards → true_atom a final ≡ true)
      → path_open path env ≡ true
  stays_open path g = all_from (λ (step : Step). are_open env step.guards) path (λ step i. all_from (may_hold env) step.guards (λ a j.
      open_one a (g step i a j)))

-- if each variable that is named has a row, a guard can be evaluated
module _ (env : Env) (scope : List ℕ) (h : (k : ℕ) → In k scope → is_held env k ≡ true) where
  held_base : (b : Base) → BaseIn scope b → base_known (is_held env) b ≡ true
  held_base (Arrival v) i = h v.0 i
  held_base (Date v) i = h v.0 i
  held_base Fixed i = refl
  held_base (ArrivalDay v n) i = h v.0 i
  held_base (DateDay v n) i = h v.0 i

  held_number : (x : NumExpr) → NumIn scope x → number_known (is_held env) x ≡ true
  held_number (Literal n) i = refl
  held_number (Field v f) i = h v.0 i

  held_text : (x : TextExpr) → TextIn scope x → text_known (is_held env) x ≡ true
  held_text (X.Literal t) i = refl
  held_text (X.Field v f) i = h v.0 i

  held_atom : (a : Atom) → AtomIn scope a → atom_held env a ≡ true
  held_atom (Numbers x op y) i = and_from _ _ (held_number x i.0) (held_number y i.1)
  held_atom (Texts x op y) i = and_from _ _ (held_text x i.0) (held_text y i.1)
  held_atom (Has v f y) i = and_from _ _ (h v.0 i.0) (held_text y i.1)
  held_atom (Times x op y) i = and_from _ _ (held_base x.base i.0) (held_base y.base i.1)

  open_true : (a : Atom) → AtomIn scope a → may_hold env a ≡ true → true_atom a env ≡ true
  open_true a i o = let y = held_atom a i in rw y at o

  -- open guards are then true
  pub all_true : (path : List Step) → ((step : Step) → In step path → (a : Atom) → In a step.guards → AtomIn scope a)
      → path_open path env ≡ true → (step : Step) → In step path → (a : Atom) → In a step.guards → true_atom a env ≡ true
  all_true path s o step i a j =
      open_true a (s step i a j) (all_in (may_hold env) step.guards a (all_in (λ (step : Step). are_open env step.guards) path step o i) j)
