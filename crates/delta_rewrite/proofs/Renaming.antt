-- One variable in the place of another: what this does to truths, scopes and depths.
use Rattle.std.proofs.Common.{◌≡◌, ℕ, ◌<◌, ℤ, suc, not, Some, List, ◌∷◌, refl, sym, ap, ◌∙◌, subst, inl, inr, arith}
use Rattle.std.specs.Prelude.{◌+ℤ◌}
use Rattle.std.proofs.lemmas.Bool.{cases_eq, eq-eqb, ne_eqb}
use Rattle.tql_core.specs.declared.term.Var.{Var}
use Rattle.tql_core.specs.declared.term.Base.{Base}
use Rattle.tql_core.specs.declared.term.Base.TheVariants.{Arrival, Date, Fixed, ArrivalDay, DateDay}
use Rattle.tql_core.specs.declared.term.Term.{Term}
use Rattle.tql_core.specs.declared.atom.NumExpr.{NumExpr}
use Rattle.tql_core.specs.declared.atom.NumExpr.TheVariants.{Literal, Field}
use Rattle.tql_core.specs.declared.atom.TextExpr.{TextExpr}
use Rattle.tql_core.specs.declared.atom.TextExpr.TheVariants as X
use Rattle.tql_core.specs.declared.atom.Atom.{Atom}
use Rattle.tql_core.specs.declared.atom.Atom.TheVariants.{Numbers, Texts, Times, Has}
use Rattle.tql_core.specs.Condition.{Condition, Always, Never, Plain, NowAtLeast, NowBefore, All, Either, Not, Exists}
use Rattle.tql_core.specs.Row.{Row, arrival, date, rows_of}
use Rattle.tql_core.specs.Values.{Env, bind, lookup, on_row, round_up_to_day, day_of, base_value, plus_to, value, field, number, text_field}
use Rattle.tql_core.specs.Values.{text, true_atom}
use Rattle.tql_core.specs.Holds.{truth}
use Rattle.tql_core.specs.Scope.{BaseIn, NumIn, TextIn, AtomIn}
use Rattle.tql_core.proofs.Bound.{bind_same, bind_other}
use Rattle.tap_rows.specs.declared.tables.Tables.{Tables}
use Rattle.tap_rows.specs.Kept.{In}
use Rattle.time_marks.specs.Found.{NamesInScope, nested}
use Rattle.time_marks.proofs.Lists.{any_same}
use Rattle.time_marks.proofs.Orders.{truth_same}
use Rattle.monotone_rewrite.proofs.Folds.{atom_within, wider}
use Rattle.delta_rewrite.specs.Delta.{renamed_var, renamed_base, renamed_term, renamed_number, renamed_text, renamed_atom, renamed}

-- the first environment has for w what the second has for v, and both have the same for all but v
pub record Stands (v w : Var) (env other : Env) : Type 0 where
  pub there : lookup w.0 env ≡ lookup v.0 other
  pub rest : (k : ℕ) → (k ≡ v.0 → ⊥) → lookup k env ≡ lookup k other

-- what a variable's binding leaves alike
pub bind_alike : (k : ℕ) (u : Var) (r : Row) (env other : Env) → ((k ≡ u.0 → ⊥) → lookup k env ≡ lookup k other)
    → lookup k (bind u r env) ≡ lookup k (bind u r other)
bind_alike k u r env other h =
    elim (cases_eq k u.0) [
      | inl e ↦ subst (λ j. lookup j (bind u r env) ≡ lookup j (bind u r other)) (sym e) (bind_same u r env ∙ sym (bind_same u r other))
      | inr m ↦ bind_other k u r env m ∙ h m ∙ sym (bind_other k u r other m)
    ]

-- with w's row bound to v, the renamed one has what the other has
pub stands_for : (v w : Var) (r : Row) (env : Env) → lookup w.0 env ≡ Some r → Stands v w env (bind v r env)
stands_for v w r env e = record {
  there = e ∙ sym (bind_same v r env);
  rest = λ k m. sym (bind_other k v r env m);
}

stands_bind : (v w u : Var) (r : Row) (env other : Env) → (u.0 ≡ v.0 → ⊥) → (w.0 ≡ u.0 → ⊥) → Stands v w env other
    → Stands v w (bind u r env) (bind u r other)
stands_bind v w u r env other m n h = record {
  there = bind_other w.0 u r env n ∙ h.there ∙ sym (bind_other v.0 u r other (λ e. m (sym e)));
  rest = λ k z. bind_alike k u r env other (λ y. h.rest k z);
}

module _ (v w : Var) (env other : Env) (h : Stands v w env other) where
  row_renamed : (u : Var) → lookup (renamed_var v w u).0 env ≡ lookup u.0 other
  row_renamed u =
      elim (cases_eq u.0 v.0) [
        | inl e ↦ rw (eq-eqb u.0 v.0 e) (h.there ∙ ap (λ k. lookup k other) (sym e))
        | inr m ↦ rw (ne_eqb u.0 v.0 m) (h.rest u.0 m)
      ]

  base_renamed : (b : Base) → base_value (renamed_base v w b) env ≡ base_value b other
  base_renamed (Arrival u) = ap (λ o. on_row o (λ r. Some (arrival r))) (row_renamed u)
  base_renamed (Date u) = ap (λ o. on_row o date) (row_renamed u)
  base_renamed Fixed = refl
  base_renamed (ArrivalDay u n) = ap (λ o. on_row o (λ r. Some (round_up_to_day (arrival r +ℤ n)))) (row_renamed u)
  base_renamed (DateDay u n) = ap (λ o. on_row o (λ r. day_of n (date r))) (row_renamed u)

  value_renamed : (e : Term) → value (renamed_term v w e) env ≡ value e other
  value_renamed e = ap (λ o. plus_to o e.plus) (base_renamed e.base)

  number_renamed : (x : NumExpr) → number (renamed_number v w x) env ≡ number x other
  number_renamed (Literal n) = refl
  number_renamed (Field u f) = ap (λ o. on_row o (field f)) (row_renamed u)

  text_renamed : (x : TextExpr) → text (renamed_text v w x) env ≡ text x other
  text_renamed (X.Literal t) = refl
  text_renamed (X.Field u f) = ap (λ o. on_row o (text_field f)) (row_renamed u)

  atom_renamed : (a : Atom) → true_atom (renamed_atom v w a) env ≡ true_atom a other
  atom_renamed (Numbers x op y) = rw (number_renamed x, number_renamed y)
  atom_renamed (Texts x op y) = rw (text_renamed x, text_renamed y)
  atom_renamed (Times x op y) = rw (value_renamed x, value_renamed y)
  atom_renamed (Has u f y) = rw (row_renamed u, text_renamed y)

module _ (T : Tables) (n : ℤ) (v w : Var) (high : 5 < w.0) where
  -- a renamed condition is as true as the condition is with the new one's row bound to the old one
  pub truth_renamed : (x : Condition) (scope : List ℕ) (env other : Env) → NamesInScope scope x → Stands v w env other
      → truth T n (renamed v w x) env ≡ truth T n x other
  truth_renamed Always scope env other na h = refl
  truth_renamed Never scope env other na h = refl
  truth_renamed (Plain a) scope env other na h = atom_renamed v w env other h a
  truth_renamed (NowAtLeast e) scope env other na h = absurd na
  truth_renamed (NowBefore e) scope env other na h = absurd na
  truth_renamed (All l r) scope env other na h =
      rw (truth_renamed l scope env other na.0 h, truth_renamed r scope env other na.1 h)
  truth_renamed (Either l r) scope env other na h =
      rw (truth_renamed l scope env other na.0 h, truth_renamed r scope env other na.1 h)
  truth_renamed (Not x) scope env other na h = ap not (truth_renamed x scope env other na h)
  truth_renamed (Exists u t x) scope env other na h =
      elim (cases_eq u.0 v.0) [
        | inl e ↦ rw (eq-eqb u.0 v.0 e) (any_same _ _ (rows_of t T) (λ r.
            truth_same T n x (u.0 ∷ scope) (bind u r other) (bind u r env) na.2
            (λ k i. bind_alike k u r env other (λ m. h.rest k (λ z. m (z ∙ sym e))))))
        | inr m ↦ rw (ne_eqb u.0 v.0 m) (any_same _ _ (rows_of t T) (λ r.
            truth_renamed x (u.0 ∷ scope) (bind u r env) (bind u r other) na.2
            (stands_bind v w u r env other m (λ e. let le = na.1 in absurd (omega arith)) h)))
      ]

-- what names variables of a scope names those of a wider one
pub names_within : (scope outer : List ℕ) → ((k : ℕ) → In k scope → In k outer) → (x : Condition) → NamesInScope scope x
    → NamesInScope outer x
names_within scope outer h Always na = tt
names_within scope outer h Never na = tt
names_within scope outer h (Plain a) na = atom_within scope outer h a na
names_within scope outer h (NowAtLeast e) na = absurd na
names_within scope outer h (NowBefore e) na = absurd na
names_within scope outer h (All l r) na = (names_within scope outer h l na.0, names_within scope outer h r na.1)
names_within scope outer h (Either l r) na = (names_within scope outer h l na.0, names_within scope outer h r na.1)
names_within scope outer h (Not x) na = names_within scope outer h x na
names_within scope outer h (Exists u t x) na =
    (na.0, na.1, names_within (u.0 ∷ scope) (u.0 ∷ outer) (wider u.0 scope outer h) x na.2)

module _ (v w : Var) (scope outer : List ℕ) (h : (k : ℕ) → In k scope → (k ≡ v.0 → ⊥) → In k outer) (i : In w.0 outer) where
  var_named : (u : Var) → In u.0 scope → In (renamed_var v w u).0 outer
  var_named u j =
      elim (cases_eq u.0 v.0) [
        | inl e ↦ rw (eq-eqb u.0 v.0 e) i
        | inr m ↦ rw (ne_eqb u.0 v.0 m) (h u.0 j m)
      ]

  base_named : (b : Base) → BaseIn scope b → BaseIn outer (renamed_base v w b)
  base_named (Arrival u) j = var_named u j
  base_named (Date u) j = var_named u j
  base_named Fixed j = tt
  base_named (ArrivalDay u n) j = var_named u j
  base_named (DateDay u n) j = var_named u j

  number_named : (x : NumExpr) → NumIn scope x → NumIn outer (renamed_number v w x)
  number_named (Literal n) j = tt
  number_named (Field u f) j = var_named u j

  text_named : (x : TextExpr) → TextIn scope x → TextIn outer (renamed_text v w x)
  text_named (X.Literal t) j = tt
  text_named (X.Field u f) j = var_named u j

  atom_named : (a : Atom) → AtomIn scope a → AtomIn outer (renamed_atom v w a)
  atom_named (Numbers x op y) j = (number_named x j.0, number_named y j.1)
  atom_named (Texts x op y) j = (text_named x j.0, text_named y j.1)
  atom_named (Times x op y) j = (base_named x.base j.0, base_named y.base j.1)
  atom_named (Has u f y) j = (var_named u j.0, text_named y j.1)

-- a renamed condition names the new variable, and of the others all but the old one
pub names_renamed : (v w : Var) (x : Condition) (scope outer : List ℕ) → ((k : ℕ) → In k scope → (k ≡ v.0 → ⊥) → In k outer)
    → In w.0 outer → NamesInScope scope x → NamesInScope outer (renamed v w x)
names_renamed v w Always scope outer h i na = tt
names_renamed v w Never scope outer h i na = tt
names_renamed v w (Plain a) scope outer h i na = atom_named v w scope outer h i a na
names_renamed v w (NowAtLeast e) scope outer h i na = absurd na
names_renamed v w (NowBefore e) scope outer h i na = absurd na
names_renamed v w (All l r) scope outer h i na =
    (names_renamed v w l scope outer h i na.0, names_renamed v w r scope outer h i na.1)
names_renamed v w (Either l r) scope outer h i na =
    (names_renamed v w l scope outer h i na.0, names_renamed v w r scope outer h i na.1)
names_renamed v w (Not x) scope outer h i na = names_renamed v w x scope outer h i na
names_renamed v w (Exists u t x) scope outer h i na =
    elim (cases_eq u.0 v.0) [
      | inl e ↦ rw (eq-eqb u.0 v.0 e) (na.0, na.1, names_within (u.0 ∷ scope) (u.0 ∷ outer) (hidden e) x na.2)
      | inr m ↦ rw (ne_eqb u.0 v.0 m) (na.0, na.1, names_renamed v w x (u.0 ∷ scope) (u.0 ∷ outer) shown (inr i) na.2)
    ]
  where
    hidden : u.0 ≡ v.0 → (k : ℕ) → In k (u.0 ∷ scope) → In k (u.0 ∷ outer)
    hidden e k (inl z) = inl z
    hidden e k (inr j) = elim (cases_eq k u.0) [ inl z ↦ inl z | inr m ↦ inr (h k j (λ z. m (z ∙ sym e))) ]

    shown : (k : ℕ) → In k (u.0 ∷ scope) → (k ≡ v.0 → ⊥) → In k (u.0 ∷ outer)
    shown k (inl z) m = inl z
    shown k (inr j) m = inr (h k j m)

-- renaming keeps the depth
pub nested_renamed : (v w : Var) (x : Condition) → nested (renamed v w x) ≡ nested x
nested_renamed v w Always = refl
nested_renamed v w Never = refl
nested_renamed v w (Plain a) = refl
nested_renamed v w (NowAtLeast e) = refl
nested_renamed v w (NowBefore e) = refl
nested_renamed v w (All l r) = rw (nested_renamed v w l, nested_renamed v w r)
nested_renamed v w (Either l r) = rw (nested_renamed v w l, nested_renamed v w r)
nested_renamed v w (Not x) = nested_renamed v w x
nested_renamed v w (Exists u t x) =
    elim (cases_eq u.0 v.0) [
      | inl e ↦ rw (eq-eqb u.0 v.0 e)
      | inr m ↦ rw (ne_eqb u.0 v.0 m) (ap suc (nested_renamed v w x))
    ]
