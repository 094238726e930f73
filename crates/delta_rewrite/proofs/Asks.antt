-- What a delta probe asks of the rows at its mark.
use Rattle.std.proofs.Common.{◌≡◌, ℕ, ◌≤◌, ℤ, Bool, true, false, Some, List, ◌∷◌, refl, sym, ap, ◌∙◌, subst, inl, inr}
use Rattle.std.specs.Prelude.{◌&&◌, ◌+ℤ◌, int_le, nat_eq}
use Rattle.std.specs.List.{list_any}
use Rattle.std.proofs.lemmas.Bool.{and_from, both_ways, eqb-true, eq-eqb}
use Rattle.tap_base.specs.declared.numbers.Op.TheVariants.{Le}
use Rattle.tql_tree.specs.declared.table.Table.{Table}
use Rattle.tql_core.specs.declared.term.Var.{Var}
use Rattle.tql_core.specs.declared.term.Base.{Base}
use Rattle.tql_core.specs.declared.term.Base.TheVariants.{Arrival, Date, Fixed, ArrivalDay, DateDay}
use Rattle.tql_core.specs.declared.term.Term.{Term}
use Rattle.tql_core.specs.declared.atom.Atom.TheVariants.{Times}
use Rattle.tql_core.specs.Condition.{Condition}
use Rattle.tql_core.specs.Row.{Row, arrival, date, rows_of}
use Rattle.tql_core.specs.Values.{Env, bind, lookup, on_row, round_up_to_day, day_of, base_value, plus_to, value, true_atom}
use Rattle.tql_core.specs.Holds.{truth}
use Rattle.tql_core.specs.Scope.{BaseIn, Scoped}
use Rattle.tql_core.proofs.Bound.{bind_same, bind_other}
use Rattle.tap_rows.specs.declared.tables.Tables.{Tables}
use Rattle.tap_rows.specs.Results.{visible}
use Rattle.tap_rows.specs.Kept.{In}
use Rattle.time_marks.specs.declared.mark.Step.{Step}
use Rattle.time_marks.specs.Found.{base_vars}
use Rattle.time_marks.specs.Laws.{Same}
use Rattle.time_marks.specs.Marks.{copied, copy_base, copy_term, arrival_term, step_of, body}
use Rattle.time_marks.specs.Probes.{Probe}
use Rattle.time_marks.proofs.Lists.{any_in, in_any, any_visible}
use Rattle.time_marks.proofs.Envs.{copied_apart, copy_stays}
use Rattle.time_marks.proofs.Bodies.{body_truth, arrival_value}
use Rattle.delta_rewrite.specs.Delta.{is_driver, under_probe}

-- the driver of a copy is a copy
pub driver_copied : (b : Base) (k : ℕ) → In k (base_vars (copy_base b)) → (j : ℕ) × (k ≡ copied j)
driver_copied (Arrival v) k (inl e) = (v.0, e)
driver_copied (Arrival v) k (inr i) = absurd i
driver_copied (Date v) k (inl e) = (v.0, e)
driver_copied (Date v) k (inr i) = absurd i
driver_copied Fixed k i = absurd i
driver_copied (ArrivalDay v n) k (inl e) = (v.0, e)
driver_copied (ArrivalDay v n) k (inr i) = absurd i
driver_copied (DateDay v n) k (inl e) = (v.0, e)
driver_copied (DateDay v n) k (inr i) = absurd i

-- so no EXISTS binds it
pub driver_apart : (at : Term) (e : Term) → at ≡ copy_term e → (v : ℕ) → 1 ≤ v → v ≤ 5 → (k : ℕ) → In k (base_vars at.base) → k ≡ v → ⊥
driver_apart at e y v lo hi k i z =
    let d = driver_copied e.base k (subst (λ (t : Term). In k (base_vars t.base)) y i) in
    copied_apart d.0 v lo hi (sym d.1 ∙ z)

-- a base's value depends on its driver
base_driven : (b : Base) (env other : Env) → ((k : ℕ) → In k (base_vars b) → lookup k other ≡ lookup k env)
    → base_value b other ≡ base_value b env
base_driven (Arrival v) env other h = ap (λ o. on_row o (λ r. Some (arrival r))) (h v.0 (inl refl))
base_driven (Date v) env other h = ap (λ o. on_row o date) (h v.0 (inl refl))
base_driven Fixed env other h = refl
base_driven (ArrivalDay v n) env other h = ap (λ o. on_row o (λ r. Some (round_up_to_day (arrival r +ℤ n)))) (h v.0 (inl refl))
base_driven (DateDay v n) env other h = ap (λ o. on_row o (λ r. day_of n (date r))) (h v.0 (inl refl))

pub value_driven : (at : Term) (env other : Env) → ((k : ℕ) → In k (base_vars at.base) → lookup k other ≡ lookup k env)
    → value at other ≡ value at env
value_driven at env other h = ap (λ o. plus_to o at.plus) (base_driven at.base env other h)

-- a copy of a variable in scope
copy_driven : (scope : List ℕ) (b : Base) (env final : Env) → BaseIn scope b
    → ((k : ℕ) → In k (base_vars (copy_base b)) → (j : ℕ) → In j scope → k ≡ copied j → lookup k final ≡ lookup j env)
    → base_value (copy_base b) final ≡ base_value b env
copy_driven scope (Arrival v) env final i h = ap (λ o. on_row o (λ r. Some (arrival r))) (h (copied v.0) (inl refl) v.0 i refl)
copy_driven scope (Date v) env final i h = ap (λ o. on_row o date) (h (copied v.0) (inl refl) v.0 i refl)
copy_driven scope Fixed env final i h = refl
copy_driven scope (ArrivalDay v n) env final i h =
    ap (λ o. on_row o (λ r. Some (round_up_to_day (arrival r +ℤ n)))) (h (copied v.0) (inl refl) v.0 i refl)
copy_driven scope (DateDay v n) env final i h =
    ap (λ o. on_row o (λ r. day_of n (date r))) (h (copied v.0) (inl refl) v.0 i refl)

pub copy_value : (scope : List ℕ) (e : Term) (env final : Env) → BaseIn scope e.base
    → ((k : ℕ) → In k (base_vars (copy_base e.base)) → (j : ℕ) → In j scope → k ≡ copied j → lookup k final ≡ lookup j env)
    → value (copy_term e) final ≡ value e env
copy_value scope e env final i h = ap (λ o. plus_to o e.plus) (copy_driven scope e.base env final i h)

-- a mark has one driver
pub one_driver : (b : Base) (j k : ℕ) → In j (base_vars b) → In k (base_vars b) → k ≡ j
one_driver (Arrival v) j k (inl e) (inl f) = f ∙ sym e
one_driver (Date v) j k (inl e) (inl f) = f ∙ sym e
one_driver (ArrivalDay v n) j k (inl e) (inl f) = f ∙ sym e
one_driver (DateDay v n) j k (inl e) (inl f) = f ∙ sym e
one_driver Fixed j k i l = absurd i
one_driver (Arrival v) j k (inr i) l = absurd i
one_driver (Date v) j k (inr i) l = absurd i
one_driver (ArrivalDay v n) j k (inr i) l = absurd i
one_driver (DateDay v n) j k (inr i) l = absurd i
one_driver (Arrival v) j k (inl e) (inr i) = absurd i
one_driver (Date v) j k (inl e) (inr i) = absurd i
one_driver (ArrivalDay v n) j k (inl e) (inr i) = absurd i
one_driver (DateDay v n) j k (inl e) (inr i) = absurd i

-- is the driver the variable's copy?
pub driver_is : (v : Var) (at : Term) → is_driver v at ≡ true → In (copied v.0) (base_vars at.base)
driver_is v at h =
    let k = any_in (λ k. nat_eq k (copied v.0)) (base_vars at.base) h in
    subst (λ j. In j (base_vars at.base)) (eqb-true k.0 (copied v.0) k.2) k.1

pub driver_is_not : (v : Var) (at : Term) → is_driver v at ≡ false → (k : ℕ) → In k (base_vars at.base) → k ≡ copied v.0 → ⊥
driver_is_not v at h k i e =
    both_ways _ h (in_any (λ k. nat_eq k (copied v.0)) (base_vars at.base) k i (eq-eqb k (copied v.0) e))

-- a visible row that passes is one of all visible rows
pub visible_any : (t : Table) (T : Tables) (b : ℤ) (p : Row → Bool) (r : Row) → In r (rows_of t T) → int_le (arrival r) b ≡ true
    → p r ≡ true → list_any p (rows_of t (visible T b)) ≡ true
visible_any t T b p r i come y =
    any_visible t T b p ∙ in_any (λ r. int_le (arrival r) b && p r) (rows_of t T) r i (and_from _ _ come y)

-- a body at a copy's value
pub body_at : (T : Tables) (n b : ℤ) (at e : Term) → at ≡ copy_term e → (c : Condition) (scope : List ℕ) (env final : Env) → Scoped scope c
    → Same scope env final → value at final ≡ Some b → truth T n (body c at) final ≡ truth (visible T b) b c env
body_at T n b at e y c scope env final sc h v =
    subst (λ t. truth T n (body c t) final ≡ truth (visible T b) b c env) (sym y)
    (body_truth T n b e c scope env final sc h (subst (λ t. value t final ≡ Some b) y v))

-- a copy's value stays below an EXISTS
pub at_stays : (at e : Term) → at ≡ copy_term e → (v : Var) (r : Row) (final : Env) → 1 ≤ v.0 → v.0 ≤ 5
    → value at (bind v r final) ≡ value at final
at_stays at e y v r final lo hi = subst (λ t. value t (bind v r final) ≡ value t final) (sym y) (copy_stays e v r final lo hi)

-- the test that a row has come by the mark
pub came : (v : Var) (r : Row) (at : Term) (final : Env) (b : ℤ) → value at (bind v r final) ≡ Some b
    → true_atom (Times (arrival_term v) Le at) (bind v r final) ≡ int_le (arrival r) b
came v r at final b h = rw (arrival_value v r final, h)

-- the rows of an environment meet a probe: its mark has the value b, the driver has what the outer environment has for a variable in
-- scope, and a row that has come by b if a step binds it, and the body is true
pub record Asks (T : Tables) (n b : ℤ) (scope : List ℕ) (env final : Env) (p : Probe) : Type 0 where
  pub at : value p.at final ≡ Some b
  pub outer : (k : ℕ) → In k (base_vars p.at.base) → (j : ℕ) → In j scope → k ≡ copied j → lookup k final ≡ lookup j env
  pub inner : (k : ℕ) → In k (base_vars p.at.base) → (step : Step) → In step p.path → k ≡ step.var.0
      → (r : Row) × In r (rows_of step.table T) × (lookup k final ≡ Some r) × (int_le (arrival r) b ≡ true)
  pub body : truth T n p.body final ≡ true

-- the same of another body
pub asks_body : (T : Tables) (n b : ℤ) (scope : List ℕ) (env final : Env) (p : Probe) (y : Condition)
    → Asks T n b scope env final (record { path = p.path; at = p.at; body = y }) → truth T n p.body final ≡ true
    → Asks T n b scope env final p
asks_body T n b scope env final p y a h = record { at = a.at; outer = a.outer; inner = a.inner; body = h }

-- below an EXISTS, with a row of its variable that is the driver's if that is the variable's copy
pub asks_below : (T : Tables) (n b : ℤ) (scope : List ℕ) (env final : Env) (v : Var) (t : Table) (x : Condition) (p : Probe) (e : Term)
    (y : Condition) (r : Row) → 1 ≤ v.0 → v.0 ≤ 5 → (In v.0 scope → ⊥) → p.at ≡ copy_term e
    → Asks T n b scope env final (under_probe (step_of v t x) (record { path = p.path; at = p.at; body = y }))
    → ((k : ℕ) → In k (base_vars p.at.base) → k ≡ copied v.0 → lookup k final ≡ Some r) → truth T n p.body (bind v r final) ≡ true
    → Asks T n b (v.0 ∷ scope) (bind v r env) (bind v r final) p
asks_below T n b scope env final v t x p e y r lo hi new is_copy a drives h = record {
  at = at_stays p.at e is_copy v r final lo hi ∙ a.at;
  outer = outer;
  inner = λ k i step j z.
      let q = a.inner k i step (inr j) z in
      (q.0, q.1, bind_other k v r final (driver_apart p.at e is_copy v.0 lo hi k i) ∙ q.2, q.3);
  body = h;
}
  where
    outer : (k : ℕ) → In k (base_vars p.at.base) → (j : ℕ) → In j (v.0 ∷ scope) → k ≡ copied j
        → lookup k (bind v r final) ≡ lookup j (bind v r env)
    outer k i j (inl z) q =
        bind_other k v r final (driver_apart p.at e is_copy v.0 lo hi k i) ∙ drives k i (q ∙ ap copied z)
        ∙ sym (subst (λ m. lookup m (bind v r env) ≡ Some r) (sym z) (bind_same v r env))
    outer k i j (inr m) q =
        bind_other k v r final (driver_apart p.at e is_copy v.0 lo hi k i) ∙ a.outer k i j m q
        ∙ sym (bind_other j v r env (λ z. new (subst (λ l. In l scope) z m)))
