-- The rows of the next step of a path that are walked.
use Rattle.std.proofs.Common.{◌≡◌, ◌∙◌, ℕ, ◌≤◌, ℤ, Bool, true, false, not, ◌&&◌, ◌||◌, Option, Some, None, List, [], ◌∷◌}
use Rattle.std.proofs.Common.{refl, sym, subst, inl, inr, arith, filter, nat_eq, if◌then◌else◌}
use Rattle.std.specs.Prelude.{unwrap_or, int_le}
use Rattle.std.specs.List.{list_all}
use Rattle.std.proofs.lemmas.Bool.{cases_Bool, eqb-true}
use Rattle.tap_rows.specs.declared.tables.Tables.{Tables}
use Rattle.tap_rows.specs.Kept.{In}
use Rattle.tql_tree.specs.declared.table.Table.{Table}
use Rattle.tql_core.specs.declared.term.Var.{Var}
use Rattle.tql_core.specs.declared.atom.Atom.{Atom}
use Rattle.tql_core.specs.Row.{Row, arrival, rows_of}
use Rattle.tql_core.specs.Values.{Env, bind, lookup, true_atom}
use Rattle.time_marks.specs.declared.mark.Step.{Step}
use Rattle.access_plan.specs.declared.access.Access.{Access}
use Rattle.access_plan.specs.declared.reach.Reach.{Reach}
use Rattle.access_plan.specs.Accesses.{admits, table_of, accesses_by, is_held, is_held_or}
use Rattle.access_plan.specs.Laws.{AreSame}
use Rattle.access_plan.specs.Nearest.{IsNearest}
use Rattle.access_plan.proofs.Admits.{guard_admits, guard_table}
use Rattle.access_plan.proofs.Enough.{IsGiven, is_given}
use Rattle.access_plan.proofs.Nearests.{nearest_admits, nearest_keeps_table}
use Rattle.probe_eval.specs.Cuts.{is_cut}
use Rattle.probe_eval.specs.Open.{atom_known}
use Rattle.probe_eval.specs.StepRows.{step_accesses, step_access, passes_open, passes_guards, passes_path, passes_step, step_rows}
use Rattle.probe_eval.specs.StepRows.{next_rows}
use Rattle.probe_eval.specs.Work.{rows_by, all_rows_by, is_list, is_least, shortest, total}
use Rattle.probe_eval.proofs.Costs.{total_filter}
use Rattle.probe_eval.proofs.LeastLaws.{found_in}
use Rattle.probe_eval.proofs.Members.{in_filter, to_filter, from_flat}
use Rattle.probe_eval.proofs.OpenLaws.{held_same, held_more, same_bound, atom_is, more_known}
use Rattle.probe_eval.proofs.WalkRows.{in_rows, to_rows, in_all_rows, to_all_rows, rows_less, all_rows_less}

-- what gives an access of a path
pub record IsOfStep (path : List Step) (env : Env) (v : Var) (t : Table) (access : Access) : Type 0 where
  pub step : Step
  pub is_step : In step path
  pub given : IsGiven (is_held env) v t step.guards access

pub of_step : (path : List Step) (env : Env) (v : Var) (t : Table) (access : Access) → In access (step_accesses path env v t)
    → IsOfStep path env v t access
of_step path env v t access i =
    let s = from_flat (λ (step : Step). accesses_by (is_held env) v t step.guards) path access i in
    record { step = s.0; is_step = s.1; given = is_given (is_held env) v t s.0.guards access s.2 }

module _ (T : Tables) (path : List Step) (env : Env) (r : Reach) where
  abbrev own : List Access
  own = step_accesses path env r.var r.table

  -- it is of the table of the reach
  pub step_table : IsNearest path env r → table_of (step_access T path env r) ≡ table_of r.access
  step_table k = go (shortest T env own) refl
    where
      go : (o : Option Access) → shortest T env own ≡ o → table_of (unwrap_or o r.access) ≡ table_of r.access
      go None e = refl
      go (Some a) e =
          let s = of_step path env r.var r.table a (found_in (is_least T env own) own a e) in
          guard_table (is_held env) r.var r.table s.given.guard a s.given.gives ∙ sym (nearest_keeps_table path env r k)

  -- it admits a row with which all guards are true in the end
  pub step_admits : (final : Env) (row : Row) → IsNearest path env r → AreSame (is_held env) env final → lookup r.var.0 final ≡ Some row
      → ((step : Step) → In step path → (a : Atom) → In a step.guards → true_atom a final ≡ true)
      → admits (step_access T path env r) env row ≡ true
  step_admits final row k same here guards = go (shortest T env own) refl
    where
      go : (o : Option Access) → shortest T env own ≡ o → admits (unwrap_or o r.access) env row ≡ true
      go None e = nearest_admits path env final r row k same here guards
      go (Some a) e =
          let s = of_step path env r.var r.table a (found_in (is_least T env own) own a e) in
          guard_admits (is_held env) r.var r.table env final row same here s.given.guard a s.given.gives
          (guards s.step s.is_step s.given.guard s.given.is_guard)

-- the rows that pass are rows of the access
module _ (T : Tables) (a : Access) (v : Var) (b : ℤ) (env : Env) (path : List Step) where
  pub in_step_rows : (row : Row) → In row (step_rows a v b env path T) → In row (rows_of (table_of a) T)
  in_step_rows row i = go (is_list a) i
    where
      go : (c : Bool) → In row (if c then filter (passes_step v b env path) (all_rows_by a env T) else rows_by b a env T)
          → In row (rows_of (table_of a) T)
      go true i = in_all_rows env T row a (in_filter (passes_step v b env path) (all_rows_by a env T) row i).0
      go false i = in_rows env T row b a i

  pub to_step_rows : (row : Row) → In row (rows_of (table_of a) T) → admits a env row ≡ true → int_le (arrival row) b ≡ true
      → passes_path v env path row ≡ true → In row (step_rows a v b env path T)
  to_step_rows row i h c p = go (is_list a)
    where
      both_true : (x y : Bool) → x ≡ true → y ≡ true → (x && y) ≡ true
      both_true x y h k = rw (h, k) refl

      go : (l : Bool) → In row (if l then filter (passes_step v b env path) (all_rows_by a env T) else rows_by b a env T)
      go true = to_filter (passes_step v b env path) (all_rows_by a env T) row (to_all_rows env T row a i h)
          (both_true (int_le (arrival row) b) (passes_path v env path row) c p)
      go false = to_rows env T row b a i h c

-- beside no row there are no more of them than rows of the table
pub next_less : (f : Row → ℕ) (T : Tables) (path : List Step) (b : ℤ) (r : Reach)
    → total f (next_rows T path b [] r) ≤ total f (rows_of (table_of (step_access T path [] r)) T)
next_less f T path b r = go (step_access T path [] r)
  where
    le : (x y z : ℕ) → x ≤ y → y ≤ z → x ≤ z
    le x y z h k = omega (arith, h, k)

    either : (a : Access) (c : Bool) → total f (if c then filter (passes_step r.var b [] path) (all_rows_by a [] T) else rows_by b a [] T)
        ≤ total f (rows_of (table_of a) T)
    either a true = le _ _ _ (total_filter f (passes_step r.var b [] path) (all_rows_by a [] T)) (all_rows_less f a T)
    either a false = rows_less f b a T

    go : (a : Access) → total f (step_rows a r.var b [] path T) ≤ total f (rows_of (table_of a) T)
    go a = either a (is_list a)

-- a row with which all guards are true in the end passes
module _ (env final : Env) (v : Var) (row : Row) (same : AreSame (is_held env) env final) (here : lookup v.0 final ≡ Some row) where
  bound_too : (k : ℕ) → is_held_or env v k ≡ true → is_held (bind v row env) k ≡ true
  bound_too k h = elim (cases_Bool (nat_eq k v.0)) [
    | inl q ↦ subst (λ j. is_held (bind v row env) j ≡ true) (sym (eqb-true k v.0 q)) (held_same env v row)
    | inr q ↦ held_more env v row k (rw q at h)
  ]

  one_passes : (a : Atom) → true_atom a final ≡ true → passes_open v env a row ≡ true
  one_passes a t = elim (cases_Bool (atom_known (is_held_or env v) a)) [
    | inl y ↦
        let held : atom_known (is_held (bind v row env)) a ≡ true =
        more_known (is_held_or env v) (is_held (bind v row env)) bound_too a y in
        let e : true_atom a (bind v row env) ≡ true =
        sym (atom_is (is_held (bind v row env)) (bind v row env) final (same_bound env final v row same here) a held) ∙ t in
        rw y (or_second (not (is_cut v a)) (true_atom a (bind v row env)) e)
    | inr n ↦ rw n refl
  ]
    where
      or_second : (x y : Bool) → y ≡ true → (x || y) ≡ true
      or_second true y h = refl
      or_second false y h = h

  each_true : {A : Type 0} (p : A → Bool) (xs : List A) → ((x : A) → In x xs → p x ≡ true) → list_all p xs ≡ true
  each_true p [] h = refl
  each_true p (x ∷ xs) h = rw (h x (inl refl), each_true p xs (λ y i. h y (inr i))) refl

  pub final_passes : (path : List Step) → ((step : Step) → In step path → (a : Atom) → In a step.guards → true_atom a final ≡ true)
      → passes_path v env path row ≡ true
  final_passes path g = each_true (λ (step : Step). passes_guards v env step.guards row) path (λ step i.
      each_true (λ a. passes_open v env a row) step.guards (λ a j. one_passes a (g step i a j)))
