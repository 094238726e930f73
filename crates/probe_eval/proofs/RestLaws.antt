-- The search for the rest of a path finds it if and only if it exists.
use Rattle.std.proofs.Common.{◌≡◌, ◌∙◌, ℕ, suc, ◌≤◌, ◌<◌, ℤ, true, false, not, Option, Some, None, List, [], ◌∷◌, length, refl, sym, ap}
use Rattle.std.proofs.Common.{subst, inl, inr, arith}
use Rattle.std.specs.Prelude.{◌⊎◌, int_le}
use Rattle.std.specs.List.{list_any}
use Rattle.std.proofs.lemmas.Bool.{cases_Bool, cases_eq, and_parts, and_from, false≢true}
use Rattle.tap_rows.specs.declared.tables.Tables.{Tables}
use Rattle.tql_core.specs.declared.term.Var.{Var}
use Rattle.tql_core.specs.declared.atom.Atom.{Atom}
use Rattle.tql_core.specs.Row.{Row, arrival, rows_of}
use Rattle.tql_core.specs.Scope.{AtomIn}
use Rattle.tap_rows.specs.Kept.{In}
use Rattle.tql_core.specs.Values.{Env, bind, lookup, true_atom}
use Rattle.tql_core.proofs.Bound.{bind_same, bind_other}
use Rattle.time_marks.specs.declared.mark.Step.{Step}
use Rattle.time_marks.specs.Probes.{come_by}
use Rattle.time_marks.specs.Found.{vars_of, Distinct}
use Rattle.time_marks.proofs.Lists.{any_in, in_any, in_map, map_in}
use Rattle.time_marks.proofs.Orders.{lookup_come}
use Rattle.access_plan.specs.declared.reach.Reach.{Reach}
use Rattle.access_plan.specs.Accesses.{admits, table_of, is_held}
use Rattle.access_plan.specs.Laws.{AreSame}
use Rattle.access_plan.specs.Nearest.{nearest, IsNearest}
use Rattle.access_plan.proofs.Counts.{count_<, count_none}
use Rattle.access_plan.proofs.Nearests.{nearest_serves, nearest_is_none, nearest_keeps_table}
use Rattle.probe_eval.specs.Open.{path_open, may_go}
use Rattle.probe_eval.specs.StepRows.{step_access, next_rows}
use Rattle.probe_eval.specs.Laws.{RestsAreFound}
use Rattle.probe_eval.specs.Tables.{table_in}
use Rattle.probe_eval.specs.Rests.{Rest, is_left, left_of, InTables, all_or, rest_of}
use Rattle.probe_eval.proofs.Tables.{table_is}
use Rattle.probe_eval.proofs.StepLaws.{step_table, step_admits, in_step_rows, to_step_rows, final_passes}
use Rattle.probe_eval.proofs.OpenLaws.{held_same, held_more, held_was, same_bound, stays_open, all_true}

module _ (T : Tables) (path : List Step) (b : ℤ) (once : Distinct (vars_of path)) where
  step_var : (step : Step) → In step path → In step.var.0 (vars_of path)
  step_var step i = in_map (λ (s : Step). s.var.0) path step i

  -- the rows that a reach gives are rows of its step's table
  pub reach_rows : (env : Env) (r : Reach) → IsNearest path env r → table_of r.access ≡ table_in path r.var.0
  reach_rows env r k = nearest_keeps_table path env r k ∙ k.table ∙ sym (table_is path k.step once k.is_step)
      ∙ ap (λ (v : Var). table_in path v.0) (sym k.var)

  pub walked_row : (env : Env) (r : Reach) (row : Row) → IsNearest path env r → In row (next_rows T path b env r)
      → In row (rows_of (table_in path r.var.0) T)
  walked_row env r row k i = subst (λ t. In row (rows_of t T)) (step_table T path env r k ∙ reach_rows env r k)
      (in_step_rows T (step_access T path env r) r.var b env path row i)

  pub in_tables : (env : Env) (r : Reach) (row : Row) → InTables T path env → In row (rows_of (table_in path r.var.0) T)
      → InTables T path (bind r.var row env)
  in_tables env r row t i k j h = go (held_was env r.var row k h)
    where
      at : k ≡ r.var.0 → (row' : Row) × In row' (rows_of (table_in path k) T) × (lookup k (bind r.var row env) ≡ Some row')
      at e = (
        row,
        subst (λ z. In row (rows_of (table_in path z) T)) (sym e) i,
        ap (λ z. lookup z (bind r.var row env)) e
            ∙ bind_same r.var row env,
      )

      go : (k ≡ r.var.0) ⊎ (is_held env k ≡ true)
          → (row' : Row) × In row' (rows_of (table_in path k) T) × (lookup k (bind r.var row env) ≡ Some row')
      go (inl e) = at e
      go (inr y) = elim (cases_eq k r.var.0) [ inl e ↦ at e | inr n ↦ let x = t k j y in (x.0, x.1, bind_other k r.var row env n ∙ x.2) ]

  -- what the row has that is walked next isn't held before
  pub fresh_var : (env : Env) (r : Reach) → IsNearest path env r → is_held env r.var.0 ≡ false
  fresh_var env r k = ap (λ (v : Var). is_held env v.0) k.var ∙ k.fresh

  -- a step that has a row keeps it
  pub kept_on : (env : Env) (r : Reach) (row : Row) → IsNearest path env r → (k : ℕ) → is_held env k ≡ true
      → lookup k (bind r.var row env) ≡ lookup k env
  kept_on env r row n k h = bind_other k r.var row env (λ e. false≢true (sym (fresh_var env r n) ∙ ap (is_held env) (sym e) ∙ h))

  -- a row that serves in the end is walked
  pub walks_row : (env final : Env) (r : Reach) (row : Row) → IsNearest path env r → AreSame (is_held env) env final
      → lookup r.var.0 final ≡ Some row → In row (rows_of (table_in path r.var.0) T) → int_le (arrival row) b ≡ true
      → ((step : Step) → In step path → (a : Atom) → In a step.guards → true_atom a final ≡ true) → In row (next_rows T path b env r)
  walks_row env final r row k same e i c g =
      let a : admits (step_access T path env r) env row ≡ true = step_admits T path env r final row k same e g in
      let t : In row (rows_of (table_of (step_access T path env r)) T) =
      subst (λ z. In row (rows_of z T)) (sym (step_table T path env r k ∙ reach_rows env r k)) i in
      to_step_rows T (step_access T path env r) r.var b env path row t a c (final_passes env final r.var row same e path g)

  -- one step fewer is left
  pub fewer_left : (env : Env) (r : Reach) (row : Row) → IsNearest path env r → left_of path (bind r.var row env) < left_of path env
  fewer_left env r row k =
      count_< (is_left env) (is_left (bind r.var row env)) narrower path k.step k.is_step (ap not k.fresh)
      (ap not (ap (λ (v : Var). is_held (bind r.var row env) v.0) (sym k.var) ∙ held_same env r.var row))
    where
      narrower : (s : Step) → is_left (bind r.var row env) s ≡ true → is_left env s ≡ true
      narrower s h = elim (cases_Bool (is_held env s.var.0)) [
        | inl y ↦ absurd (false≢true (sym (ap not (held_more env r.var row s.var.0 y)) ∙ h))
        | inr n ↦ ap not n
      ]

  -- a step that is left is counted
  pub some_left : (env : Env) (r : Reach) → IsNearest path env r → left_of path env ≤ 0 → ⊥
  some_left env r k h = false≢true (sym (count_none (is_left env) path k.step h k.is_step) ∙ ap not k.fresh)

  module _ (scoped : (step : Step) → In step path → (a : Atom) → In a step.guards → AtomIn (vars_of path) a) where
    -- if each step has a row and no guard is false, these rows are the rest
    there : (env : Env) → InTables T path env → may_go path b env ≡ true → nearest path env ≡ None → Rest T path b env
    there env t m n =
        let p = and_parts (come_by b env) (path_open path env) m in
        record {
          final = env;
          same = λ k h. refl;
          rows = λ step i. row p.0 step i;
          guards = all_true env (vars_of path) held path scoped p.1;
        }
      where
        all_held : (step : Step) → In step path → is_held env step.var.0 ≡ true
        all_held step i = nearest_is_none path env n step i

        held : (k : ℕ) → In k (vars_of path) → is_held env k ≡ true
        held k i = let s = map_in (λ (s : Step). s.var.0) path k i in ap (is_held env) s.2 ∙ all_held s.0 s.1

        row : come_by b env ≡ true → (step : Step) → In step path
            → (r : Row) × In r (rows_of step.table T) × (lookup step.var.0 env ≡ Some r) × (int_le (arrival r) b ≡ true)
        row c step i =
            let x = t step.var.0 (step_var step i) (all_held step i) in
            (x.0, subst (λ z. In x.0 (rows_of z T)) (table_is path step once i) x.1, x.2, lookup_come b env step.var.0 x.0 c x.2)

    -- what is beside one more row is beside the others
    beside : (env : Env) (r : Reach) (row : Row) → IsNearest path env r → Rest T path b (bind r.var row env) → Rest T path b env
    beside env r row k x = record {
      final = x.final;
      same = λ j h. x.same j (held_more env r.var row j h) ∙ kept_on env r row k j h;
      rows = x.rows;
      guards = x.guards;
    }

    pub rest_sound : (order : List Reach) (env : Env) → InTables T path env → rest_of T path b order env ≡ true → Rest T path b env
    rest_sound [] env t h =
        let p = and_parts (may_go path b env) (all_or (nearest path env) (λ r. false)) h in
        go (nearest path env) refl p.0 p.1
      where
        go : (o : Option Reach) → nearest path env ≡ o → may_go path b env ≡ true → all_or o (λ r. false) ≡ true → Rest T path b env
        go None e m h = there env t m e
        go (Some r) e m h = absurd (false≢true h)
    rest_sound (x ∷ rs) env t h =
        let p = and_parts (may_go path b env)
        (all_or (nearest path env) (λ r. list_any (λ row. rest_of T path b rs (bind r.var row env)) (next_rows T path b env r))) h in
        go (λ e. rest_sound rs e) (nearest path env) refl p.0 p.1
      where
        go : ((e : Env) → InTables T path e → rest_of T path b rs e ≡ true → Rest T path b e) → (o : Option Reach) → nearest path env ≡ o
            → may_go path b env ≡ true
            → all_or o (λ r. list_any (λ row. rest_of T path b rs (bind r.var row env)) (next_rows T path b env r)) ≡ true
            → Rest T path b env
        go more None e m h = there env t m e
        go more (Some r) e m h =
            let k = nearest_serves path env r e in
            let y = any_in (λ row. rest_of T path b rs (bind r.var row env)) (next_rows T path b env r) h in
            beside env r y.0 k (more (bind r.var y.0 env) (in_tables env r y.0 t (walked_row env r y.0 k y.1)) y.2)

  -- the rest goes on from one of its rows
  goes_on : (env : Env) (r : Reach) (row : Row) (x : Rest T path b env) → lookup r.var.0 x.final ≡ Some row
      → Rest T path b (bind r.var row env)
  goes_on env r row x e = record { final = x.final; same = same_bound env x.final r.var row x.same e; rows = x.rows; guards = x.guards }

  pub may_go_on : (env : Env) → come_by b env ≡ true → Rest T path b env → may_go path b env ≡ true
  may_go_on env c x = and_from _ _ c (stays_open env x.final x.same path x.guards)

  -- the row of the next step
  pub next_row : (env : Env) (r : Reach) (k : IsNearest path env r) (x : Rest T path b env)
      → (row : Row) × In row (next_rows T path b env r) × (lookup r.var.0 x.final ≡ Some row) × (int_le (arrival row) b ≡ true)
  next_row env r k x =
      let y = x.rows k.step k.is_step in
      let e : lookup r.var.0 x.final ≡ Some y.0 = ap (λ (v : Var). lookup v.0 x.final) k.var ∙ y.2 in
      let i : In y.0 (rows_of (table_in path r.var.0) T) = subst (λ (v : Var). In y.0 (rows_of (table_in path v.0) T)) (sym k.var)
      (subst (λ t. In y.0 (rows_of t T)) (sym (table_is path k.step once k.is_step)) y.1) in
      (y.0, walks_row env x.final r y.0 k x.same e i y.3 x.guards, e, y.3)

  pub rest_complete : (order : List Reach) (env : Env) → come_by b env ≡ true → left_of path env ≤ length order → Rest T path b env
      → rest_of T path b order env ≡ true
  rest_complete [] env c l x = and_from _ _ (may_go_on env c x) (go (nearest path env) refl)
    where
      go : (o : Option Reach) → nearest path env ≡ o → all_or o (λ r. false) ≡ true
      go None e = refl
      go (Some r) e = absurd (some_left env r (nearest_serves path env r e) l)
  rest_complete (y ∷ rs) env c l x = and_from _ _ (may_go_on env c x) (go (λ e. rest_complete rs e) (nearest path env) refl)
    where
      less : (a b n : ℕ) → a < b → b ≤ suc n → a ≤ n
      less a b n h k = omega (arith, h, k)

      go : ((e : Env) → come_by b e ≡ true → left_of path e ≤ length rs → Rest T path b e → rest_of T path b rs e ≡ true)
          → (o : Option Reach) → nearest path env ≡ o
          → all_or o (λ r. list_any (λ row. rest_of T path b rs (bind r.var row env)) (next_rows T path b env r)) ≡ true
      go more None e = refl
      go more (Some r) e =
          let k = nearest_serves path env r e in
          let z = next_row env r k x in
          in_any (λ row. rest_of T path b rs (bind r.var row env)) (next_rows T path b env r) z.0 z.1
          (more (bind r.var z.0 env) (and_from _ _ z.3 c) (less _ _ _ (fewer_left env r z.0 k) l) (goes_on env r z.0 x z.2))

pub rests_are_found : RestsAreFound
rests_are_found T path b order env once scoped t c l =
    ((λ h. rest_sound T path b once scoped order env t h), (λ x. rest_complete T path b once order env c l x))
