-- A probe finds a document if and only if there is a driving row for it.
use Rattle.std.proofs.Common.{◌≡◌, ◌∙◌, ℕ, ℤ, pos, true, Option, Some, None, [], ◌∷◌, refl, sym, ap, subst, inl, inr}
use Rattle.std.specs.Prelude.{option_to_list}
use Rattle.std.proofs.lemmas.Bool.{false≢true}
use Rattle.tap_rows.specs.declared.rows.Doc.{Doc}
use Rattle.tap_rows.specs.declared.tables.Tables.{Tables}
use Rattle.tql_core.specs.declared.term.Var.{Var}
use Rattle.tql_core.specs.Row.{OfDoc, rows_of}
use Rattle.tap_rows.specs.Kept.{In}
use Rattle.tql_core.specs.Values.{Env, bind, lookup}
use Rattle.tql_core.proofs.Bound.{bind_same}
use Rattle.time_marks.specs.declared.mark.Step.{Step}
use Rattle.time_marks.specs.Marks.{document_var}
use Rattle.time_marks.specs.Probes.{Probe, finds}
use Rattle.time_marks.specs.Seeks.{seek_of}
use Rattle.time_marks.specs.Found.{vars_of, base_vars, IsProbe, Finds}
use Rattle.time_marks.specs.Laws.{Same}
use Rattle.time_marks.proofs.Lists.{in_map, map_in}
use Rattle.time_marks.proofs.Envs.{value_same}
use Rattle.time_marks.proofs.Orders.{finds_rows, rows_find, truth_same, base_in}
use Rattle.access_plan.specs.Accesses.{is_held}
use Rattle.access_plan.specs.Laws.{AreSame, numbers_of}
use Rattle.probe_eval.specs.Drivers.{seek_var}
use Rattle.probe_eval.specs.Pairs.{Paired, ProbesTestPairs}
use Rattle.probe_eval.specs.Runs.{starts_of, starts}
use Rattle.probe_eval.specs.Tables.{table_in}
use Rattle.probe_eval.proofs.Finding.{driven_is, vars_driven}
use Rattle.probe_eval.proofs.Nesting.{base_own, asked_row, found_rows, finds_rest, pair_finds}
use Rattle.probe_eval.proofs.OpenLaws.{held_more, row_held, same_bound}
use Rattle.probe_eval.proofs.Tables.{table_is}

-- the driver's variables
driver_vars : (p : Probe) (j : ℕ) → In j (base_vars p.at.base) → In j (numbers_of (option_to_list (seek_var (seek_of p.at))))
driver_vars p j i = subst (λ vs. In j (numbers_of vs)) (driven_is p.at) (subst (In j) (vars_driven p.at.base) i)

none_held : (j : ℕ) → is_held [] j ≡ true → ⊥
none_held j h = false≢true h

-- a start has the row of the driver
start_held : (T : Tables) (p : Probe) (sv : Option Var) (driver : Env) → In driver (starts_of T p sv) → (j : ℕ)
    → In j (numbers_of (option_to_list sv)) → is_held driver j ≡ true
start_held T p None driver i j z = absurd z
start_held T p (Some v) driver i j (inr z) = absurd z
start_held T p (Some v) driver i j (inl e) =
    let k = map_in (λ row. bind v row []) (rows_of (table_in p.path v.0) T) driver i in
    ap (λ x. is_held x j) k.2 ∙ ap (is_held (bind v k.0 [])) e ∙ row_held (bind v k.0 []) v.0 k.0 (bind_same v k.0 [])

module _ (T : Tables) (d : Doc) (b : ℤ) (p : Probe) (k : IsProbe p) (is_row : In d T.docs) where
  back : Paired T d b p → finds T d b p ≡ true
  back x =
      let env = bind document_var (OfDoc d) x.driver in
      rows_find T d b p k (pair_finds [] T p b k env d (bind_same document_var (OfDoc d) x.driver) (λ j i. held_more x.driver document_var
      (OfDoc d) j (start_held T p (seek_var (seek_of p.at)) x.driver x.is_start j (driver_vars p j i))) x.at x.rest x.body)

  module _ (f : Finds T d b p) where
    -- beside a start that agrees with the rows found
    beside : (driver : Env) → In driver (starts T p) → AreSame (is_held driver) driver f.env → Paired T d b p
    beside driver i same =
        let env = bind document_var (OfDoc d) driver in
        record {
          driver = driver;
          is_start = i;
          at = sym (value_same (base_vars p.at.base) env f.env (λ j z. agree j (held j z)) p.at (base_own p.at.base)) ∙ f.at;
          rest = finds_rest [] T p b k d f is_row env agree;
          body = sym (truth_same T (pos 0) p.body (0 ∷ base_vars p.at.base) env f.env k.body names) ∙ f.body;
        }
      where
        held : (j : ℕ) → In j (base_vars p.at.base) → is_held (bind document_var (OfDoc d) driver) j ≡ true
        held j z = held_more driver document_var (OfDoc d) j (start_held T p (seek_var (seek_of p.at)) driver i j (driver_vars p j z))

        agree : AreSame (is_held (bind document_var (OfDoc d) driver)) (bind document_var (OfDoc d) driver) f.env
        agree = same_bound driver f.env document_var (OfDoc d) same (asked_row [] T p b k d f is_row)

        names : Same (0 ∷ base_vars p.at.base) (bind document_var (OfDoc d) driver) f.env
        names j (inl e) = agree j (ap (is_held (bind document_var (OfDoc d) driver)) e
            ∙ row_held (bind document_var (OfDoc d) driver) 0 (OfDoc d) (bind_same document_var (OfDoc d) driver))
        names j (inr z) = agree j (held j z)

    -- the start that has the driver's row
    started : (sv : Option Var) → seek_var (seek_of p.at) ≡ sv → Paired T d b p
    started None e = beside [] (subst (λ z. In [] (starts_of T p z)) (sym e) (inl refl)) (λ j h. absurd (none_held j h))
    started (Some v) e =
        let i = base_in p.at.base (vars_of p.path) k.at v.0 (subst (In v.0) (sym (vars_driven p.at.base))
        (subst (λ vs. In v.0 (numbers_of vs)) (sym (driven_is p.at ∙ ap option_to_list e)) (inl refl))) in
        let s = map_in (λ (x : Step). x.var.0) p.path v.0 i in
        let x = found_rows [] T p b k d f is_row s.0 s.1 in
        let l : lookup v.0 f.env ≡ Some x.0 = ap (λ z. lookup z f.env) s.2 ∙ x.2 in
        let t : In x.0 (rows_of (table_in p.path v.0) T) =
        subst (λ z. In x.0 (rows_of z T)) (sym (table_is p.path s.0 k.once s.1) ∙ ap (table_in p.path) (sym s.2)) x.1 in
        beside (bind v x.0 []) (subst (λ z. In (bind v x.0 []) (starts_of T p z)) (sym e)
        (in_map (λ row. bind v row []) (rows_of (table_in p.path v.0) T) x.0 t))
        (same_bound [] f.env v x.0 (λ j h. absurd (none_held j h)) l)

pub probes_test_pairs : ProbesTestPairs
probes_test_pairs T d b p k i = ((λ h. started T d b p k i (finds_rows T d b p k h) (seek_var (seek_of p.at)) refl), back T d b p k i)
