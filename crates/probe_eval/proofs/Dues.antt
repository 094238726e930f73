-- What a run costs if nothing is marked, and if each path is the document alone.
use Rattle.std.proofs.Common.{◌≡◌, ℕ, ◌+◌, ◌≤◌, ℤ, Bool, true, false, List, [], ◌∷◌, ◌++◌, Option, Some, None, refl, sym, ap, ◌∙◌, subst}
use Rattle.std.proofs.Common.{inl, inr, arith, map, if◌then◌else◌}
use Rattle.std.specs.Prelude.{◌&&◌, filter, option_to_list, int_le, int_lt}
use Rattle.std.proofs.lemmas.Bool.{cases_Bool, false≢true}
use Rattle.tap_rows.specs.declared.rows.Doc.{Doc}
use Rattle.tap_rows.specs.declared.tables.Tables.{Tables}
use Rattle.tql_tree.specs.declared.table.Table.TheVariants.{Docs}
use Rattle.tql_core.specs.declared.term.Var.{Var}
use Rattle.tql_core.specs.Bounds.{is_bounded}
use Rattle.tql_core.specs.Holds.{asked_of}
use Rattle.tql_core.specs.Row.{Row, OfDoc, OfNote, date, rows_of}
use Rattle.tap_rows.specs.Kept.{In}
use Rattle.tap_rows.proofs.Tests.{some_same}
use Rattle.tql_core.specs.Values.{Env, bind, lookup, value}
use Rattle.row_index.specs.Orders.{in_window, doc_arrival}
use Rattle.row_index.specs.Dates.{dated_in}
use Rattle.time_marks.specs.declared.mark.Step.{Step}
use Rattle.time_marks.specs.declared.seek.Seek.{Seek}
use Rattle.time_marks.specs.declared.seek.Seek.TheVariants.{Arrived, Dated, Fixed, ArrivedDay, DatedDay}
use Rattle.time_marks.specs.declared.window.Window.{Window}
use Rattle.time_marks.specs.Marks.{document_var}
use Rattle.time_marks.specs.Windows.{is_within}
use Rattle.time_marks.specs.Seeks.{seek_of, seek_window, driving_second, lies_in}
use Rattle.time_marks.specs.Probes.{Probe}
use Rattle.time_marks.specs.Found.{vars_of, Distinct, IsProbe}
use Rattle.time_marks.proofs.Envs.{value_same}
use Rattle.time_marks.proofs.Lists.{in_map, map_in}
use Rattle.time_marks.proofs.SeekLaws.{solved}
use Rattle.access_plan.specs.declared.reach.Reach.{Reach}
use Rattle.access_plan.specs.Accesses.{table_of}
use Rattle.access_plan.specs.Orders.{driven}
use Rattle.access_plan.specs.Laws.{order_vars, numbers_of, IsServed, IsOrder}
use Rattle.probe_eval.specs.StepRows.{next_rows, step_access}
use Rattle.probe_eval.specs.Work.{total, work}
use Rattle.probe_eval.specs.Nested.{asked_cost, work_over}
use Rattle.probe_eval.specs.Drivers.{seek_var, stored_rows, driving, walked, mark_in, marked_cost, cost_at, passed_cost}
use Rattle.probe_eval.specs.Tables.{table_in}
use Rattle.probe_eval.specs.Runs.{starts_of, HasNoMark, PathIsDocument, rows_due}
use Rattle.probe_eval.proofs.Costs.{total_same, total_less, total_none, filter_same, filter_all, total_map, dated_total}
use Rattle.probe_eval.proofs.DriverLaws.{driven_are}
use Rattle.probe_eval.proofs.Finding.{driven_is, driven_in, base_driven, apart_left}
use Rattle.probe_eval.proofs.Founds.{ordered}
use Rattle.probe_eval.proofs.RestLaws.{reach_rows}
use Rattle.probe_eval.proofs.Nesting.{asked_table, further_is}
use Rattle.probe_eval.proofs.WalkedLaws.{walked_in, walked_total}
use Rattle.probe_eval.proofs.StepLaws.{step_table, next_less}
use Rattle.access_plan.specs.Nearest.{IsNearest}
use Rattle.access_plan.proofs.Nearests.{nearest_serves}
use Rattle.probe_eval.specs.Rests.{further, cost_of, rest_of}

no_mark : (w : Window) (o : Option ℤ) → lies_in w o ≡ false → mark_in w o ≡ None
no_mark w None h = refl
no_mark w (Some x) h = rw h refl

mark_lies : (w : Window) (o : Option ℤ) (b : ℤ) → mark_in w o ≡ Some b → (o ≡ Some b) × (lies_in w o ≡ true)
mark_lies w None b e = absurd cc
mark_lies w (Some x) b e = elim (cases_Bool (is_within w x)) [
  | inl c ↦ (ap Some (some_same (rw c at e)), c)
  | inr c ↦ absurd (none (rw c at e))
]
  where
    none : None ≡ Some b → ⊥
    none e = cc

-- a sum over the documents that a seek gives
module _ (G : Row → ℕ) (w : Window) (T : Tables) where
  arrived_total : (u : Var) (of : (d : Doc) → Option ℤ) → ((d : Doc) → of d ≡ Some d.arrival)
      → total G (map OfDoc (in_window doc_arrival w.low w.high T.docs)) ≡ total (λ d. G (OfDoc d)) (filter (λ d. lies_in w (of d)) T.docs)
  arrived_total u of h =
      total_map G OfDoc (in_window doc_arrival w.low w.high T.docs)
      ∙ ap (total (λ d. G (OfDoc d))) (filter_same (λ d. int_le w.low (doc_arrival d) && int_lt (doc_arrival d) w.high)
      (λ d. lies_in w (of d)) T.docs (λ d. ap (lies_in w) (sym (h d))))

  dates_total : (u : Var) (of : (d : Doc) → Option ℤ) → ((d : Doc) → of d ≡ date (OfDoc d))
      → total G (map OfDoc (dated_in w.low w.high T.docs)) ≡ total (λ d. G (OfDoc d)) (filter (λ d. lies_in w (of d)) T.docs)
  dates_total u of h =
      total_map G OfDoc (dated_in w.low w.high T.docs)
      ∙ dated_total (λ d. G (OfDoc d)) w T.docs
      ∙ ap (total (λ d. G (OfDoc d)))
      (filter_same (λ d. lies_in w (date (OfDoc d))) (λ d. lies_in w (of d)) T.docs (λ d. ap (lies_in w) (sym (h d))))

  stored_total : (s : Seek) → seek_var s ≡ Some document_var
      → total G (stored_rows s Docs w T) ≡ total (λ d. G (OfDoc d)) (filter (λ d. lies_in w (driving_second s (asked_of d))) T.docs)
  stored_total (Arrived u n) e = arrived_total u _ (λ d. ap (λ (z : Var). driving_second (Arrived z n) (asked_of d)) (some_same e))
  stored_total (Dated u n) e = dates_total u _ (λ d. ap (λ (z : Var). driving_second (Dated z n) (asked_of d)) (some_same e))
  stored_total (Fixed moment) e = absurd (none e)
    where
      none : None ≡ Some document_var → ⊥
      none e = cc
  stored_total (ArrivedDay u n) e = arrived_total u _ (λ d. ap (λ (z : Var). driving_second (ArrivedDay z n) (asked_of d)) (some_same e))
  stored_total (DatedDay u n) e = dates_total u _ (λ d. ap (λ (z : Var). driving_second (DatedDay z n) (asked_of d)) (some_same e))

module _ (passed : ℤ → Doc → Bool) (T : Tables) (w : Window) (p : Probe) (order : List Reach) (k : IsProbe p)
    (o : IsOrder p.path p.at.base order) (bounded : is_bounded p.at ≡ true) where
  -- if nothing is marked there is no step
  pub quiet_cost : (sv : Option Var) → seek_var (seek_of p.at) ≡ sv → HasNoMark T w p → passed_cost passed T w p order (seek_of p.at) sv ≡ 0
  quiet_cost None e q =
      let l : lies_in w (value p.at []) ≡ false = q [] (subst (λ z. In [] (starts_of T p z)) (sym e) (inl refl)) in
      ap (marked_cost passed T w p order []) (no_mark w (value p.at []) l)
  quiet_cost (Some v) e q = total_none (λ row. 1 + cost_at passed T w p order (bind v row [])) (walked T w p (seek_of p.at) v) (λ row i.
      let r = driven_are T w p v bounded e row (walked_in T w p (seek_of p.at) v row i) in
      let l : lies_in w (value p.at (bind v row [])) ≡ false = q (bind v row []) (subst (λ z. In (bind v row []) (starts_of T p z)) (sym e)
      (in_map (λ row. bind v row []) (rows_of (table_in p.path v.0) T) row r.0)) in
      absurd (false≢true (sym l ∙ r.1)))

  module _ (a : PathIsDocument p) where
    alone_var : (j : ℕ) → In j (vars_of p.path) → j ≡ a.0.var.0
    alone_var j i = only (subst (λ z. In j (vars_of z)) a.1 i)
      where
        only : In j (a.0.var.0 ∷ []) → j ≡ a.0.var.0
        only (inl e) = e
        only (inr i) = absurd i

    asked_var : In 0 (vars_of p.path)
    asked_var = subst (λ z. In 0 (vars_of z)) (sym k.asked.2) (inl refl)

    is_asked : (j : ℕ) → In j (vars_of p.path) → j ≡ 0
    is_asked j i = alone_var j i ∙ sym (alone_var 0 asked_var)

    var_is : (v : Var) → v.0 ≡ 0 → v ≡ document_var
    var_is v e = ap (λ n. record { 0 = n }) e

    -- a document that has its row costs the work of the body
    pair_less : (b : ℤ) (env : Env) → work_over (passed b) T p b false [] env ≤ work T p.body env
    pair_less b env = go (lookup 0 env)
      where
        or_none : (q c : Bool) (n : ℕ) → (if q then 0 else 0 + (if c then n else 0)) ≤ n
        or_none true c n = omega arith
        or_none false true n = omega arith
        or_none false false n = omega arith

        go : (o : Option Row) → asked_cost (passed b) T p b false [] env o 0 ≤ work T p.body env
        go None = omega arith
        go (Some (OfDoc d)) = or_none (passed b d) (rest_of T p.path b [] env) (work T p.body env)
        go (Some (OfNote n)) = omega arith

    cost_less : (env : Env) → cost_at passed T w p [] env ≤ work T p.body env
    cost_less env = go (mark_in w (value p.at env))
      where
        go : (o : Option ℤ) → marked_cost passed T w p [] env o ≤ work T p.body env
        go None = omega arith
        go (Some b) = pair_less b env

    in_order : (j : ℕ) → In j (order_vars order) → j ≡ 0
    in_order j i = is_asked j (ordered p.path order (driven p.at.base) o.served j i)

    abbrev due : (d : Doc) → ℕ
    due d = 1 + work T p.body (asked_of d)

    driven_due : (v : Var) → seek_var (seek_of p.at) ≡ Some v → passed_cost passed T w p order (seek_of p.at) (Some v) ≤ rows_due T w p
    driven_due v e =
        let a = walked_total T w p (seek_of p.at) v (λ row. 1 + cost_at passed T w p order (bind v row [])) in
        let b : total (λ row. 1 + cost_at passed T w p order (bind v row [])) (driving T w p (seek_of p.at) v) ≤ rows_due T w p =
        subst (λ z. total (λ row. 1 + cost_at passed T w p order (bind z row [])) (driving T w p (seek_of p.at) z) ≤ rows_due T w p)
        (sym v_is) by_m in
        omega (arith, a, b)
      where
        v_in : In v.0 (numbers_of (driven p.at.base))
        v_in = subst (λ vs. In v.0 (numbers_of vs)) (sym (driven_is p.at ∙ ap option_to_list e)) (inl refl)

        v_is : v ≡ document_var
        v_is = var_is v (is_asked v.0 (driven_in p.at.base (vars_of p.path) k.at v.0 v_in))

        zero_in : In 0 (numbers_of (driven p.at.base))
        zero_in = subst (λ z. In z (numbers_of (driven p.at.base))) (is_asked v.0 (driven_in p.at.base (vars_of p.path) k.at v.0 v_in)) v_in

        no_order : (rs : List Reach) → rs ≡ order → rs ≡ []
        no_order [] q = refl
        no_order (r ∷ rs) q =
            let i : In r.var.0 (order_vars order) = subst (λ z. In r.var.0 (order_vars z)) q (inl refl) in
            absurd (apart_left (numbers_of (driven p.at.base)) (order_vars order)
            o.once r.var.0 (subst (λ z. In z (numbers_of (driven p.at.base))) (sym (in_order r.var.0 i)) zero_in) i)

        e_m : seek_var (seek_of p.at) ≡ Some document_var
        e_m = e ∙ ap Some v_is

        less : total (λ row. 1 + cost_at passed T w p order (bind document_var row [])) (driving T w p (seek_of p.at) document_var)
            ≤ total (λ row. 1 + work T p.body (bind document_var row [])) (driving T w p (seek_of p.at) document_var)
        less = total_less _ _ (driving T w p (seek_of p.at) document_var) (λ row.
            one row (subst (λ z. cost_at passed T w p z (bind document_var row []) ≤ work T p.body (bind document_var row []))
            (sym (no_order order refl)) (cost_less (bind document_var row []))))
          where
            one : (row : Row) → cost_at passed T w p order (bind document_var row []) ≤ work T p.body (bind document_var row [])
                → 1 + cost_at passed T w p order (bind document_var row []) ≤ 1 + work T p.body (bind document_var row [])
            one row h = omega (arith, h)

        same : total (λ row. 1 + work T p.body (bind document_var row [])) (driving T w p (seek_of p.at) document_var) ≡ rows_due T w p
        same =
            ap (λ t. total (λ row. 1 + work T p.body (bind document_var row []))
            (stored_rows (seek_of p.at) t (seek_window w (seek_of p.at)) T)) (asked_table p k)
            ∙ stored_total (λ row. 1 + work T p.body (bind document_var row [])) (seek_window w (seek_of p.at)) T (seek_of p.at) e_m
            ∙ ap (total due) (filter_same (λ d. lies_in (seek_window w (seek_of p.at)) (driving_second (seek_of p.at) (asked_of d)))
            (λ d. lies_in w (value p.at (asked_of d))) T.docs (λ d. sym (solved p.at w (asked_of d) bounded)))

        by_m : total (λ row. 1 + cost_at passed T w p order (bind document_var row [])) (driving T w p (seek_of p.at) document_var)
            ≤ rows_due T w p
        by_m = subst (λ z. total (λ row. 1 + cost_at passed T w p order (bind document_var row []))
            (driving T w p (seek_of p.at) document_var) ≤ z) same less

    fixed_due : seek_var (seek_of p.at) ≡ None → passed_cost passed T w p order (seek_of p.at) None ≤ rows_due T w p
    fixed_due e = go (mark_in w (value p.at [])) refl
      where
        none_driven : driven p.at.base ≡ []
        none_driven = driven_is p.at ∙ ap option_to_list e

        bound_zero : In 0 (order_vars order)
        bound_zero =
            let s = map_in (λ (s : Step). s.var.0) p.path 0 asked_var in
            subst (λ vs. In 0 (numbers_of vs ++ order_vars order)) none_driven
            (subst (λ z. In z (numbers_of (driven p.at.base) ++ order_vars order)) (sym s.2) (o.steps s.0 s.1))

        once : Distinct (order_vars order)
        once = subst (λ vs. Distinct (numbers_of vs ++ order_vars order)) none_driven o.once

        every : (b : ℤ) → value p.at [] ≡ Some b → lies_in w (value p.at []) ≡ true
            → filter (λ d. lies_in w (value p.at (asked_of d))) T.docs ≡ T.docs
        every b v l = filter_all _ T.docs (λ d i. ap (lies_in w) (value_same (numbers_of (driven p.at.base)) [] (asked_of d)
            (λ j z. absurd (subst (λ vs. In j (numbers_of vs)) none_driven z)) p.at (base_driven p.at.base)) ∙ l)

        walk : (b : ℤ) (rs : List Reach) (bound : List Var) → IsServed p.path bound rs → Distinct (order_vars rs) → In 0 (order_vars rs)
            → work_over (passed b) T p b false rs [] ≤ total due T.docs
        walk b [] bound s u i = absurd i
        walk b (r ∷ rs) bound s u i = subst (λ z. work_over (passed b) T p b false (r ∷ z) [] ≤ total due T.docs) (sym (alone rs s.2 u)) one
          where
            r_zero : r.var.0 ≡ 0
            r_zero = is_asked r.var.0 (ordered p.path (r ∷ rs) bound s r.var.0 (inl refl))

            alone : (rs : List Reach) → IsServed p.path (bound ++ r.var ∷ []) rs → Distinct (r.var.0 ∷ order_vars rs) → rs ≡ []
            alone [] s u = refl
            alone (x ∷ xs) s u =
                let z = is_asked x.var.0 (ordered p.path (x ∷ xs) (bound ++ r.var ∷ []) s x.var.0 (inl refl)) in
                absurd (u.0 (inl (r_zero ∙ sym z)))

            one : work_over (passed b) T p b false (r ∷ []) [] ≤ total due T.docs
            one = go (further p.path b []) refl
              where
                go : (o : Option Reach) → further p.path b [] ≡ o → cost_of o
                    (λ x. 0 + total (λ row. 1 + work_over (passed b) T p b false [] (bind x.var row [])) (next_rows T p.path b [] x))
                    ≤ total due T.docs
                go None e = omega arith
                go (Some x) e = plain _ _ (next x (nearest_serves p.path [] x (further_is p.path b [] x e).1))
                  where
                    plain : (n m : ℕ) → n ≤ m → 0 + n ≤ m
                    plain n m h = omega (arith, h)

                    next : (x : Reach) → IsNearest p.path [] x → total (λ row. 1 + work_over (passed b) T p b false [] (bind x.var row []))
                        (next_rows T p.path b [] x) ≤ total due T.docs
                    next x near = subst
                        (λ z. total (λ row. 1 + work_over (passed b) T p b false [] (bind x.var row [])) (next_rows T p.path b [] x) ≤ z)
                        all (trans (next_less _ T p.path b x) (total_less _ _ (rows_of (table_of (step_access T p.path [] x)) T) each))
                      where
                        x_zero : x.var.0 ≡ 0
                        x_zero = is_asked x.var.0 (subst (λ (v : Var). In v.0 (vars_of p.path)) (sym near.var)
                            (in_map (λ (s : Step). s.var.0) p.path near.step near.is_step))

                        plus : (a b : ℕ) → a ≤ b → 1 + a ≤ 1 + b
                        plus a b h = omega (arith, h)

                        each : (row : Row)
                            → 1 + work_over (passed b) T p b false [] (bind x.var row []) ≤ 1 + work T p.body (bind x.var row [])
                        each row = plus _ _ (pair_less b (bind x.var row []))

                        trans : {a b c : ℕ} → a ≤ b → b ≤ c → a ≤ c
                        trans h k = omega (arith, h, k)

                        all : total (λ row. 1 + work T p.body (bind x.var row [])) (rows_of (table_of (step_access T p.path [] x)) T)
                            ≡ total due T.docs
                        all =
                            ap (λ t. total (λ row. 1 + work T p.body (bind x.var row [])) (rows_of t T)) (step_table T p.path [] x near
                            ∙ reach_rows T p.path b k.once [] x near ∙ ap (table_in p.path) x_zero ∙ asked_table p k)
                            ∙ total_map (λ row. 1 + work T p.body (bind x.var row [])) OfDoc T.docs
                            ∙ total_same _ _ T.docs (λ d. ap (λ (v : Var). 1 + work T p.body (bind v (OfDoc d) [])) (var_is x.var x_zero))

        go : (x : Option ℤ) → mark_in w (value p.at []) ≡ x → marked_cost passed T w p order [] x ≤ rows_due T w p
        go None q = omega arith
        go (Some b) q =
            let l = mark_lies w (value p.at []) b q in
            subst (λ z. work_over (passed b) T p b false order [] ≤ total due z) (sym (every b l.0 l.1))
            (walk b order (driven p.at.base) o.served once bound_zero)

    -- a path of the document alone takes no more steps than its marked documents are due
    pub alone_cost : (sv : Option Var) → seek_var (seek_of p.at) ≡ sv → passed_cost passed T w p order (seek_of p.at) sv ≤ rows_due T w p
    alone_cost None e = fixed_due e
    alone_cost (Some v) e = driven_due v e
