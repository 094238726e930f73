-- The hits of all parts are just the marks that their query finds.
use Rattle.std.proofs.Common.{◌≡◌, ℕ, ◌+◌, ◌<◌, ◌≤◌, ℤ, true, List, [], ◌∷◌, ◌++◌, length, refl, sym, ap, ◌∙◌, subst, inl, inr, arith}
use Rattle.std.specs.Prelude.{◌⊎◌, int_le, int_lt, nat_lt, ◌<ℤ◌, option_to_list}
use Rattle.std.proofs.lemmas.Int.{ints}
use Rattle.std.proofs.lemmas.Bool.{and_parts, and_from}
use Rattle.row_index.proofs.ListWindows.{mapped_length}
use Rattle.tap_rows.specs.declared.tables.Tables.{Tables}
use Rattle.tap_rows.specs.declared.results.Hit.{Hit}
use Rattle.tap_rows.specs.declared.results.Entry.{Entry}
use Rattle.tql_core.specs.declared.term.Var.{Var}
use Rattle.tql_core.specs.declared.term.Base.{Base}
use Rattle.tql_core.specs.declared.term.Base.TheVariants as B
use Rattle.tql_core.specs.declared.term.Term.{Term}
use Rattle.tql_core.specs.Bounds.{is_near, is_bounded, is_bounded_base}
use Rattle.tap_rows.specs.Kept.{In}
use Rattle.tap_rows.proofs.Tests.{le_yes, lt_yes, le_from}
use Rattle.tql_core.specs.Trees.{tree_at}
use Rattle.time_marks.specs.declared.mark.Step.{Step}
use Rattle.time_marks.specs.declared.ranged.Ranged.{Ranged}
use Rattle.time_marks.specs.declared.ranged_query.RangedQuery.{RangedQuery}
use Rattle.time_marks.specs.declared.window.Window.{Window}
use Rattle.time_marks.specs.Found.{vars_of, IsProbe, nested}
use Rattle.time_marks.specs.Kept.{is_kept}
use Rattle.time_marks.specs.Probes.{Probe, finds}
use Rattle.time_marks.specs.Seeks.{seek_of, seek_plus}
use Rattle.time_marks.specs.Views.{probe_in, ranged_probes}
use Rattle.time_marks.proofs.Lists.{any_in, in_any, all_in, in_map, map_in, append_in}
use Rattle.access_plan.specs.declared.reach.Reach.{Reach}
use Rattle.access_plan.specs.Orders.{driven, order_of}
use Rattle.access_plan.specs.Laws.{order_vars, numbers_of, IsServed, IsOrder}
use Rattle.access_plan.proofs.Served.{orders_serve}
use Rattle.probe_eval.specs.Found.{IsFound, AreFound}
use Rattle.probe_eval.specs.Nested.{was_seen}
use Rattle.probe_eval.specs.Drivers.{seek_var, seek_hits}
use Rattle.probe_eval.specs.Runs.{part_order, part_hits, query_hits, HasValidProbes, IsFit}
use Rattle.probe_eval.proofs.Members.{from_flat, to_flat, no_more}
use Rattle.probe_eval.proofs.Nesting.{IsFoundBy}
use Rattle.probe_eval.proofs.Finding.{driven_is, driven_in, seek_sound, seek_complete}

lt_back : (x y : ℤ) → int_lt x y ≡ true → x <ℤ y
lt_back x y h = grind (arith, ints)

-- the mark of a probe that stays can be solved
near_plus : (at : Term) → is_bounded at ≡ true → is_near (seek_plus (seek_of at)) ≡ true
near_plus at h = let k = and_parts (is_near at.plus) (is_bounded_base at.base at.plus) h in go at.base at.plus k.0 k.1
  where
    go : (base : Base) (plus : ℤ) → is_near plus ≡ true → is_bounded_base base plus ≡ true
        → is_near (seek_plus (seek_of (record { base = base; plus = plus }))) ≡ true
    go (B.Arrival v) plus h b = h
    go (B.Date v) plus h b = h
    go B.Fixed plus h b = refl
    go (B.ArrivalDay v n) plus h b = (and_parts (is_near n) _ b).0
    go (B.DateDay v n) plus h b = (and_parts (is_near n) _ b).0

length_append : (xs ys : List ℕ) → length (xs ++ ys) ≡ length xs + length ys
length_append [] ys = omega arith
length_append (x ∷ xs) ys = let k = length_append xs ys in omega (arith, k)

-- the variables of the order are some of the path
pub ordered : (path : List Step) (rs : List Reach) (bound : List Var) → IsServed path bound rs → (j : ℕ) → In j (order_vars rs)
    → In j (vars_of path)
ordered path [] bound s j i = absurd i
ordered path (r ∷ rs) bound s j (inl e) =
    let q : s.0.0.var.0 ≡ j = ap (λ (v : Var). v.0) (sym s.0.2.var) ∙ sym e in
    subst (λ z. In z (vars_of path)) q (in_map (λ (s : Step). s.var.0) path s.0.0 s.0.1)
ordered path (r ∷ rs) bound s j (inr i) = ordered path rs (bound ++ r.var ∷ []) s.2 j i

-- no more variables are bound than stand in the path
pub bound_fit : (p : Probe) → IsProbe p
    → length (option_to_list (seek_var (seek_of p.at))) + length (order_of p.path p.at.base) ≤ length p.path
bound_fit p k =
    let o = orders_serve p.path p.at.base in
    let vs = numbers_of (driven p.at.base) in
    let os = order_vars (order_of p.path p.at.base) in
    let l = no_more (vs ++ os) (vars_of p.path) o.once (λ j i. within o j (append_in vs os j i)) in
    let a = length_append vs os in
    let b = mapped_length (λ (v : Var). v.0) (driven p.at.base) in
    let c = mapped_length (λ (r : Reach). r.var.0) (order_of p.path p.at.base) in
    let d = mapped_length (λ (s : Step). s.var.0) p.path in
    let e = ap length (driven_is p.at) in
    sums _ _ _ _ _ _ _ _ l a b c d e
  where
    within : IsOrder p.path p.at.base (order_of p.path p.at.base) → (j : ℕ)
        → In j (numbers_of (driven p.at.base)) ⊎ In j (order_vars (order_of p.path p.at.base)) → In j (vars_of p.path)
    within o j (inl i) = driven_in p.at.base (vars_of p.path) k.at j i
    within o j (inr i) = ordered p.path (order_of p.path p.at.base) (driven p.at.base) o.served j i

    sums : (all vs os vars ds os' path sv : ℕ) → all ≤ vars → all ≡ vs + os → vs ≡ ds → os ≡ os' → vars ≡ path → ds ≡ sv → sv + os' ≤ path
    sums all vs os vars ds os' path sv l a b c d e = omega (arith, l, a, b, c, d, e)

module _ (q : RangedQuery) where
  kept_part : (part : Ranged) → In part q.parts → is_kept q.pool part.probe ≡ true
  kept_part part i = all_in (λ (part : Ranged). is_kept q.pool part.probe) q.parts part q.kept i

  pub part_bounded : (part : Ranged) → In part q.parts → is_bounded part.probe.at ≡ true
  part_bounded part i = (and_parts (nat_lt part.probe.body.0 (length q.pool)) (is_bounded part.probe.at) (kept_part part i)).1

  module _ (ps : HasValidProbes q) where
    pub part_probe : (part : Ranged) → In part q.parts → IsProbe (probe_in q.pool part.probe)
    part_probe part i = ps (probe_in q.pool part.probe) (in_map (λ (part : Ranged). probe_in q.pool part.probe) q.parts part i)

    pub part_fits : (part : Ranged) → In part q.parts → IsFit q.pool part
    part_fits part i =
        let b = and_parts (nat_lt part.probe.body.0 (length q.pool)) (is_bounded part.probe.at) (kept_part part i) in
        let k = part_probe part i in
        let l = bound_fit (probe_in q.pool part.probe) k in
        let r = k.room in
        record {
          node = below part.probe.body.0 (length q.pool) b.0;
          plus = subst (λ s. is_near (seek_plus s) ≡ true) (sym part.solved) (near_plus part.probe.at b.1);
          room =
              subst (λ s. length (option_to_list (seek_var s)) + length (part_order part) + nested (tree_at q.pool part.probe.body.0) ≤ 16)
              (sym part.solved) (sum _ _ _ _ l r);
        }
      where
        below : (a n : ℕ) → nat_lt a n ≡ true → a < n
        below a n h = grind arith

        sum : (a b n p : ℕ) → a + b ≤ p → p + n ≤ 16 → a + b + n ≤ 16
        sum a b n p h k = omega (arith, h, k)

    module _ (entries : List Entry) (T : Tables) (w : Window) where
      of_seek : (part : Ranged) (h : Hit) → In h (part_hits entries T w q.pool part) → In h
          (seek_hits entries T w (probe_in q.pool part.probe) (part_order part) (seek_of part.probe.at) (seek_var (seek_of part.probe.at)))
      of_seek part h i =
          subst (λ s. In h (seek_hits entries T w (probe_in q.pool part.probe) (part_order part) s (seek_var s))) part.solved i

      to_seek : (part : Ranged) (h : Hit) → In h
          (seek_hits entries T w (probe_in q.pool part.probe) (part_order part) (seek_of part.probe.at) (seek_var (seek_of part.probe.at)))
          → In h (part_hits entries T w q.pool part)
      to_seek part h i =
          subst (λ s. In h (seek_hits entries T w (probe_in q.pool part.probe) (part_order part) s (seek_var s))) (sym part.solved) i

      pub query_found : AreFound (was_seen entries) (ranged_probes q) T w (query_hits entries T w q)
      query_found = record { sound = to; complete = back }
        where
          to : (h : Hit) → In h (query_hits entries T w q) → IsFound (was_seen entries) (ranged_probes q) T w h
          to h i =
              let a = from_flat (part_hits entries T w q.pool) q.parts h i in
              let p = probe_in q.pool a.0.probe in
              let f = seek_sound entries T w p (part_order a.0) (part_probe a.0 a.1) (orders_serve p.path p.at.base) (part_bounded a.0 a.1)
              (seek_var (seek_of p.at)) refl h (of_seek a.0 h a.2) in
              let b = and_parts (int_le w.low h.first) (int_lt h.first w.high) f.within in
              record {
                doc = f.doc;
                is_row = f.is_row;
                unseen = f.unseen;
                num = f.num;
                at = in_any (finds T f.doc h.first) (ranged_probes q) p
                    (in_map (λ (part : Ranged). probe_in q.pool part.probe) q.parts a.0 a.1) f.at;
                low = le_from w.low h.first b.0;
                high = lt_back h.first w.high b.1;
              }

          back : (h : Hit) → IsFound (was_seen entries) (ranged_probes q) T w h → In h (query_hits entries T w q)
          back h f =
              let x = any_in (finds T f.doc h.first) (ranged_probes q) f.at in
              let a = map_in (λ (part : Ranged). probe_in q.pool part.probe) q.parts x.0 x.1 in
              let p = probe_in q.pool a.0.probe in
              let g : IsFoundBy entries p T w h = record {
                doc = f.doc;
                is_row = f.is_row;
                unseen = f.unseen;
                num = f.num;
                at = subst (λ z. finds T f.doc h.first z ≡ true) a.2 x.2;
                within = and_from _ _ (le_yes w.low h.first f.low) (lt_yes h.first w.high f.high);
              } in
              to_flat (part_hits entries T w q.pool) q.parts a.0 h a.1
              (to_seek a.0 h (seek_complete entries T w p (part_order a.0) (part_probe a.0 a.1) (orders_serve p.path p.at.base)
              (part_bounded a.0 a.1) (seek_var (seek_of p.at)) refl h g))
