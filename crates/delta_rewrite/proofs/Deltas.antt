-- The delta window is the union over past seconds, and its probes keep their scopes.
use Rattle.std.proofs.Common.{◌≡◌, ℕ, suc, ◌≤◌, ℤ, pos, true, false, Some, List, [], ◌∷◌, ◌++◌, length, refl, sym, ap, ◌∙◌, subst}
use Rattle.std.proofs.Common.{inl, inr, arith}
use Rattle.std.specs.Prelude.{◌⊎◌, ◌+ℤ◌, ◌<ℤ◌, map, int_le, int_lt}
use Rattle.std.proofs.lemmas.Int.{ints}
use Rattle.std.proofs.lemmas.Bool.{cases_Bool, and_parts, and_from, or_left}
use Rattle.tap_rows.specs.declared.rows.Doc.{Doc}
use Rattle.tap_rows.specs.declared.tables.Tables.{Tables}
use Rattle.tap_rows.specs.Results.{visible}
use Rattle.tap_rows.specs.Kept.{In}
use Rattle.tql_tree.specs.declared.table.Table.TheVariants.{Docs}
use Rattle.tql_core.specs.declared.term.Term.{Term}
use Rattle.tql_core.specs.Condition.{Condition}
use Rattle.tql_core.specs.Row.{Row, OfDoc, arrival, rows_of}
use Rattle.tql_core.specs.Values.{Env, lookup, value}
use Rattle.tql_core.specs.Holds.{truth, asked_of}
use Rattle.tql_core.specs.Scope.{IsQuery}
use Rattle.time_marks.specs.declared.mark.Step.{Step}
use Rattle.time_marks.specs.declared.mark.Mark.{Mark}
use Rattle.time_marks.specs.Found.{vars_of, base_vars, NamesInScope, nested, IsProbe, Finds}
use Rattle.time_marks.specs.Laws.{Same}
use Rattle.time_marks.specs.Marks.{copied, copy_term, arrival_term, step_of, under_step, document_var, fixed_term, marks_from, rising_from}
use Rattle.time_marks.specs.Marks.{body}
use Rattle.time_marks.specs.Probes.{Probe, is_satisfied, finds, found}
use Rattle.time_marks.proofs.Asked.{given}
use Rattle.time_marks.proofs.Lists.{any_in, in_any, in_map, map_in, in_left, append_in}
use Rattle.time_marks.proofs.Orders.{value_is, finds_rows}
use Rattle.time_marks.proofs.Seconds.{reached}
use Rattle.time_marks.proofs.Envs.{guards_hold}
use Rattle.time_marks.proofs.Crossing.{plus_none}
use Rattle.monotone_rewrite.specs.Query.{fold_probe, can_find, probe_of}
use Rattle.monotone_rewrite.proofs.Finding.{Apart, Fine, fine_from, choices_other, rows_pass, along_come, only_m, keeps_m}
use Rattle.monotone_rewrite.proofs.Folds.{body_named}
use Rattle.monotone_rewrite.proofs.Depths.{nested_few, nested_body, short_from}
use Rattle.monotone_rewrite.proofs.Scopes.{base_named, is_probe, folded_probe}
use Rattle.monotone_rewrite.proofs.Growing.{filter_in}
use Rattle.monotone_rewrite.proofs.Union.{is_union}
use Rattle.monotone_rewrite.proofs.Windows.{filter_found, map_found, fold_finds, never_finds, same_union}
use Rattle.delta_rewrite.specs.Delta.{under_probe, probe_if, delta, unsettled, settle_probe, delta_window}
use Rattle.delta_rewrite.specs.Laws.{DeltaIsUnion, DeltaKeepsScopes}
use Rattle.delta_rewrite.proofs.MarksOf.{mark_of, one_probe, unsettled_marks}
use Rattle.delta_rewrite.proofs.Names.{delta_named, delta_nested}
use Rattle.delta_rewrite.proofs.Asks.{value_driven, body_at}
use Rattle.delta_rewrite.proofs.Sound.{sound}
use Rattle.delta_rewrite.proofs.CrossedProbes.{CrossedBy, crossed_left, crossed_right, crossed_here}
use Rattle.delta_rewrite.proofs.Complete.{crossing_by}
use Rattle.delta_rewrite.proofs.Settling.{settled_probe, settle_finds}

-- the probes below the first step
abbrev pub below_first : Condition → ℤ → List Probe
below_first c a = (probe_if true (arrival_term document_var) (body c (arrival_term document_var)) ++ delta c true)
    ++ probe_if (int_lt (pos 0) a) (fixed_term a) (body c (fixed_term a))

abbrev pub first_step : Condition → Step
first_step c = step_of document_var Docs c

-- each asks the whole condition at its mark, or is a delta probe
pub whole_or_delta : (c : Condition) (a : ℤ) (p : Probe) → In p (below_first c a)
    → ((e : Term) × (p ≡ record { path = []; at = copy_term e; body = body c (copy_term e) })) ⊎ In p (delta c true)
whole_or_delta c a p i =
    let at = arrival_term document_var in
    let start = probe_if (int_lt (pos 0) a) (fixed_term a) (body c (fixed_term a)) in
    elim (append_in (probe_if true at (body c at) ++ delta c true) start p i) [
      | inl j ↦ elim (append_in (probe_if true at (body c at)) (delta c true) p j) [
        | inl k ↦ inl (at, (one_probe true at (body c at) p k).1)
        | inr k ↦ inr k
      ]
      | inr j ↦ inl (fixed_term a, (one_probe (int_lt (pos 0) a) (fixed_term a) (body c (fixed_term a)) p j).1)
    ]

module _ (c : Condition) (a : ℤ) (q : IsQuery c) where
  below_named : (p : Probe) → In p (below_first c a) → NamesInScope (0 ∷ base_vars p.at.base) p.body
  below_named p i =
      elim (whole_or_delta c a p i) [
        | inl w ↦
            subst (λ z. NamesInScope (0 ∷ base_vars z.at.base) z.body) (sym w.1)
            (body_named (copy_term w.0) c (0 ∷ []) (0 ∷ base_vars (copy_term w.0).base) q
            (λ k m. in_left (0 ∷ []) (base_vars (copy_term w.0).base) k m) (base_named (copy_term w.0).base))
        | inr j ↦
            delta_named c true (0 ∷ []) (0 ∷ base_vars p.at.base) q (λ k m. in_left (0 ∷ []) (base_vars p.at.base) k m) p j (λ k m. inr m)
      ]

  below_nested : (p : Probe) → In p (below_first c a) → nested p.body ≤ nested c
  below_nested p i =
      elim (whole_or_delta c a p i) [
        | inl w ↦ subst (λ z. nested z.body ≤ nested c) (sym w.1) (nested_body c (copy_term w.0))
        | inr j ↦ delta_nested c true p j
      ]

  -- its mark is a rising one
  below_mark : (p : Probe) → In p (below_first c a) → In (under_step (first_step c) (mark_of p)) (rising_from c a)
  below_mark p i =
      subst (λ ms. In (under_step (first_step c) (mark_of p)) ms) (unsettled_marks c a)
      (in_map mark_of (unsettled c a) (under_probe (first_step c) p) (in_map (under_probe (first_step c)) (below_first c a) p i))

  below_short : (p : Probe) → In p (below_first c a) → length p.path ≤ 5
  below_short p i =
      let k = map_in (under_step (first_step c)) (marks_from c a) (under_step (first_step c) (mark_of p)) (below_mark p i) in
      let s = short_from c a q k.0 k.1 in
      let e : suc (length p.path) ≡ suc (length k.0.path) = ap (λ (m : Mark). length m.path) k.2 in
      omega arith

  -- each probe of the delta window, before settling and folding
  below_probe : (p : Probe) → In p (below_first c a) → IsProbe (under_probe (first_step c) p)
  below_probe p i =
      let mark = under_step (first_step c) (mark_of p) in
      let k = is_probe c a q (probe_of c mark) (in_map (probe_of c) (rising_from c a) mark (below_mark p i)) in
      record {
        asked = k.asked;
        room = omega (arith, below_short p i, below_nested p i, nested_few c (0 ∷ []) q);
        once = k.once;
        apart = k.apart;
        guards = k.guards;
        at = k.at;
        body = below_named p i;
      }

  is_delta_probe : (p : Probe) → In p (unsettled c a) → IsProbe p
  is_delta_probe p i =
      let k = map_in (under_probe (first_step c)) (below_first c a) p i in
      subst IsProbe (sym k.2) (below_probe k.0 k.1)

  below_fine : (p : Probe) → In p (below_first c a) → Fine (mark_of p)
  below_fine p i =
      let k = map_in (under_step (first_step c)) (marks_from c a) (under_step (first_step c) (mark_of p)) (below_mark p i) in
      let f = fine_from c a q k.0 k.1 in
      record {
        apart = subst Apart (sym (ap (λ (m : Mark). rest m.path) k.2)) f.apart;
        term = f.term;
        is_copy = ap (λ (m : Mark). m.at) k.2 ∙ f.is_copy;
      }
    where
      rest : List Step → List Step
      rest [] = []
      rest (step ∷ path) = path

  delta_copy : (p : Probe) → In p (unsettled c a) → (e : Term) × (p.at ≡ copy_term e)
  delta_copy p i =
      let k = map_in (under_probe (first_step c)) (below_first c a) p i in
      let f = below_fine k.0 k.1 in
      (f.term, ap (λ (z : Probe). z.at) k.2 ∙ f.is_copy)

  module _ (T : Tables) (d : Doc) where
    -- a probe that is crossed when the condition holds finds the document
    crossed_found : (s : ℤ) → int_le d.arrival s ≡ true → truth (visible T s) s c (asked_of d) ≡ true
        → CrossedBy T (pos 0) s (0 ∷ []) (asked_of d) (asked_of d) (0 ∷ []) (asked_of d) (below_first c a)
        → found (unsettled c a) T d s ≡ true
    crossed_found s come y k =
        let f = below_fine k.probe k.is_probe in
        let p = under_probe (first_step c) k.probe in
        let guards = and_from _ _ (guards_hold (0 ∷ []) (asked_of d) k.final k.keeps (visible T s) s c q y) k.guards in
        let come' = along_come T d s k.probe.path (asked_of d) k.final k.along (and_from _ _ come refl) in
        let same = only_m c a q T d k.final (k.keeps 0 (inl refl)) in
        let fit : is_satisfied p T s k.final ≡ true =
        and_from _ _ (and_from _ _ (and_from _ _ guards (value_is _ s k.reaches)) come') (k.asks k.final same (λ j i. refl)) in
        in_any (finds T d s) (unsettled c a) p (in_map (under_probe (first_step c)) (below_first c a) k.probe k.is_probe)
        (or_left _ false (rows_pass T d s k.probe.path (asked_of d) k.final (is_satisfied p T s) f.apart k.along fit))

    -- at a mark of the whole condition, that holds then, its body is true
    whole_asked : (s : ℤ) (e : Term) → truth (visible T s) s c (asked_of d) ≡ true → value (copy_term e) (asked_of d) ≡ Some s
        → (other : Env) → Same (0 ∷ []) (asked_of d) other
        → ((k : ℕ) → In k (base_vars (copy_term e).base) → lookup k other ≡ lookup k (asked_of d))
        → truth T (pos 0) (body c (copy_term e)) other ≡ true
    whole_asked s e y v other same drive =
        let here = value_driven (copy_term e) (asked_of d) other drive ∙ v in
        body_at T (pos 0) s (copy_term e) e refl c (0 ∷ []) (asked_of d) other q same here ∙ y

    delta_begins : (u s : ℤ) → s ≡ u +ℤ pos 1 → given c T d u ≡ false → given c T d s ≡ true → found (unsettled c a) T d s ≡ true
    delta_begins u s n h b =
        let p = and_parts (int_le d.arrival s) (truth (visible T s) s c (asked_of d)) b in
        let at = arrival_term document_var in
        let first = probe_if true at (body c at) in
        let start = probe_if (int_lt (pos 0) a) (fixed_term a) (body c (fixed_term a)) in
        let keeps = keeps_m c a q T d in
        crossed_found s p.0 p.1 (
        crossed_left T (pos 0) s (0 ∷ []) (asked_of d) (asked_of d) (0 ∷ []) (asked_of d) (first ++ delta c true) start (
        elim (cases_Bool (int_le d.arrival u)) [
          | inl was ↦
              let a' : truth (visible T u) u c (asked_of d) ≡ false = rw was at h in
              crossed_right T (pos 0) s (0 ∷ []) (asked_of d) (asked_of d) (0 ∷ []) (asked_of d) first (delta c true)
              (crossing_by T (pos 0) u s n c true (0 ∷ []) (asked_of d) (asked_of d) q keeps a' p.1)
          | inr new ↦
              let v = ap Some (plus_none d.arrival ∙ reached u s d.arrival n new p.0) in
              crossed_left T (pos 0) s (0 ∷ []) (asked_of d) (asked_of d) (0 ∷ []) (asked_of d) first (delta c true)
              (crossed_here T (pos 0) s (0 ∷ []) (asked_of d) (asked_of d) (0 ∷ []) (asked_of d) true at (body c at) refl v keeps
              (whole_asked s at p.1 v))
        ]))

    delta_starts : pos 0 <ℤ a → given c T d a ≡ true → found (unsettled c a) T d a ≡ true
    delta_starts h b =
        let p = and_parts (int_le d.arrival a) (truth (visible T a) a c (asked_of d)) b in
        let at = arrival_term document_var in
        let late : int_lt (pos 0) a ≡ true = grind (arith, ints) in
        let sum : pos 0 +ℤ a ≡ a = omega (arith, ints) in
        let up = int_lt (pos 0) a in
        crossed_found a p.0 p.1 (crossed_right T (pos 0) a (0 ∷ []) (asked_of d) (asked_of d) (0 ∷ []) (asked_of d)
        (probe_if true at (body c at) ++ delta c true) (probe_if up (fixed_term a) (body c (fixed_term a)))
        (crossed_here T (pos 0) a (0 ∷ []) (asked_of d) (asked_of d) (0 ∷ []) (asked_of d) up (fixed_term a) (body c (fixed_term a)) late
        (ap Some sum) (keeps_m c a q T d) (whole_asked a (fixed_term a) p.1 (ap Some sum))))

    below_given : (b : ℤ) (p : Probe) → In p (below_first c a) → finds T d b (under_probe (first_step c) p) ≡ true → given c T d b ≡ true
    below_given b p i h =
        let k = below_probe p i in
        let f = finds_rows T d b (under_probe (first_step c) p) k h in
        let m = f.rows (first_step c) (inl refl) in
        let e = only m.0 m.1 in
        let same = only_m c a q T d f.env (m.2 ∙ ap Some e) in
        and_from _ _ (subst (λ r. int_le (arrival r) b ≡ true) e m.3) (
        elim (whole_or_delta c a p i) [
          | inl w ↦
              let v = subst (λ z. value z.at f.env ≡ Some b) w.1 f.at in
              sym (body_at T (pos 0) b (copy_term w.0) w.0 refl c (0 ∷ []) (asked_of d) f.env q same v)
              ∙ subst (λ z. truth T (pos 0) z.body f.env ≡ true) w.1 f.body
          | inr j ↦
              sound T (pos 0) b c true (0 ∷ []) (asked_of d) f.env q same p j
              (record { at = f.at; outer = outer f same; inner = inner f k; body = f.body })
        ])
      where
        only : (r : Row) → In r (OfDoc d ∷ []) → r ≡ OfDoc d
        only r (inl e) = e
        only r (inr i) = absurd i

        outer : (f : Finds T d b (under_probe (first_step c) p)) → Same (0 ∷ []) (asked_of d) f.env → (k : ℕ) → In k (base_vars p.at.base)
            → (j : ℕ) → In j (0 ∷ []) → k ≡ copied j → lookup k f.env ≡ lookup j (asked_of d)
        outer f same k i j (inl z) e =
            ap (λ n. lookup n f.env) (e ∙ ap copied z ∙ sym z) ∙ same j (inl z)
        outer f same k i j (inr m) e = absurd m

        inner : (f : Finds T d b (under_probe (first_step c) p)) → IsProbe (under_probe (first_step c) p) → (k : ℕ)
            → In k (base_vars p.at.base) → (step : Step) → In step p.path → k ≡ step.var.0
            → (r : Row) × In r (rows_of step.table T) × (lookup k f.env ≡ Some r) × (int_le (arrival r) b ≡ true)
        inner f l k i step j e =
            let r = f.rows step (inr j) in
            let there = in_map (λ (s : Step). s.var.0) p.path step j in
            let rows = choices_other T d step (λ z. l.once.0 (subst (λ n. In n (vars_of p.path)) z there)) in
            (r.0, subst (λ rs. In r.0 rs) rows r.1, ap (λ n. lookup n f.env) e ∙ r.2, r.3)

    delta_sound : (b : ℤ) → found (unsettled c a) T d b ≡ true → given c T d b ≡ true
    delta_sound b h =
        let p = any_in (finds T d b) (unsettled c a) h in
        let k = map_in (under_probe (first_step c)) (below_first c a) p.0 p.1 in
        below_given b k.0 k.1 (subst (λ z. finds T d b z ≡ true) k.2 p.2)

    -- the delta window finds the same after settling and folding
    delta_found : (b : ℤ) → found (delta_window c a) T d b ≡ found (unsettled c a) T d b
    delta_found b =
        filter_found (finds T d b) can_find (map fold_probe (map settle_probe (unsettled c a))) (never_finds T d b)
        ∙ map_found (finds T d b) fold_probe (map settle_probe (unsettled c a)) (λ p i.
        let k = map_in settle_probe (unsettled c a) p i in
        let e = delta_copy k.0 k.1 in
        let settled = settled_probe k.0 (is_delta_probe k.0 k.1) in
        fold_finds T d b p (subst IsProbe (sym k.2) settled) e.0 (ap (λ (z : Probe). z.at) k.2 ∙ e.1))
        ∙ map_found (finds T d b) settle_probe (unsettled c a) (λ p i.
        let e = delta_copy p i in
        settle_finds T d b p (is_delta_probe p i) e.0 e.1)

pub delta_is_union : DeltaIsUnion
delta_is_union c a q st =
    same_union c a (delta_window c a) (unsettled c a) (delta_found c a q) (is_union c a st (unsettled c a) (λ T d. record {
      sound = delta_sound c a q T d;
      begins = delta_begins c a q T d;
      starts = delta_starts c a q T d;
    }))

pub delta_keeps_scopes : DeltaKeepsScopes
delta_keeps_scopes c a q p i =
    let f = filter_in can_find (map fold_probe (map settle_probe (unsettled c a))) p i in
    let k = map_in fold_probe (map settle_probe (unsettled c a)) p f.0 in
    let l = map_in settle_probe (unsettled c a) k.0 k.1 in
    subst IsProbe (sym k.2) (folded_probe k.0 (subst IsProbe (sym l.2) (settled_probe l.0 (is_delta_probe c a q l.0 l.1))))
