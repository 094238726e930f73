-- What a run of a plan costs is what a run of its query costs.
use Rattle.std.proofs.Common.{◌≡◌, ◌∙◌, sym, refl, ap, subst, ℕ, ◌+◌, ◌≤◌, ℤ, pos, List, [], ◌∷◌, ◌++◌, length, map}
use Rattle.std.proofs.lemmas.List.{length-map}
use Rattle.tap_base.specs.declared.moments.TheConstants.{LAST_MOMENT}
use Rattle.tap_rows.specs.declared.tables.Tables.{Tables}
use Rattle.tap_rows.specs.declared.results.Entry.{Entry}
use Rattle.tap_rows.specs.declared.results.Hit.{Hit}
use Rattle.tap_rows.specs.Kept.{In}
use Rattle.time_marks.specs.declared.window.Window.{Window}
use Rattle.tql_core.specs.declared.tnode.TNode.{TNode}
use Rattle.time_marks.specs.declared.ranged.Ranged.{Ranged}
use Rattle.time_marks.specs.declared.ranged_query.RangedQuery.{RangedQuery}
use Rattle.time_marks.specs.Probes.{Probe, meaning_without}
use Rattle.time_marks.specs.Views.{probe_in, ranged_probes}
use Rattle.probe_eval.specs.Drivers.{seek_var, seek_hits, seek_cost}
use Rattle.probe_eval.specs.Nested.{was_seen}
use Rattle.probe_eval.specs.Runs as runs
use Rattle.probe_eval.specs.Work.{total}
use Rattle.query_eval.specs.Driven.{total_in_turn, turn_cost, part_turn, parts_cost, run_cost}
use Rattle.restart_core.specs.Starts.{condition_text}
use Rattle.tap_model.specs.Queries.{condition_by, start_of, probes_of_query}
use Rattle.form_marks.proofs.Marks.{forms_have_no_other_mark}
use Rattle.tap_model.proofs.WindowLaws.{is-query}
use Rattle.tap_kept.specs.declared.cached_query.CachedQuery.{CachedQuery}
use Rattle.tap_kept.specs.Costs.{NoProbeHasMark, AreAlone, ArePlain, query_rows_due, probe_work, probe_hits, probe_turn, probes_work}
use Rattle.tap_kept.specs.Costs.{query_work, work_ahead, marks_ahead, window_since}
use Rattle.wake_plan.specs.Marked.{IsPlain, marked_ahead}
use Rattle.wake_plan.specs.Wakes.{wake_window, hits_ahead}

-- a window of these ends
abbrev within : ℤ → ℤ → Window
within low high = record { low = low; high = high }

-- what holds of a run of a plan holds of the query's probes
pub quiet-since : {A : Type 0} (X : List Probe) (T : Tables) (kept : CachedQuery) (low high moment : ℤ) → X ≡ probes_of_query kept.row
    → low ≡ kept.covered → high ≡ moment
    → (((p : Probe) → In p X → runs.HasNoMark T (within low high) p) → A) → NoProbeHasMark T (window_since kept moment) kept.row → A
quiet-since X T kept low high moment is from to tells quiet =
    let c = condition_by kept.row in
    let query = is-query (condition_text kept.row.source) in
    let unmarked = forms_have_no_other_mark c (start_of kept.row) query T (window_since kept moment) quiet in
    let same : (p : Probe) → runs.HasNoMark T (within kept.covered moment) p → runs.HasNoMark T (within low high) p =
    λ p none.
    subst (λ z. runs.HasNoMark T (within z high) p) (sym from) (subst (λ z. runs.HasNoMark T (within kept.covered z) p) (sym to) none) in
    tells (λ p has. same p (unmarked p (subst (In p) is has)))

pub due-since : (X : List Probe) (T : Tables) (kept : CachedQuery) (low high moment : ℤ) (new old : ℕ) → X ≡ probes_of_query kept.row
    → low ≡ kept.covered → high ≡ moment
    → (((p : Probe) → In p X → runs.PathIsDocument p) → new ≤ old + total (runs.rows_due T (within low high)) X) → AreAlone kept.row
    → new ≤ old + query_rows_due T (window_since kept moment) kept.row
due-since X T kept low high moment new old is from to tells are =
    subst (λ z. new ≤ old + total (runs.rows_due T (within z moment)) (probes_of_query kept.row)) from
    (subst (λ z. new ≤ old + total (runs.rows_due T (within low z)) (probes_of_query kept.row)) to
    (subst (λ Y. new ≤ old + total (runs.rows_due T (within low high)) Y) is (tells (λ p has. are p (subst (In p) is has)))))

-- the steps of the parts of a query, each on its own, are those of its probes
parts-apart : (entries : List Entry) (T : Tables) (w : Window) (nodes : List TNode) (parts : List Ranged)
    → total (runs.part_cost entries T w nodes) parts
    ≡ total (probe_work entries T w) (map (λ part. probe_in nodes part.probe) parts)
parts-apart entries T w nodes [] = refl
parts-apart entries T w nodes (part ∷ parts) =
    let rest = total (probe_work entries T w) (map (λ part. probe_in nodes part.probe) parts) in
    ap (λ n. runs.part_cost entries T w nodes part + n) (parts-apart entries T w nodes parts)
    ∙ ap (λ s. seek_cost entries T w (probe_in nodes part.probe) (runs.part_order part) s (seek_var s) + rest) part.solved

apart-is : (entries : List Entry) (T : Tables) (w : Window) (q : RangedQuery) (X : List Probe) → ranged_probes q ≡ X
    → runs.query_cost entries T w q ≡ total (probe_work entries T w) X
apart-is entries T w q X is = parts-apart entries T w q.pool q.parts ∙ ap (total (probe_work entries T w)) is

-- and so are those of one part after the other
abbrev joined : List Hit → List Hit → List Hit
joined found hits = found ++ hits

parts-turn : (entries : List Entry) (T : Tables) (w : Window) (nodes : List TNode) (found : List Hit) (parts : List Ranged)
    → parts_cost joined entries T w nodes found parts
    ≡ total_in_turn joined (probe_turn entries T w) (probe_hits entries T w) found (map (λ part. probe_in nodes part.probe) parts)
parts-turn entries T w nodes found [] = refl
parts-turn entries T w nodes found (part ∷ parts) =
    let p = probe_in nodes part.probe in
    let order = runs.part_order part in
    let rest : List Hit → ℕ = λ hits. total_in_turn joined (probe_turn entries T w) (probe_hits entries T w) (found ++ hits)
    (map (λ part. probe_in nodes part.probe) parts) in
    ap (λ n. part_turn joined entries T w nodes found part + n)
    (parts-turn entries T w nodes (found ++ runs.part_hits entries T w nodes part) parts)
    ∙ ap (λ s. turn_cost joined entries T w p order found s (seek_var s) + rest (seek_hits entries T w p order s (seek_var s))) part.solved

pub work-is : (entries : List Entry) (T : Tables) (w : Window) (q : RangedQuery) (X : List Probe) → ranged_probes q ≡ X
    → run_cost entries T w q ≡ probes_work entries T w X
work-is entries T w q X is = parts-turn entries T w q.pool [] q.parts ∙ ap (probes_work entries T w) is

-- the steps of a run of a plan are those of a run of the query
pub work-since : (q : RangedQuery) (T : Tables) (kept : CachedQuery) (low high moment : ℤ) (new old : ℕ)
    → ranged_probes q ≡ probes_of_query kept.row → low ≡ kept.covered → high ≡ moment
    → new ≤ old + run_cost kept.entries T (within low high) q → new ≤ old + query_work kept.entries T (window_since kept moment) kept.row
work-since q T kept low high moment new old is from to le =
    subst (λ z. new ≤ old + query_work kept.entries T (within z moment) kept.row) from
    (subst (λ z. new ≤ old + query_work kept.entries T (within low z) kept.row) to
    (subst (λ n. new ≤ old + n) (work-is kept.entries T (within low high) q (probes_of_query kept.row) is) le))

parts-count : (q : RangedQuery) (X : List Probe) → ranged_probes q ≡ X → length q.parts ≡ length X
parts-count q X is = sym (length-map q.parts (λ part. probe_in q.pool part.probe)) ∙ ap length is

-- the window up to the least mark is the same by the plan and by the query
ahead-same : (q : RangedQuery) (T : Tables) (kept : CachedQuery) → ranged_probes q ≡ probes_of_query kept.row
    → wake_window kept.covered (hits_ahead kept.entries q T kept.covered) ≡ wake_window kept.covered
    (meaning_without (was_seen kept.entries) (probes_of_query kept.row) T (within kept.covered (pos LAST_MOMENT)))
ahead-same q T kept is =
    ap (λ X. wake_window kept.covered (meaning_without (was_seen kept.entries) X T (within kept.covered (pos LAST_MOMENT)))) is

-- the steps of the planner are those of the query's probes
pub work-next : (q : RangedQuery) (T : Tables) (kept : CachedQuery) (last : ℤ) (new old : ℕ) → ranged_probes q ≡ probes_of_query kept.row
    → last ≡ kept.covered
    → new ≤ old + (length q.parts + runs.query_cost kept.entries T (wake_window last (hits_ahead kept.entries q T last)) q)
    → new ≤ old + work_ahead kept T
work-next q T kept last new old is from le =
    let at : new
    ≤ old + (length q.parts + runs.query_cost kept.entries T (wake_window kept.covered (hits_ahead kept.entries q T kept.covered)) q) =
    subst (λ z. new ≤ old + (length q.parts + runs.query_cost kept.entries T (wake_window z (hits_ahead kept.entries q T z)) q)) from
    le in
    subst (λ n. new ≤ old + n)
    (ap (λ n. n + runs.query_cost kept.entries T (wake_window kept.covered (hits_ahead kept.entries q T kept.covered)) q)
    (parts-count q (probes_of_query kept.row) is)
    ∙ ap (λ w. length (probes_of_query kept.row) + runs.query_cost kept.entries T w q) (ahead-same q T kept is)
    ∙ ap (λ n. length (probes_of_query kept.row) + n)
    (apart-is kept.entries T (wake_window kept.covered (meaning_without (was_seen kept.entries) (probes_of_query kept.row) T
    (within kept.covered (pos LAST_MOMENT)))) q (probes_of_query kept.row) is))
    at

pub plain-next : (q : RangedQuery) (T : Tables) (kept : CachedQuery) (last : ℤ) (new old : ℕ) → ranged_probes q ≡ probes_of_query kept.row
    → last ≡ kept.covered
    → (((p : Probe) → In p (ranged_probes q) → IsPlain p)
    → new ≤ old + marked_ahead T (wake_window last (hits_ahead kept.entries q T last)) (ranged_probes q)) → ArePlain kept.row
    → new ≤ old + marks_ahead kept T
plain-next q T kept last new old is from tells are =
    let le : new ≤ old + marked_ahead T (wake_window kept.covered (hits_ahead kept.entries q T kept.covered)) (ranged_probes q) =
    subst (λ z. new ≤ old + marked_ahead T (wake_window z (hits_ahead kept.entries q T z)) (ranged_probes q)) from
    (tells (λ p has. are p (subst (In p) is has))) in
    subst (λ n. new ≤ old + n)
    (ap (λ w. marked_ahead T w (ranged_probes q)) (ahead-same q T kept is)
    ∙ ap (marked_ahead T (wake_window kept.covered
    (meaning_without (was_seen kept.entries) (probes_of_query kept.row) T (within kept.covered (pos LAST_MOMENT))))) is)
    le
