-- A question is a run of its second.
use Rattle.std.proofs.Common.{◌≡◌, ◌∙◌, ap, subst, ℕ, ◌+◌, ◌≤◌, ℤ, pos, ◌+ℤ◌, ◌≤ℤ◌, List, [], map}
use Rattle.tap_rows.specs.declared.tables.Tables.{Tables}
use Rattle.tap_rows.specs.declared.results.Entry.{Entry}
use Rattle.tap_rows.specs.declared.results.Hit.{Hit}
use Rattle.tap_rows.specs.Arrivals.{Arrived}
use Rattle.tql_core.specs.Condition.{Condition}
use Rattle.tql_core.specs.Scope.{IsQuery}
use Rattle.time_marks.specs.declared.window.Window.{Window}
use Rattle.time_marks.specs.declared.ranged_query.RangedQuery.{RangedQuery}
use Rattle.time_marks.specs.Probes.{Probe, meaning_without}
use Rattle.time_marks.specs.Views.{ranged_probes}
use Rattle.probe_eval.specs.Nested.{was_seen}
use Rattle.query_eval.specs.Driven.{run_cost}
use Rattle.tap_model.proofs.AskLaws.{asks_are_runs}
use Rattle.tap_model.specs.Asks.{given_docs, window_of_second}
use Rattle.tap_model.specs.Queries.{probes_from}
use Rattle.tap_kept.specs.Costs.{ask_work}
use Rattle.tap_kept.proofs.FindLaws.{work-is}

pub given-docs : (c : Condition) (s : ℤ) (T : Tables) (w : Window) (none : List Entry) (X : List Probe) (hits : List Hit) → IsQuery c
    → pos 0 ≤ℤ s → Arrived 1 (pos 0) T.docs
    → none ≡ [] → X ≡ probes_from c s → w ≡ window_of_second s → hits ≡ meaning_without (was_seen none) X T w
    → map (λ h. h.doc) hits ≡ given_docs c T s
given-docs c s T w none X hits query positive arrived empty is at found =
    ap (map (λ (h : Hit). h.doc))
    (found ∙ ap (λ es. meaning_without (was_seen es) X T w) empty ∙ ap (λ Y. meaning_without (was_seen []) Y T w) is
    ∙ ap (meaning_without (was_seen []) (probes_from c s) T) at)
    ∙ asks_are_runs c s T query positive arrived

pub given-steps : (c : Condition) (s : ℤ) (T : Tables) (w : Window) (none : List Entry) (q : RangedQuery) (new old : ℕ) → none ≡ []
    → ranged_probes q ≡ probes_from c s → w ≡ window_of_second s
    → new ≤ old + run_cost none T w q → new ≤ old + ask_work T c s
given-steps c s T w none q new old empty is at le =
    subst (λ n. new ≤ old + n) (ap (λ es. run_cost es T w q) empty ∙ ap (λ z. run_cost [] T z q) at
    ∙ work-is [] T (window_of_second s) q (probes_from c s) is) le
