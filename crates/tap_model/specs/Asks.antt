-- A question as a run of one second.
use Rattle.std.specs.Prelude.{◌≡◌, ℤ, pos, ◌+ℤ◌, ◌≤ℤ◌, false, List, map}
use Rattle.tap_base.specs.declared.numbers.DocNum.{DocNum}
use Rattle.tap_rows.specs.declared.tables.Tables.{Tables}
use Rattle.tap_rows.specs.Arrivals.{Arrived}
use Rattle.tap_rows.specs.Results.{snapshot}
use Rattle.tql_core.specs.Condition.{Condition}
use Rattle.tql_core.specs.Holds.{truth_of}
use Rattle.tql_core.specs.Scope.{IsQuery}
use Rattle.time_marks.specs.declared.window.Window.{Window}
use Rattle.time_marks.specs.Probes.{meaning_without}
use Rattle.tap_model.specs.Queries.{probes_from}

-- the numbers of the documents that a condition gives at a second
abbrev pub given_docs : Condition → Tables → ℤ → List DocNum
given_docs c T s = map (λ doc. doc.num) (snapshot (truth_of c) T s)

-- one second as a window
abbrev pub window_of_second : ℤ → Window
window_of_second s = record { low = s; high = s +ℤ pos 1 }

-- a condition gives at a second the documents that its window query, begun at that second, finds in it
abbrev pub AsksAreRuns : Type 0
AsksAreRuns =
    (c : Condition) (s : ℤ) (T : Tables) → IsQuery c → pos 0 ≤ℤ s → Arrived 1 (pos 0) T.docs
    → map (λ h. h.doc) (meaning_without (λ _. false) (probes_from c s) T (window_of_second s)) ≡ given_docs c T s
