-- Probes without repeats.
use Rattle.std.specs.Prelude.{◌≡◌, ◌↔◌, Bool, true, ◌&&◌, List, [], ◌∷◌, ◌++◌, if◌then◌else◌}
use Rattle.std.specs.List.{list_any}
use Rattle.std.specs.Cmp.Lexicographic.{pointwise}
use Rattle.tap_rows.specs.declared.rows.Doc.{Doc}
use Rattle.tap_rows.specs.declared.tables.Tables.{Tables}
use Rattle.tql_core.specs.contracts.term.TermPartialEq.TheImpl as term
use Rattle.tql_core.specs.Same.{same_condition}
use Rattle.tap_rows.specs.Kept.{In}
use Rattle.time_marks.specs.contracts.mark.StepPartialEq.TheImpl as step
use Rattle.time_marks.specs.declared.window.Window.{Window}
use Rattle.time_marks.specs.Probes.{Probe, window_meaning, meaning_without}

module _ {A : Type 0} (same : A → A → Bool) where
  -- the list with one more at its end, unless it equals one of them
  abbrev pub kept_with : List A → A → List A
  kept_with xs x = if list_any (same x) xs then xs else xs ++ x ∷ []

  -- the first list, and then each of the second that equals none before it
  abbrev pub distinct_onto : List A → List A → List A
  distinct_onto front [] = front
  distinct_onto front (x ∷ xs) = distinct_onto (kept_with front x) xs

  -- the list without each that equals an earlier one
  abbrev pub distinct : List A → List A
  distinct xs = distinct_onto [] xs

-- are the probes equal?
abbrev pub same_probe : Probe → Probe → Bool
same_probe p q = pointwise step.ghosts.eq p.path q.path && (term.ghosts.eq p.at q.at && same_condition p.body q.body)

-- the test is true if and only if the probes are equal
abbrev pub SameProbeIsEqual : Type 0
SameProbeIsEqual = (p q : Probe) → ((same_probe p q ≡ true) ↔ (p ≡ q))

-- the probes without each that equals an earlier one
abbrev pub distinct_probes : List Probe → List Probe
distinct_probes X = distinct same_probe X

-- both find the same documents with the same marks, over all tables and windows
pub record HasSameMeaning (X Y : List Probe) : Type 0 where
  pub whole : (T : Tables) (w : Window) → window_meaning X T w ≡ window_meaning Y T w
  pub without : (seen : Doc → Bool) (T : Tables) (w : Window) → meaning_without seen X T w ≡ meaning_without seen Y T w

-- repeats find nothing new
abbrev pub RepeatsFindNothingNew : Type 0
RepeatsFindNothingNew = (X : List Probe) → HasSameMeaning (distinct_probes X) X

-- each distinct probe is one of the probes
abbrev pub DistinctAreAmong : Type 0
DistinctAreAmong = (X : List Probe) (p : Probe) → In p (distinct_probes X) → In p X
