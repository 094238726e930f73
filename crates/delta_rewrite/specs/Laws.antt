-- What is proved of delta windows.
use Rattle.std.specs.Prelude.{◌≡◌, ℤ, pos, ◌≤ℤ◌}
use Rattle.tap_rows.specs.Kept.{In}
use Rattle.tql_core.specs.Condition.{Condition}
use Rattle.tql_core.specs.Scope.{IsQuery}
use Rattle.time_marks.specs.Probes.{Probe}
use Rattle.monotone_rewrite.specs.Query.{window}
use Rattle.monotone_rewrite.specs.Laws.{IsUnionOf, AreProbes}
use Rattle.delta_rewrite.specs.Delta.{delta_window}

-- the delta window finds what the condition gives at each second from the start on, with first seconds, and since each moment what
-- is fresh
abbrev pub DeltaIsUnion : Type 0
DeltaIsUnion = (c : Condition) (start : ℤ) → IsQuery c → pos 0 ≤ℤ start → IsUnionOf c start (delta_window c start)

-- its probes bind and name their variables as they should
abbrev pub DeltaKeepsScopes : Type 0
DeltaKeepsScopes = (c : Condition) (start : ℤ) → IsQuery c → AreProbes (delta_window c start)

-- the probe of a delta window has the path and the mark of a probe of the window
abbrev pub DeltaHasNoOtherMark : Type 0
DeltaHasNoOtherMark =
    (c : Condition) (start : ℤ) → IsQuery c → (p : Probe) → In p (delta_window c start)
    → (q : Probe) × In q (window c start) × (q.path ≡ p.path) × (q.at ≡ p.at)
