-- Conditions whose truth of a document is the same at every second.
use Rattle.std.specs.Prelude.{Bool, ◌&&◌, int_le, int_lt, ℤ, Option, Some, None, if◌then◌else◌}
use Rattle.tap_rows.specs.declared.rows.Doc.{Doc}
use Rattle.tap_rows.specs.declared.results.Hit.{Hit}

-- a document with its arrival as its first second
abbrev pub at_arrival : Doc → Option Hit
at_arrival doc = Some (record { doc = doc.num; first = doc.arrival })

-- the hit of a document for which such a condition holds: its arrival, if that is from tau on and below t
abbrev pub arrival_hit : (Doc → Bool) → ℤ → ℤ → Doc → Option Hit
arrival_hit holds tau t doc = if holds doc && int_le tau doc.arrival && int_lt doc.arrival t then at_arrival doc else None
