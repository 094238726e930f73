-- Durations: how far a time is shifted.
use Rattle.std.specs.Prelude.{ℕ, ℤ, pos, neg_ℤ, ◌*ℤ◌, ◌&&◌, int_le, int_lt, Option, Some, None, if◌then◌else◌}
use Rattle.tql_tree.specs.declared.shift.Unit.{Unit}
use Rattle.tql_tree.specs.declared.shift.Unit.TheVariants.{Seconds, Minutes, Hours, Days}
use Rattle.tql_tree.specs.declared.shift.Shift.{Shift}
use Rattle.tql_types.specs.declared.fault.TypeFault.{TypeFault}
use Rattle.tql_types.specs.declared.fault.TypeFault.TheVariants.{BigSpan, Clash}

-- how many seconds a unit has
abbrev pub seconds_of : Unit → ℕ
seconds_of Seconds = 1
seconds_of Minutes = 60
seconds_of Hours = 3600
seconds_of Days = 86400

-- how many seconds a shift counts
abbrev pub span_of : Shift → ℤ
span_of shift = shift.count *ℤ pos (seconds_of shift.unit)

-- the fault of a duration of more than 100,000,000,000 seconds
abbrev pub span_fault : Option Shift → Option TypeFault
span_fault None = None
span_fault (Some shift) = if int_lt (pos 100000000000) (span_of shift) then Some (BigSpan shift.count_place) else None

-- the fault of a shift that may not stand here
abbrev pub shift_fault : Option Shift → Option TypeFault
shift_fault None = None
shift_fault (Some shift) = Some (Clash shift.place)

-- that many seconds if a duration may have them, and else 0
abbrev pub kept_span : ℤ → ℤ
kept_span n = if int_le (pos 0) n && int_le n (pos 100000000000) then n else pos 0

-- how far a shift moves a time: backwards below 0
abbrev pub amount_of : Option Shift → ℤ
amount_of None = pos 0
amount_of (Some shift) = if shift.back then neg_ℤ (kept_span (span_of shift)) else kept_span (span_of shift)
