-- Shifts that no sum takes out of 64 bits.
use Rattle.std.specs.Prelude.{pos, negsuc, ◌≤ℤ◌}
use Rattle.tql_types.specs.declared.clock.Clock.{Clock}
use Rattle.tql_types.specs.declared.clock.Clock.TheVariants.{At, Now, Today}

-- a time or a shift that an expression can have
abbrev pub IsNearClock : Clock → Type 0
IsNearClock (At term) = (negsuc 99999999999 ≤ℤ term.plus) × (term.plus ≤ℤ pos 350000000000)
IsNearClock (Now a) = (negsuc 99999999999 ≤ℤ a) × (a ≤ℤ pos 100000000000)
IsNearClock (Today a) = (negsuc 99999999999 ≤ℤ a) × (a ≤ℤ pos 100000000000)
