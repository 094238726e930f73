-- The places of faults, and which of two comes first.
use Rattle.std.specs.Prelude.{ℕ, Option, Some, None, nat_le, if◌then◌else◌}
use Rattle.tql_types.specs.declared.fault.TypeFault.{TypeFault}
use Rattle.tql_types.specs.declared.fault.TypeFault.TheVariants.{NoVar, NoField, Clash, Shadow, BadTime, BigSpan, ManyVars, ManyNodes}
use Rattle.tql_types.specs.declared.fault.TypeFault.TheVariants.{Memory}

-- the place of a fault, or 0 if it has none
abbrev pub type_fault_place : TypeFault → ℕ
type_fault_place (NoVar place) = place
type_fault_place (NoField place) = place
type_fault_place (Clash place) = place
type_fault_place (Shadow place) = place
type_fault_place (BadTime place) = place
type_fault_place (BigSpan place) = place
type_fault_place (ManyVars place) = place
type_fault_place ManyNodes = 0
type_fault_place Memory = 0

-- the fault at the lesser place; at one place the first of the two
abbrev pub sooner : Option TypeFault → Option TypeFault → Option TypeFault
sooner None other = other
sooner (Some fault) None = Some fault
sooner (Some fault) (Some other) = if nat_le (type_fault_place fault) (type_fault_place other) then Some fault else Some other
