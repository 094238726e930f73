use Rattle.std.proofs.Common.{◌≡◌, drop}
use Rattle.tql_core.specs.Values.{lookup}
use Rattle.tql_core.specs.Bindings.{bounds_of}
use Rattle.tql_core.proofs.env.row_in.Given as goal

abbrev pub invariant-loop-slot : goal.invariant-loop-slot
invariant-loop-slot l = lookup l.var (bounds_of l.slots) ≡ lookup l.var (bounds_of (drop l.slot-index l.slots))
