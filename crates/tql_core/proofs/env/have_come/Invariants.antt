use Rattle.std.proofs.Common.{◌≡◌, drop}
use Rattle.std.specs.Prelude.{int_le}
use Rattle.std.specs.List.{list_all}
use Rattle.tql_core.specs.Row.{arrival}
use Rattle.tql_core.specs.Bindings.{bounds_of}
use Rattle.tql_core.proofs.env.have_come.Given as goal

abbrev pub invariant-loop-slot : goal.invariant-loop-slot
invariant-loop-slot l = list_all (λ bound. int_le (arrival bound.row) l.second) (bounds_of l.slots)
    ≡ list_all (λ bound. int_le (arrival bound.row) l.second) (bounds_of (drop l.slot-index l.slots))
