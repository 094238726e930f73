-- The rows that the code binds.
use Rattle.std.specs.Prelude.{ℕ, Option, Some, None, List, [], ◌∷◌}
use Rattle.tql_core.specs.declared.row_ref.RowRef.{RowRef}
use Rattle.tql_core.specs.declared.row_ref.RowRef.TheVariants as R
use Rattle.tql_core.specs.declared.env.Slot.{Slot}
use Rattle.tql_core.specs.declared.env.Slot.TheVariants as S
use Rattle.tql_core.specs.Values.{Env}
use Rattle.tql_core.specs.Row.{Row, OfDoc, OfNote}

-- the row that a borrowed one is
abbrev pub row_of : RowRef → Row
row_of (R.OfDoc d) = OfDoc d.now
row_of (R.OfNote n) = OfNote n.now

-- a borrowed row that may be absent
abbrev pub option_row : Option RowRef → Option Row
option_row None = None
option_row (Some r) = Some (row_of r)

-- the slot of a variable and its row
abbrev pub slot_of : ℕ → RowRef → Slot
slot_of v (R.OfDoc d) = S.OfDoc v d
slot_of v (R.OfNote n) = S.OfNote v n

-- the variables that the slots bind
abbrev pub bounds_of : List Slot → Env
bounds_of [] = []
bounds_of (S.Free ∷ rest) = bounds_of rest
bounds_of (S.OfDoc v d ∷ rest) = record { var = v; row = OfDoc d.now } ∷ bounds_of rest
bounds_of (S.OfNote v n ∷ rest) = record { var = v; row = OfNote n.now } ∷ bounds_of rest
