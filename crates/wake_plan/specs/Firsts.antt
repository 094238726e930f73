-- The turn with the least mark.
use Rattle.std.specs.Prelude.{◌≡◌, ℕ, ◌≤ℤ◌, ℤ, Option, Some, None, List, int_lt, slice_get, if◌then◌else◌}
use Rattle.tap_rows.specs.Kept.{In}
use Rattle.wake_plan.specs.declared.firsts.FirstPlace.{FirstPlace}
use Rattle.wake_plan.specs.declared.turn.Turn.{Turn}
use Rattle.wake_plan.specs.Turns.{due_mark}

-- the place of the lesser mark, of two the earlier place
abbrev pub nearer : Option FirstPlace → ℕ → Option ℤ → Option FirstPlace
nearer first i None = first
nearer None i (Some b) = Some (record { index = i; mark = b })
nearer (Some x) i (Some b) = if int_lt b x.mark then Some (record { index = i; mark = b }) else Some x

-- the mark is no greater than this one, if there is one
abbrev pub IsNoLater : ℤ → Option ℤ → Type 0
IsNoLater b None = Unit {0}
IsNoLater b (Some c) = b ≤ℤ c

-- no mark is less than that of the place; if there is no place, there is no mark
abbrev pub IsBehind : Option FirstPlace → Option ℤ → Type 0
IsBehind None mark = mark ≡ None
IsBehind (Some x) mark = IsNoLater x.mark mark

-- the turn at the place has the mark
pub record StandsAt (turns : List Turn) (x : FirstPlace) : Type 0 where
  pub turn : Turn
  pub at : slice_get turns x.index ≡ Some turn
  pub mark : due_mark turn.next ≡ Some x.mark

-- if there is a place, its turn has the mark
abbrev pub IsPlace : List Turn → Option FirstPlace → Type 0
IsPlace turns None = Unit {0}
IsPlace turns (Some x) = StandsAt turns x

-- the place of the turn with the least mark
pub record IsFirst (turns : List Turn) (first : Option FirstPlace) : Type 0 where
  pub stands : IsPlace turns first
  pub least : (t : Turn) → In t turns → IsBehind first (due_mark t.next)
