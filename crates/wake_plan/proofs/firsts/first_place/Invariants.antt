use Rattle.std.proofs.Common.{drop}
use Rattle.std.specs.Prelude.{◌⊎◌}
use Rattle.tap_rows.specs.Kept.{In}
use Rattle.wake_plan.specs.declared.turn.Turn.{Turn}
use Rattle.wake_plan.specs.Turns.{due_mark}
use Rattle.wake_plan.specs.Firsts.{IsBehind, IsPlace}
use Rattle.wake_plan.proofs.firsts.first_place.Given as goal

abbrev pub invariant-loop-index : goal.invariant-loop-index
invariant-loop-index l = record {
  stands : IsPlace l.turns l.first;
  least : (t : Turn) → In t l.turns → IsBehind l.first (due_mark t.next) ⊎ In t (drop l.index l.turns);
}
