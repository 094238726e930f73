use Rattle.std.proofs.Common.{◌≡◌, length}
use Rattle.probe_eval.specs.RowWalks.{each_left}
use Rattle.probe_eval.proofs.row_walk.next_of_each.Given as goal

-- no row was left of the texts before
abbrev pub invariant-texts : goal.invariant-texts
invariant-texts g l = record {
  rows : each_left l.fn.walk ≡ each_left l.walk;
  steps : l.steps ≡ l.fn.steps;
}

abbrev pub decreases-texts : goal.decreases-texts
decreases-texts g l = length l.walk.texts.now
