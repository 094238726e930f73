use Rattle.time_marks.proofs.Crossing.{crossing}
use Rattle.time_marks.proofs.laws.truth_changes_at_marks.Goals as goal

pub returns : goal.returns
returns c = crossing
