use Rattle.time_marks.proofs.Repeats.{same_probe_is_equal}
use Rattle.time_marks.proofs.laws.the_test_is_equality.Goals as goal

pub returns : goal.returns
returns c = same_probe_is_equal
