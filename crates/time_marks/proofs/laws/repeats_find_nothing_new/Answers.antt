use Rattle.time_marks.proofs.Repeats.{repeats_find_nothing}
use Rattle.time_marks.proofs.laws.repeats_find_nothing_new.Goals as goal

pub returns : goal.returns
returns c = repeats_find_nothing
