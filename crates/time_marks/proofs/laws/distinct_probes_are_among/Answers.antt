use Rattle.time_marks.proofs.Repeats.{distinct_among}
use Rattle.time_marks.proofs.laws.distinct_probes_are_among.Goals as goal

pub returns : goal.returns
returns c = distinct_among
