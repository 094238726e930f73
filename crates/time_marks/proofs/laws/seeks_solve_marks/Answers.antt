use Rattle.time_marks.proofs.SeekLaws.{solved}
use Rattle.time_marks.proofs.laws.seeks_solve_marks.Goals as goal

pub returns : goal.returns
returns c = solved
