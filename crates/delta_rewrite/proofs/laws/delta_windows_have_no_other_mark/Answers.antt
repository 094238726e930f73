use Rattle.delta_rewrite.proofs.SameMarks.{no_other_mark}
use Rattle.delta_rewrite.proofs.laws.delta_windows_have_no_other_mark.Goals as goal

pub returns : goal.returns
returns c = no_other_mark
