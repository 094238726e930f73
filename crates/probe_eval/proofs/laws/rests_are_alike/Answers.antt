use Rattle.probe_eval.proofs.AlikeRows.{rests_are_alike as law}
use Rattle.probe_eval.proofs.laws.rests_are_alike.Goals as goal

pub returns : goal.returns
returns c = law
