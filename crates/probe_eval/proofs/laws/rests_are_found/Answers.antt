use Rattle.probe_eval.proofs.RestLaws.{rests_are_found as law}
use Rattle.probe_eval.proofs.laws.rests_are_found.Goals as goal

pub returns : goal.returns
returns c = law
