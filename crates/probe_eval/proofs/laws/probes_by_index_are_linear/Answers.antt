use Rattle.probe_eval.proofs.LinearLaws.{probes_by_index_are_linear}
use Rattle.probe_eval.proofs.laws.probes_by_index_are_linear.Goals as goal

pub returns : goal.returns
returns c = probes_by_index_are_linear
