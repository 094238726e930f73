use Rattle.probe_eval.proofs.PairLaws.{probes_test_pairs as law}
use Rattle.probe_eval.proofs.laws.probes_test_pairs.Goals as goal

pub returns : goal.returns
returns c = law
