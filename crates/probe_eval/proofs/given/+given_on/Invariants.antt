use Rattle.std.proofs.Common.{length}
use Rattle.probe_eval.proofs.given.+given_on.Given as goal

abbrev pub decreases-given_on : goal.decreases-given_on
decreases-given_on l = length l.path.now
