use Rattle.std.proofs.Common.{length}
use Rattle.probe_eval.proofs.given.+given_of.Given as goal

abbrev pub decreases-given_of : goal.decreases-given_of
decreases-given_of l = length l.guards.now
