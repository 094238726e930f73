use Rattle.std.proofs.Common.{length}
use Rattle.probe_eval.proofs.narrow.+shortest_on.Given as goal

abbrev pub decreases-shortest_on : goal.decreases-shortest_on
decreases-shortest_on l = length l.path.now
