use Rattle.std.proofs.Common.{length}
use Rattle.probe_eval.proofs.narrow.+shortest_by.Given as goal

abbrev pub decreases-shortest_by : goal.decreases-shortest_by
decreases-shortest_by l = length l.guards.now
