use Rattle.std.proofs.Common.{length}
use Rattle.probe_eval.proofs.lists.+shortest_after.Given as goal

abbrev pub decreases-shortest_after : goal.decreases-shortest_after
decreases-shortest_after l = length l.accesses.now
