use Rattle.std.proofs.Common.{length}
use Rattle.probe_eval.proofs.narrow.+cut_guards.Given as goal

abbrev pub decreases-cut_guards : goal.decreases-cut_guards
decreases-cut_guards l = length l.guards.now
