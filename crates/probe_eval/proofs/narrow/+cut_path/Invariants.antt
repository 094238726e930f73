use Rattle.std.proofs.Common.{length}
use Rattle.probe_eval.proofs.narrow.+cut_path.Given as goal

abbrev pub decreases-cut_path : goal.decreases-cut_path
decreases-cut_path l = length l.path.now
