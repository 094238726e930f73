use Rattle.std.proofs.Common.{length}
use Rattle.query_tests.proofs.index_tests.count.Given as goal

abbrev pub decreases-loop-n : goal.decreases-loop-n
decreases-loop-n g l = length l.rows
