use Rattle.std.proofs.Common.{length}
use Rattle.query_tests.proofs.index_tests.docs_found.Given as goal

abbrev pub decreases-docs : goal.decreases-docs
decreases-docs g l = length l.all
