use Rattle.std.proofs.Common.{length}
use Rattle.query_tests.proofs.index_tests.notes_found.Given as goal

abbrev pub decreases-notes : goal.decreases-notes
decreases-notes g l = length l.all
