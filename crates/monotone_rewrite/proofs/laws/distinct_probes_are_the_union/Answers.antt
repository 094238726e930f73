use Rattle.monotone_rewrite.proofs.Windows.{distinct_is_union}
use Rattle.monotone_rewrite.proofs.laws.distinct_probes_are_the_union.Goals as goal

pub returns : goal.returns
returns c = distinct_is_union
