use Rattle.monotone_rewrite.proofs.Growing.{union_is_least}
use Rattle.monotone_rewrite.proofs.laws.the_union_is_least.Goals as goal

pub returns : goal.returns
returns c = union_is_least
