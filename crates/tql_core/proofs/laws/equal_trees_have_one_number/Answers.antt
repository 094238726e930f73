use Rattle.tql_core.proofs.Growth.{equal_trees}
use Rattle.tql_core.proofs.laws.equal_trees_have_one_number.Goals as goal

pub returns : goal.returns
returns c = equal_trees
