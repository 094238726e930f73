use Rattle.tql_core.proofs.Growth.{tree_extends}
use Rattle.tql_core.proofs.laws.trees_stay.Goals as goal

pub returns : goal.returns
returns c = tree_extends
