use Rattle.tql_core.proofs.Growth.{at_node}
use Rattle.tql_core.proofs.laws.nodes_say_their_parts.Goals as goal

pub returns : goal.returns
returns c = at_node
