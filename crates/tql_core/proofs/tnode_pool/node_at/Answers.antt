use Rattle.tql_core.proofs.Growth.{at_node}
use Rattle.tql_core.proofs.tnode_pool.node_at.Goals as goal

pub returns-clause-says : goal.returns-clause-says
returns-clause-says c = at_node c.args.pool.now c.args.id.0 c.get.result.now c.get.ensures.is_pool c.get.ensures.node

pub returns-clause-parts : goal.returns-clause-parts
returns-clause-parts c = c.get.ensures.is_pool.behind c.args.id.0 c.get.result.now c.get.ensures.node
