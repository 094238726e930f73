use Rattle.tql_core.proofs.Growth.{keeps_trees, node_added}
use Rattle.tql_core.proofs.tnode_pool.intern_node.Goals as goal

pub returns-clause-kept : goal.returns-clause-kept
returns-clause-kept c = keeps_trees c.args.pool.now c.intern.new.self c.len.ensures.is_pool c.in_ok-id.ensures.extends

pub returns-clause-tree : goal.returns-clause-tree
returns-clause-tree c = node_added c.args.pool.now c.intern.new.self c.in_ok-id.id.0 c.args.node c.len.ensures.is_pool
    c.in_ok-id.ensures.is_pool c.in_ok-id.ensures.extends c.requires c.in_ok-id.ensures.found
