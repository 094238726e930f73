use Rattle.std.proofs.Common.{◌≡◌, ◌<◌, true, length}
use Rattle.node_pool.specs.Pools.{are_below}
use Rattle.node_pool.proofs.Interned.{interned}
use Rattle.node_pool.proofs.pool.Pool.intern.Goals as goal

pub invariant_of-self-2 : goal.invariant_of-self-2
invariant_of-self-2 g c =
    let nodes = c.self.inside.nodes.keys in
    let below : are_below (length nodes) (g.N.PoolNode.kids c.args.node) ≡ true = rw c.self.view_is c.requires.kids in
    let room : length nodes < 4294967295 = rw c.self.view_is c.requires.room in
    interned g.N.PoolNode.kids g.N.PartialEq.eq nodes c.args.node c.self.invariant _ (g.met.N.Eq.laws.refl c.args.node) below room
    c.in_ok-index.ensures.keys

pub returns-clause-is_pool : goal.returns-clause-is_pool
returns-clause-is_pool g c = invariant_of-self-2 g c
