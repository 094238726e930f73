use Rattle.tql_core.proofs.Slots.{written-bounds, written-filled}
use Rattle.tql_core.proofs.env.Env.bind.Goals as goal

pub invariant_of-result : goal.invariant_of-result
invariant_of-result c =
    written-filled c.self.inside.slots c.self.inside.start c.slot_of.result c.args.var c.args.row c.args.self.now c.slot_of.ensures
    c.self.invariant.0 c.self.invariant.1 c.self.view_is c.requires

pub returns : goal.returns
returns c =
    written-bounds c.self.inside.slots c.self.inside.start c.slot_of.result c.args.var c.args.row c.args.self.now c.slot_of.ensures
    c.self.invariant.0 c.self.invariant.1 c.self.view_is c.requires
