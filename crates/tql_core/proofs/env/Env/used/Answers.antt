use Rattle.std.proofs.Common.{◌∙◌}
use Rattle.tql_core.proofs.Slots.{used-bounds}
use Rattle.tql_core.proofs.env.Env.used.Goals as goal

pub returns : goal.returns
returns c = used-bounds c.self.inside.slots c.self.inside.start c.self.invariant.0 ∙ c.self.view_is
