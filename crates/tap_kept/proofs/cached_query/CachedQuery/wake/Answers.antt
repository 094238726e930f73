use Rattle.std.proofs.Common.{rules}
use Rattle.tap_kept.proofs.FindLaws.{work-next, plain-next}
use Rattle.tap_kept.proofs.cached_query.CachedQuery.wake.Goals as goal

pub returns-clause-steps : goal.returns-clause-steps
returns-clause-steps g c =
    work-next c.plan.result.now.query c.args.index.now c.args.self.now _ _ _ c.plan.ensures.query (search rules) c.wake.ensures.steps

pub returns-clause-plain : goal.returns-clause-plain
returns-clause-plain g c =
    plain-next c.plan.result.now.query c.args.index.now c.args.self.now _ _ _ c.plan.ensures.query (search rules) c.wake.ensures.plain
