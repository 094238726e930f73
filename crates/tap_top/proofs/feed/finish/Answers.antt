use Rattle.tap_top.specs.Points.{EngineMatchesKeeper}
use Rattle.tap_top.proofs.Stories.{Answered-none}
use Rattle.tap_top.proofs.feed.finish.Goals as goal

pub returns-in-Ok-None-clause-ok : goal.returns-in-Ok-None-clause-ok
returns-in-Ok-None-clause-ok g c = λ t honest at.
    rw (c.in-Ok-None.ensures.rest, c.in-Ok-None.field-0-is) (Answered-none t _ _
    (EngineMatchesKeeper c.args.engine.now (g.P.Keeper.tells c.args.keeper.now) (g.P.Keeper.may_leave c.args.keeper.now)) at.sound at)
