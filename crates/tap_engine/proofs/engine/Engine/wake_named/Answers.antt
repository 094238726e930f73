use Rattle.tap_model.specs.Sessions.{user_of}
use Rattle.tap_engine.proofs.ReadyLaws.{named-at}
use Rattle.tap_engine.proofs.engine.Engine.wake_named.Goals as goal

pub wake-requires-clause-covered : goal.wake-requires-clause-covered
wake-requires-clause-covered g c =
    (named-at (user_of c.args.self.now.session) c.args.name.now 1
    c.args.self.now.run_count c.args.self.now.queries c.in_ok-kept.kept.now c.requires.ready.queries c.in_ok-kept.ensures.ok).covered
