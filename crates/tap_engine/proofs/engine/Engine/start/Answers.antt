use Rattle.std.proofs.lemmas.Result.{IfErr-weaker}
use Rattle.tap_engine.proofs.StartedLaws.{only-memory}
use Rattle.tap_engine.proofs.engine.Engine.start.Goals as goal

pub returns-clause-kept : goal.returns-clause-kept
returns-clause-kept c =
    λ store. IfErr-weaker c.build.result _ _ (λ fault e. only-memory c.args.sound.filters fault store.rules e) c.build.ensures.fault
