use Rattle.std.proofs.Common.{rules}
use Rattle.tap_model.specs.Stories.{next_tables}
use Rattle.tap_model.proofs.SoundLaws.{sound-for, step-sound}
use Rattle.tap_top.specs.Points.{EngineMatchesKeeper}
use Rattle.tap_top.specs.Samples.{Adds}
use Rattle.tap_top.proofs.Samples.{Performed-one, FirstPerformed-one, NextUncommitted-one, Adds-one}
use Rattle.tap_top.proofs.sampled.perform_one.Goals as goal

pub returns-in-Err-KeeperFailed-clause-keeper : goal.returns-in-Err-KeeperFailed-clause-keeper
returns-in-Err-KeeperFailed-clause-keeper g c = λ _ t honest at.
    let sound = sound-for c.args.command t c.args.engine.now.session at.sound in
    let crash = c.in-Err-KeeperFailed.ensures.stores.crash t at.represents sound honest at.holds in
    NextUncommitted-one t _ c.args.command _ at.sound crash.0 (c.in-Err-KeeperFailed.ensures.keeper.adds t at.represents sound) crash.1

pub returns-in-Some-clause-ok : goal.returns-in-Some-clause-ok
returns-in-Some-clause-ok g c = λ t honest at.
    let step = c.in-Ok.ensures.answer.step t at.represents (sound-for c.args.command t c.args.engine.now.session at.sound) in
    let there : EngineMatchesKeeper c.perform.new.self (g.P.Keeper.tells c.perform.new.keeper) (g.P.Keeper.may_leave c.perform.new.keeper)
    (next_tables c.args.command c.in-Ok.reply c.args.engine.now.session t) =
    record {
      represents = c.in-Ok.ensures.answer.represents t at.represents (sound-for c.args.command t c.args.engine.now.session at.sound);
      sound = step-sound t c.args.engine.now.session c.args.command c.in-Ok.reply
          (next_tables c.args.command c.in-Ok.reply c.args.engine.now.session t) c.perform.new.self.session step at.sound;
      holds = c.in-Ok.ensures.stores.kept t at.represents (sound-for c.args.command t c.args.engine.now.session at.sound) honest at.holds;
    } in
    Performed-one t _
    c.args.command c.in-Ok.reply (λ replies x. EngineMatchesKeeper c.perform.new.self (g.P.Keeper.tells c.perform.new.keeper)
    (g.P.Keeper.may_leave c.perform.new.keeper) x × Adds c.args.tally c.in-Some.tally replies) _ _ at.sound step (
      there,
      Adds-one c.args.tally c.in-Some.tally c.in-Ok.reply c.in-Some.ensures.refused c.in-Some.ensures.delivered c.in-Some.ensures.able,
    )

pub returns-clause-memory : goal.returns-clause-memory
returns-clause-memory g c = λ _ t honest at.
    FirstPerformed-one t _ c.args.command c.in-Ok.reply _ (next_tables c.args.command c.in-Ok.reply c.args.engine.now.session t) _
    at.sound (c.in-Ok.ensures.answer.step t at.represents (sound-for c.args.command t c.args.engine.now.session at.sound))
    (c.in-Ok.ensures.stores.kept t at.represents (sound-for c.args.command t c.args.engine.now.session at.sound) honest at.holds)

pub returns-in-Err-KeeperFailed-clause-leaves : goal.returns-in-Err-KeeperFailed-clause-leaves
returns-in-Err-KeeperFailed-clause-leaves g c = record {
  cause = search rules;
  stopped = search rules;
  keeper = search rules;
  version = λ t honest at. c.in-Err-KeeperFailed.ensures.stores.version t
      at.represents (sound-for c.args.command t c.args.engine.now.session at.sound) honest at.holds.told;
}

pub returns-in-Some-clause-leaves : goal.returns-in-Some-clause-leaves
returns-in-Some-clause-leaves g c = record {
  cause = search rules;
  stopped = search rules;
  keeper = search rules;
  version = λ t honest at.
      c.in-Ok.ensures.stores.version t at.represents (sound-for c.args.command t c.args.engine.now.session at.sound) honest at.holds.told;
}

pub returns-clause-leaves : goal.returns-clause-leaves
returns-clause-leaves g c = record {
  cause = search rules;
  stopped = search rules;
  keeper = search rules;
  version = λ t honest at.
      c.in-Ok.ensures.stores.version t at.represents (sound-for c.args.command t c.args.engine.now.session at.sound) honest at.holds.told;
}
