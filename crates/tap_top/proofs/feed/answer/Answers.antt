use Rattle.std.proofs.Common.{rules}
use Rattle.tap_model.specs.Stories.{next_tables}
use Rattle.tap_model.proofs.SoundLaws.{sound-for, step-sound}
use Rattle.tap_top.specs.Points.{EngineMatchesKeeper}
use Rattle.tap_top.proofs.Stories.{Answered-one, CutOff-one, Uncommitted-one}
use Rattle.tap_top.proofs.feed.answer.Goals as goal

pub returns-in-Err-KeeperFailed-clause-cut : goal.returns-in-Err-KeeperFailed-clause-cut
returns-in-Err-KeeperFailed-clause-cut g c = record {
  put = search rules;
  uncommitted = λ _ t honest at.
      let sound = sound-for c.args.command t c.args.engine.now.session at.sound in
      let crash = c.in-Err-KeeperFailed.ensures.stores.crash t at.represents sound honest at.holds in
      Uncommitted-one t _ c.args.command _ _ at.sound crash.0 (c.in-Err-KeeperFailed.ensures.keeper.adds t at.represents sound) crash.1;
}

pub returns-in-Ok-put_reply-clause-ok : goal.returns-in-Ok-put_reply-clause-ok
returns-in-Ok-put_reply-clause-ok g c = λ t honest at.
    let step = c.in-Ok.ensures.answer.step t at.represents (sound-for c.args.command t c.args.engine.now.session at.sound) in
    let there : EngineMatchesKeeper c.perform.new.self (g.P.Keeper.tells c.perform.new.keeper) (g.P.Keeper.may_leave c.perform.new.keeper)
    (next_tables c.args.command c.in-Ok.reply c.args.engine.now.session t) =
    record {
      represents = c.in-Ok.ensures.answer.represents t at.represents (sound-for c.args.command t c.args.engine.now.session at.sound);
      sound = step-sound t c.args.engine.now.session c.args.command c.in-Ok.reply
          (next_tables c.args.command c.in-Ok.reply c.args.engine.now.session t) c.perform.new.self.session step at.sound;
      holds = c.in-Ok.ensures.stores.kept t at.represents (sound-for c.args.command t c.args.engine.now.session at.sound) honest at.holds;
    } in
    Answered-one t _ c.args.command c.in-Ok.reply _ _
    (EngineMatchesKeeper c.perform.new.self (g.P.Keeper.tells c.perform.new.keeper) (g.P.Keeper.may_leave c.perform.new.keeper)) _ _
    c.is_ok.result at.sound step c.in-Ok-put_reply.ensures.ok c.is_ok.ensures there

pub returns-clause-cut : goal.returns-clause-cut
returns-clause-cut g c = record {
  put = λ _ t honest at.
      CutOff-one t _ c.args.command c.in-Ok.reply _ _ _ (next_tables c.args.command c.in-Ok.reply c.args.engine.now.session t) _
      c.in-Err.field-0 at.sound
      (c.in-Ok.ensures.answer.step t at.represents (sound-for c.args.command t c.args.engine.now.session at.sound))
      c.in-Err.ensures.err
      (c.in-Ok.ensures.stores.kept t at.represents (sound-for c.args.command t c.args.engine.now.session at.sound) honest at.holds);
  uncommitted = search rules;
}

pub returns-in-Err-KeeperFailed-clause-leaves : goal.returns-in-Err-KeeperFailed-clause-leaves
returns-in-Err-KeeperFailed-clause-leaves g c = record {
  cause = search rules;
  stopped = search rules;
  keeper = search rules;
  version = λ t honest at. c.in-Err-KeeperFailed.ensures.stores.version t
      at.represents (sound-for c.args.command t c.args.engine.now.session at.sound) honest at.holds.told;
}

pub returns-in-Ok-put_reply-clause-leaves : goal.returns-in-Ok-put_reply-clause-leaves
returns-in-Ok-put_reply-clause-leaves g c = record {
  cause = search rules;
  stopped = search rules;
  keeper = search rules;
  version = λ t honest at.
      c.in-Ok.ensures.stores.version t at.represents (sound-for c.args.command t c.args.engine.now.session at.sound) honest at.holds.told;
}

pub returns-clause-leaves : goal.returns-clause-leaves
returns-clause-leaves g c = record {
  cause = search rules;
  stopped = search rules;
  keeper = search rules;
  version = λ t honest at.
      c.in-Ok.ensures.stores.version t at.represents (sound-for c.args.command t c.args.engine.now.session at.sound) honest at.holds.told;
}
