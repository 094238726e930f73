use Rattle.std.proofs.Common.{rules, ◌≡◌, ◌∙◌, sym, ap, subst, true, false, Some}
use Rattle.std.proofs.lemmas.Bool.{false≢true}
use Rattle.tap_rows.specs.declared.tables.Tables.{Tables}
use Rattle.keeper_core.specs.Keeping.{IsDurable}
use Rattle.tap_engine.specs.Answering.{Answers, AddsRows, IsUnchangedButHits}
use Rattle.tap_engine.proofs.PerformLaws.{memory-gives, memory-step, rows-fit, rows-next, fault-step, fault-gives, prepared-apart}
use Rattle.tap_engine.proofs.PerformLaws.{refused-gives, fault-represents, fault-kept, fault-untouched, on-err, one-of, taken-there}
use Rattle.tap_engine.proofs.engine.Engine.perform.Goals as goal

pub returns-in_default-clause-keeper : goal.returns-in_default-clause-keeper
returns-in_default-clause-keeper g c = record {
  adds = search rules;
  cause = search rules;
  stopped = search rules;
  halted = c.in-Ok.ensures.ok.running ∙ c.requires.running ∙ sym c.requires.attached.running;
  same = search rules;
  later = search rules;
  calm = search rules;
  honest = search rules;
}

pub returns-in-Ok-commit-clause-stores : goal.returns-in-Ok-commit-clause-stores
returns-in-Ok-commit-clause-stores g c = record {
  kept = λ t represents sound honest holds.
      let answers :
      Answers t c.args.self.now.session c.args.command c.in-Ok.prepared.reply (Some c.in-Some.change) c.prepare.new.self.session =
      subst (λ change. Answers t c.args.self.now.session c.args.command c.in-Ok.prepared.reply change c.prepare.new.self.session)
      c.in-Some.is (c.in-Ok.ensures.ok.answer t represents sound) in
      subst (IsDurable (g.P.Keeper.tells c.commit.new.self) (g.P.Keeper.may_leave c.commit.new.self))
      (rows-next t c.args.self.now.session c.args.command c.in-Ok.prepared.reply c.in-Some.change c.prepare.new.self.session answers)
      (c.in-Ok-commit.ensures.ok honest t holds.told
      (rows-fit t c.args.self.now.session c.args.command c.in-Ok.prepared.reply c.in-Some.change c.prepare.new.self.session sound answers));
  untouched = λ refused. absurd (false≢true (sym refused ∙ c.in-Ok.ensures.ok.accepted));
  crash = search rules;
  version = λ t represents sound honest told running version has.
      let answers :
      Answers t c.args.self.now.session c.args.command c.in-Ok.prepared.reply (Some c.in-Some.change) c.prepare.new.self.session =
      subst (λ change. Answers t c.args.self.now.session c.args.command c.in-Ok.prepared.reply change c.prepare.new.self.session)
      c.in-Some.is (c.in-Ok.ensures.ok.answer t represents sound) in
      let fit = rows-fit t c.args.self.now.session c.args.command c.in-Ok.prepared.reply c.in-Some.change c.prepare.new.self.session sound
      answers in
      c.in-Ok-commit.ensures.version honest t told fit version has running;
}

pub returns-in-Err-commit-clause-answer : goal.returns-in-Err-commit-clause-answer
returns-in-Err-commit-clause-answer g c = record {
  step = λ t represents sound.
      let answers :
      Answers t c.args.self.now.session c.args.command c.in-Ok.prepared.reply (Some c.in-Some.change) c.prepare.new.self.session =
      subst (λ change. Answers t c.args.self.now.session c.args.command c.in-Ok.prepared.reply change c.prepare.new.self.session)
      c.in-Some.is (c.in-Ok.ensures.ok.answer t represents sound) in
      let takes = taken-there c.in-Ok.prepared.undo c.prepare.new.self c.args.self.now c.in-Ok.prepared.change c.in-Some.change c.in-Some.is
      c.in-Ok.ensures.ok.undo in
      fault-step c.in-Err-commit.fault t c.args.self.now c.undo_rows.new.self c.not_committed.new.self c.args.command
      c.not_committed.result c.not_committed.ensures.0 c.not_committed.ensures.1
      (ap (λ e. e.session) (c.undo_rows.ensures ∙ takes.before_is.same))
      (memory-step t c.args.self.now.session c.args.command c.in-Ok.prepared.reply c.in-Some.change c.prepare.new.self.session answers);
  represents = λ t represents sound.
      let takes = taken-there c.in-Ok.prepared.undo c.prepare.new.self c.args.self.now c.in-Ok.prepared.change c.in-Some.change c.in-Some.is
      c.in-Ok.ensures.ok.undo in
      fault-represents c.in-Err-commit.fault t c.args.self.now c.undo_rows.new.self c.not_committed.new.self c.args.command
      c.not_committed.result c.not_committed.ensures.0 c.not_committed.ensures.1
      (subst (λ k. IsUnchangedButHits k c.args.self.now) (sym c.undo_rows.ensures) takes.before_is) represents;
  memory = λ t represents sound proper.
      let answers :
      Answers t c.args.self.now.session c.args.command c.in-Ok.prepared.reply (Some c.in-Some.change) c.prepare.new.self.session =
      subst (λ change. Answers t c.args.self.now.session c.args.command c.in-Ok.prepared.reply change c.prepare.new.self.session)
      c.in-Some.is (c.in-Ok.ensures.ok.answer t represents sound) in
      let takes = taken-there c.in-Ok.prepared.undo c.prepare.new.self c.args.self.now c.in-Ok.prepared.change c.in-Some.change c.in-Some.is
      c.in-Ok.ensures.ok.undo in
      fault-gives c.in-Err-commit.fault t c.args.self.now c.undo_rows.new.self c.not_committed.new.self c.args.command
      c.not_committed.result c.not_committed.ensures.0 c.not_committed.ensures.1
      (ap (λ e. e.session) (c.undo_rows.ensures ∙ takes.before_is.same))
      (memory-gives t c.args.self.now.session c.args.command c.in-Ok.prepared.reply c.in-Some.change c.prepare.new.self.session answers);
  refused = search rules;
  short = search rules;
  ready = search rules;
}

pub returns-in-Err-commit-clause-stores : goal.returns-in-Err-commit-clause-stores
returns-in-Err-commit-clause-stores g c = record {
  kept = λ t represents sound honest holds.
      fault-kept c.in-Err-commit.fault (IsDurable (g.P.Keeper.tells c.commit.new.self) (g.P.Keeper.may_leave c.commit.new.self)) t
      c.args.self.now.session c.args.command c.not_committed.result c.not_committed.ensures.0
      (c.in-Err-commit.ensures.memory honest t holds.told);
  untouched = fault-untouched c.in-Err-commit.fault
      (g.P.Keeper.honest c.commit.new.self → (t : Tables) → g.P.Keeper.tells c.args.keeper.now t
      → IsDurable (g.P.Keeper.tells c.commit.new.self) (g.P.Keeper.may_leave c.commit.new.self) t)
      c.not_committed.result c.not_committed.ensures.0
      (λ is honest t tells. c.in-Err-commit.ensures.memory honest t tells is);
  crash = λ t represents sound honest holds.
      let answers :
      Answers t c.args.self.now.session c.args.command c.in-Ok.prepared.reply (Some c.in-Some.change) c.prepare.new.self.session =
      subst (λ change. Answers t c.args.self.now.session c.args.command c.in-Ok.prepared.reply change c.prepare.new.self.session)
      c.in-Some.is (c.in-Ok.ensures.ok.answer t represents sound) in
      let fit = rows-fit t c.args.self.now.session c.args.command c.in-Ok.prepared.reply c.in-Some.change c.prepare.new.self.session sound
      answers in
      on-err c.not_committed.result (
        answers.fine,
        λ x leaves. one-of t x c.args.self.now.session c.args.command c.in-Ok.prepared.reply
            c.in-Some.change c.prepare.new.self.session answers (c.in-Err-commit.ensures.crash honest t holds.told fit x leaves),
      );
  version = λ t represents sound honest told running version has.
      let answers :
      Answers t c.args.self.now.session c.args.command c.in-Ok.prepared.reply (Some c.in-Some.change) c.prepare.new.self.session =
      subst (λ change. Answers t c.args.self.now.session c.args.command c.in-Ok.prepared.reply change c.prepare.new.self.session)
      c.in-Some.is (c.in-Ok.ensures.ok.answer t represents sound) in
      let fit = rows-fit t c.args.self.now.session c.args.command c.in-Ok.prepared.reply c.in-Some.change c.prepare.new.self.session sound
      answers in
      c.in-Err-commit.ensures.version honest t told fit version has running;
}

pub returns-in-Err-commit-clause-keeper : goal.returns-in-Err-commit-clause-keeper
returns-in-Err-commit-clause-keeper g c = record {
  adds = λ t represents sound.
      let answers :
      Answers t c.args.self.now.session c.args.command c.in-Ok.prepared.reply (Some c.in-Some.change) c.prepare.new.self.session =
      subst (λ change. Answers t c.args.self.now.session c.args.command c.in-Ok.prepared.reply change c.prepare.new.self.session)
      c.in-Some.is (c.in-Ok.ensures.ok.answer t represents sound) in
      let adds : AddsRows c.args.command c.args.self.now.session t =
      record { change = c.in-Some.change; change_is = sym answers.change_is } in
      on-err c.not_committed.result adds;
  cause = search rules;
  stopped = search rules;
  halted = search rules;
  same = search rules;
  later = search rules;
  calm = search rules;
  honest = search rules;
}

pub returns-in-Err-clause-answer : goal.returns-in-Err-clause-answer
returns-in-Err-clause-answer g c = record {
  step = search rules;
  represents = search rules;
  memory = λ t represents sound proper no_18.
      refused-gives t c.args.self.now.session c.args.command c.in-Err.refusal c.prepare.new.self.session proper
      (c.in-Err.ensures.refusal t represents sound) (ap (λ e. e.session) c.in-Err.ensures.err.same) no_18;
  refused = search rules;
  short = search rules;
  ready = search rules;
}

pub returns-in_default-clause-answer : goal.returns-in_default-clause-answer
returns-in_default-clause-answer g c = record {
  step = search rules;
  represents = search rules;
  memory = λ t represents sound proper no_18.
      absurd (prepared-apart t c.args.self.now.session c.args.command c.in-Ok.prepared.reply c.in-Ok.prepared.change
      c.prepare.new.self.session proper (c.in-Ok.ensures.ok.answer t represents sound) no_18);
  refused = search rules;
  short = search rules;
  ready = search rules;
}

pub returns-in-Ok-commit-clause-answer : goal.returns-in-Ok-commit-clause-answer
returns-in-Ok-commit-clause-answer g c = record {
  step = search rules;
  represents = search rules;
  memory = λ t represents sound proper no_18.
      absurd (prepared-apart t c.args.self.now.session c.args.command c.in-Ok.prepared.reply c.in-Ok.prepared.change
      c.prepare.new.self.session proper (c.in-Ok.ensures.ok.answer t represents sound) no_18);
  refused = search rules;
  short = search rules;
  ready = search rules;
}

pub returns-in-Err-clause-stores : goal.returns-in-Err-clause-stores
returns-in-Err-clause-stores g c = record {
  kept = search rules;
  untouched = λ refused honest t tells.
      record {
        told = tells;
        exact = λ x leaves. g.met.P.Keeper.exact c.args.keeper.now t x honest c.requires.attached.running tells leaves;
      };
  crash = search rules;
  version = search rules;
}

pub returns-in_default-clause-stores : goal.returns-in_default-clause-stores
returns-in_default-clause-stores g c = record {
  kept = search rules;
  untouched = λ refused. absurd (false≢true (sym refused ∙ c.in-Ok.ensures.ok.accepted));
  crash = search rules;
  version = search rules;
}
