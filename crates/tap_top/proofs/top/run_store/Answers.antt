use Rattle.std.proofs.Common.{rules, refl, sym, ap, subst, Err, inl, inr}
use Rattle.tap_model.specs.Sound.{IsStore}
use Rattle.tap_top.specs.Codes.{code_of}
use Rattle.tap_top.specs.Refusals.{fault_of}
use Rattle.tap_top.proofs.Codes.{refusal-code}
use Rattle.tap_top.proofs.Refusals.{fine-store, some-or-none, Refused-none, refused-for, not-stopped}
use Rattle.tap_top.proofs.Crashes.{leaves-stores, opened-at}
use Rattle.tap_top.proofs.Ends.{script-ends, refused-ends, failed-ends, unopened-ends}
use Rattle.tap_top.proofs.Versions.{run-not-two, exit-run, exit-refused, exit-failed, exit-memory}
use Rattle.peer_edges.proofs.Asks.{unasked}
use Rattle.tap_top.proofs.top.run_store.Goals as goal

pub returns-in-Ok-clause-script : goal.returns-in-Ok-clause-script
returns-in-Ok-clause-script g c = λ t honest holds store.
    let opened = c.run-status.ensures.leaves.keeper.before honest in
    let at = opened-at c.in-Ok.engine _ _ t c.in-Ok.ensures.session (c.in-Ok.ensures.represents opened t holds.told)
    (c.in-Ok.ensures.kept opened t holds.told c.in-Ok.ensures.can.attached.running) store in
    script-ends t _ _ _ _ (g.P.Keeper.has_version c.args.keeper.now) (g.P.Keeper.tells c.run-status.new.keeper)
    (g.P.Keeper.may_leave c.run-status.new.keeper)
    c.run-status.result c.run-status.ensures.statuses (c.run-status.ensures.ends t honest at)

pub returns-in-Ok-clause-kept : goal.returns-in-Ok-clause-kept
returns-in-Ok-clause-kept g c =
    λ t honest holds store x may. leaves-stores t _ _ _ _ _ _ store (returns-in-Ok-clause-script g c t honest holds store).crash x may

pub returns-in-Ok-clause-refusals : goal.returns-in-Ok-clause-refusals
returns-in-Ok-clause-refusals g c = record {
  refused = search rules;
  fine = search rules;
  known = search rules;
}

pub returns-in-Err-Refused-clause-script : goal.returns-in-Err-Refused-clause-script
returns-in-Err-Refused-clause-script g c = λ t honest holds store.
    refused-ends t _ _ _ _ (g.P.Keeper.has_version c.args.keeper.now) _ _ (code_of c.refuse.result) _
    (refusal-code c.refuse.result c.refuse.ensures.statuses)
    (λ v version known. absurd (some-or-none (fault_of v t) c.in-Err-Refused.fault (refused-for _ _ c.in-Err-Refused.fault
    c.in-Err-Refused.ensures.refused c.in-Err-Refused.field-0-is honest t holds.told v version) (fine-store t v store known)))
    refl c.refuse.ensures.line.written (c.in-Err-Refused.ensures.crash honest t holds.told)

pub returns-in-Err-Refused-clause-refusals : goal.returns-in-Err-Refused-clause-refusals
returns-in-Err-Refused-clause-refusals g c = record {
  refused = search rules;
  fine = search rules;
  known = λ t honest holds store v version known _.
      absurd (some-or-none (fault_of v t) c.in-Err-Refused.fault (refused-for _ _ c.in-Err-Refused.fault c.in-Err-Refused.ensures.refused
      c.in-Err-Refused.field-0-is honest t holds.told v version) (fine-store t v store known));
}

pub returns-in-Err-Keeper-clause-script : goal.returns-in-Err-Keeper-clause-script
returns-in-Err-Keeper-clause-script g c =
    λ t honest holds store. failed-ends t _ _ _ _ _ _ _ refl refl (c.in-Err-Keeper.ensures.crash honest t holds.told)

pub returns-in-Err-Keeper-clause-kept : goal.returns-in-Err-Keeper-clause-kept
returns-in-Err-Keeper-clause-kept g c =
    λ t honest holds store x may. subst IsStore (sym (c.in-Err-Keeper.ensures.crash honest t holds.told x may)) store

pub returns-in-Err-Keeper-clause-refusals : goal.returns-in-Err-Keeper-clause-refusals
returns-in-Err-Keeper-clause-refusals g c = record {
  refused = λ t honest holds v version fault is. Refused-none 5 fault _ _ _ _ _ _ t (inr (inr (inl refl))) (λ e. cc) refl refl
      (λ no. absurd (no refl)) (c.in-Err-Keeper.ensures.crash honest t holds.told);
  fine = search rules;
  known = search rules;
}

pub returns-in-Err-Memory-clause-script : goal.returns-in-Err-Memory-clause-script
returns-in-Err-Memory-clause-script g c =
    λ t honest holds store. unopened-ends t _ _ _ _ _ _ _ refl refl store (c.in-Err-Memory.ensures.kept honest t
    holds.told (not-stopped (g.P.Keeper.stopped c.open_store.new.keeper) c.in-Err-Memory.ensures.stopped.0 (λ e. cc)))

pub returns-in-Err-Memory-clause-refusals : goal.returns-in-Err-Memory-clause-refusals
returns-in-Err-Memory-clause-refusals g c = record {
  refused = λ t honest holds v version fault is.
      Refused-none 7 fault _ _ _ _ _ _ t (inr (inr (inr (inr refl)))) (λ e. cc) refl refl (λ _. (c.in-Err-Memory.ensures.kept honest t
      holds.told (not-stopped (g.P.Keeper.stopped c.open_store.new.keeper) c.in-Err-Memory.ensures.stopped.0 (λ e. cc))).told)
      (c.in-Err-Memory.ensures.crash honest t holds.told);
  fine = search rules;
  known = search rules;
}

pub returns-in-Ok-clause-version : goal.returns-in-Ok-clause-version
returns-in-Ok-clause-version g c = λ t honest holds store.
    let opened = c.run-status.ensures.leaves.keeper.before honest in
    let at = opened-at c.in-Ok.engine _ _ t c.in-Ok.ensures.session (c.in-Ok.ensures.represents opened t holds.told)
    (c.in-Ok.ensures.kept opened t holds.told c.in-Ok.ensures.can.attached.running) store in
    exit-run (code_of c.run-status.result) (g.P.Keeper.stopped c.run-status.new.keeper) (g.P.Keeper.has_version c.args.keeper.now)
    (g.P.Keeper.has_version c.run-status.new.keeper)
    (run-not-two c.run-status.result c.run-status.ensures.statuses) (λ halts. ap code_of (c.run-status.ensures.leaves.stopped.0 halts))
    (λ runs. c.run-status.ensures.leaves.version t honest at runs _ (c.in-Ok.ensures.version opened t holds.told))
    (c.in-Ok.ensures.known opened)

pub returns-in-Err-Refused-clause-version : goal.returns-in-Err-Refused-clause-version
returns-in-Err-Refused-clause-version g c = λ t honest holds store.
    exit-refused (code_of c.refuse.result) (g.P.Keeper.has_version c.args.keeper.now) (g.P.Keeper.has_version c.open_store.new.keeper)
    (refusal-code c.refuse.result c.refuse.ensures.statuses)
    (refused-for _ _ c.in-Err-Refused.fault c.in-Err-Refused.ensures.migrated c.in-Err-Refused.field-0-is honest t holds.told)

pub returns-in-Err-Keeper-clause-version : goal.returns-in-Err-Keeper-clause-version
returns-in-Err-Keeper-clause-version g c = λ t honest holds store. exit-failed 5 _ _ refl

pub returns-in-Err-Memory-clause-version : goal.returns-in-Err-Memory-clause-version
returns-in-Err-Memory-clause-version g c =
    λ t honest holds store. exit-memory _ _ (c.in-Err-Memory.ensures.memory (ap Err c.in-Err-Memory.field-0-is) honest t holds.told)

pub returns-in-Ok-clause-prompt : goal.returns-in-Ok-clause-prompt
returns-in-Ok-clause-prompt g c = λ t honest holds store.
    let opened = c.run-status.ensures.leaves.keeper.before honest in
    let at = opened-at c.in-Ok.engine _ _ t c.in-Ok.ensures.session (c.in-Ok.ensures.represents opened t holds.told)
    (c.in-Ok.ensures.kept opened t holds.told c.in-Ok.ensures.can.attached.running) store in
    c.run-status.ensures.prompt t honest at

pub returns-in-Err-Refused-clause-prompt : goal.returns-in-Err-Refused-clause-prompt
returns-in-Err-Refused-clause-prompt g c = λ t honest holds store. unasked _ _

pub returns-in-Err-Keeper-clause-prompt : goal.returns-in-Err-Keeper-clause-prompt
returns-in-Err-Keeper-clause-prompt g c = λ t honest holds store. unasked _ _

pub returns-in-Err-Memory-clause-prompt : goal.returns-in-Err-Memory-clause-prompt
returns-in-Err-Memory-clause-prompt g c = λ t honest holds store. unasked _ _
