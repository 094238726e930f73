use Rattle.std.proofs.Common.{rules, refl, ap, Err, inl, inr}
use Rattle.tap_top.specs.Codes.{code_of}
use Rattle.tap_top.specs.Refusals.{fault_of}
use Rattle.tap_top.proofs.Codes.{refusal-code}
use Rattle.tap_top.proofs.Refusals.{fine-store, some-or-none, Refused-none, refused-for, not-stopped}
use Rattle.tap_top.proofs.Crashes.{opened-at}
use Rattle.tap_top.proofs.Ends.{sample-ends, refused-sample, failed-sample, unopened-sample}
use Rattle.tap_top.proofs.Versions.{sample-not-two, exit-run, exit-refused, exit-failed, exit-memory}
use Rattle.tap_top.proofs.sampled.sample_store.Goals as goal

pub returns-in-Ok-clause-sample : goal.returns-in-Ok-clause-sample
returns-in-Ok-clause-sample g c = λ t honest holds store.
    let opened = c.run_sample-status.ensures.leaves.keeper.before honest in
    let at = opened-at c.in-Ok.engine _ _ t c.in-Ok.ensures.session (c.in-Ok.ensures.represents opened t holds.told)
    (c.in-Ok.ensures.kept opened t holds.told c.in-Ok.ensures.can.attached.running) store in
    sample-ends t c.args.n _ _ (g.P.Keeper.has_version c.args.keeper.now) (g.P.Keeper.tells c.run_sample-status.new.keeper)
    (g.P.Keeper.may_leave c.run_sample-status.new.keeper)
    c.run_sample-status.result c.run_sample-status.ensures.statuses (c.run_sample-status.ensures.ends t honest at)

pub returns-in-Ok-clause-refusals : goal.returns-in-Ok-clause-refusals
returns-in-Ok-clause-refusals g c = λ left. record {
  refused = search rules;
  fine = search rules;
  known = search rules;
}

pub returns-in-Err-Refused-clause-sample : goal.returns-in-Err-Refused-clause-sample
returns-in-Err-Refused-clause-sample g c = λ t honest holds store.
    refused-sample t c.args.n _ _ (g.P.Keeper.has_version c.args.keeper.now) _ _ (code_of c.refuse.result)
    (refusal-code c.refuse.result c.refuse.ensures.statuses)
    (λ v version known. absurd (some-or-none (fault_of v t) c.in-Err-Refused.fault (refused-for _ _ c.in-Err-Refused.fault
    c.in-Err-Refused.ensures.refused c.in-Err-Refused.field-0-is honest t holds.told v version) (fine-store t v store known)))
    (c.in-Err-Refused.ensures.crash honest t holds.told)

pub returns-in-Err-Refused-clause-refusals : goal.returns-in-Err-Refused-clause-refusals
returns-in-Err-Refused-clause-refusals g c = λ left. record {
  refused = search rules;
  fine = search rules;
  known = λ t honest holds store v version known _.
      absurd (some-or-none (fault_of v t) c.in-Err-Refused.fault (refused-for _ _ c.in-Err-Refused.fault c.in-Err-Refused.ensures.refused
      c.in-Err-Refused.field-0-is honest t holds.told v version) (fine-store t v store known));
}

pub returns-in-Err-Keeper-clause-sample : goal.returns-in-Err-Keeper-clause-sample
returns-in-Err-Keeper-clause-sample g c =
    λ t honest holds store. failed-sample t c.args.n _ _ _ _ _ (c.in-Err-Keeper.ensures.crash honest t holds.told)

pub returns-in-Err-Keeper-clause-refusals : goal.returns-in-Err-Keeper-clause-refusals
returns-in-Err-Keeper-clause-refusals g c = λ left. record {
  refused = λ t honest holds v version fault is. Refused-none 5 fault left left _ _ _ _ t (inr (inr (inl refl))) (λ e. cc) refl refl
      (λ no. absurd (no refl)) (c.in-Err-Keeper.ensures.crash honest t holds.told);
  fine = search rules;
  known = search rules;
}

pub returns-in-Err-Memory-clause-sample : goal.returns-in-Err-Memory-clause-sample
returns-in-Err-Memory-clause-sample g c =
    λ t honest holds store. unopened-sample t c.args.n _ _ _ _ _ store (c.in-Err-Memory.ensures.kept honest t
    holds.told (not-stopped (g.P.Keeper.stopped c.open_store.new.keeper) c.in-Err-Memory.ensures.stopped.0 (λ e. cc)))

pub returns-in-Err-Memory-clause-refusals : goal.returns-in-Err-Memory-clause-refusals
returns-in-Err-Memory-clause-refusals g c = λ left. record {
  refused = λ t honest holds v version fault is.
      Refused-none 7 fault left left _ _ _ _ t (inr (inr (inr (inr refl)))) (λ e. cc) refl refl (λ _. (c.in-Err-Memory.ensures.kept honest t
      holds.told (not-stopped (g.P.Keeper.stopped c.open_store.new.keeper) c.in-Err-Memory.ensures.stopped.0 (λ e. cc))).told)
      (c.in-Err-Memory.ensures.crash honest t holds.told);
  fine = search rules;
  known = search rules;
}

pub returns-in-Ok-clause-version : goal.returns-in-Ok-clause-version
returns-in-Ok-clause-version g c = λ t honest holds store.
    let opened = c.run_sample-status.ensures.leaves.keeper.before honest in
    let at = opened-at c.in-Ok.engine _ _ t c.in-Ok.ensures.session (c.in-Ok.ensures.represents opened t holds.told)
    (c.in-Ok.ensures.kept opened t holds.told c.in-Ok.ensures.can.attached.running) store in
    exit-run (code_of c.run_sample-status.result) (g.P.Keeper.stopped c.run_sample-status.new.keeper)
    (g.P.Keeper.has_version c.args.keeper.now) (g.P.Keeper.has_version c.run_sample-status.new.keeper)
    (sample-not-two c.run_sample-status.result c.run_sample-status.ensures.statuses) (λ halts.
    ap code_of (c.run_sample-status.ensures.leaves.stopped.0 halts))
    (λ runs. c.run_sample-status.ensures.leaves.version t honest at runs _ (c.in-Ok.ensures.version opened t holds.told))
    (c.in-Ok.ensures.known opened)

pub returns-in-Err-Refused-clause-version : goal.returns-in-Err-Refused-clause-version
returns-in-Err-Refused-clause-version g c = λ t honest holds store.
    exit-refused (code_of c.refuse.result) (g.P.Keeper.has_version c.args.keeper.now) (g.P.Keeper.has_version c.open_store.new.keeper)
    (refusal-code c.refuse.result c.refuse.ensures.statuses)
    (refused-for _ _ c.in-Err-Refused.fault c.in-Err-Refused.ensures.migrated c.in-Err-Refused.field-0-is honest t holds.told)

pub returns-in-Err-Keeper-clause-version : goal.returns-in-Err-Keeper-clause-version
returns-in-Err-Keeper-clause-version g c = λ t honest holds store. exit-failed 5 _ _ refl

pub returns-in-Err-Memory-clause-version : goal.returns-in-Err-Memory-clause-version
returns-in-Err-Memory-clause-version g c =
    λ t honest holds store. exit-memory _ _ (c.in-Err-Memory.ensures.memory (ap Err c.in-Err-Memory.field-0-is) honest t holds.told)
