use Rattle.std.proofs.Common.{rules, refl, sym, ap, subst, Err, inl, inr}
use Rattle.tap_model.specs.Sound.{IsSound}
use Rattle.tap_top.specs.Refusals.{fault_of}
use Rattle.tap_top.proofs.Codes.{refusal-number}
use Rattle.tap_top.proofs.Refusals.{fine-store, some-or-none, Refused-none, refused-for, not-stopped}
use Rattle.tap_top.proofs.Versions.{exit-opened, exit-failed, exit-refused, exit-memory}
use Rattle.pop_box.proofs.Served.{served, refused, unserved, served-not-two}
use Rattle.peer_edges.proofs.Asks.{unasked}
use Rattle.pop_box.proofs.serving.serve_box.Goals as goal

pub returns-in-Ok-clause-session : goal.returns-in-Ok-clause-session
returns-in-Ok-clause-session g c = λ t honest holds store.
    served c.serve_with.result _ _ _ _ _ _ _ (g.P.Keeper.has_version c.args.keeper.now)
    (c.serve_with.ensures.session t (c.in-Ok.ensures.represents honest t holds.told)
    (subst (λ s. IsSound t s) (sym c.in-Ok.ensures.session) store))

pub returns-in-Ok-clause-unchanged : goal.returns-in-Ok-clause-unchanged
returns-in-Ok-clause-unchanged g c = λ t honest holds. record {
  exact = c.in-Ok.ensures.crash honest t holds.told;
  told = λ _. (c.in-Ok.ensures.kept honest t holds.told c.in-Ok.ensures.can.attached.running).told;
}

pub returns-in-Ok-clause-refusals : goal.returns-in-Ok-clause-refusals
returns-in-Ok-clause-refusals g c = record {
  refused = search rules;
  fine = search rules;
  known = search rules;
}

pub returns-in-Err-Refused-clause-session : goal.returns-in-Err-Refused-clause-session
returns-in-Err-Refused-clause-session g c = λ t honest holds store.
    refused c.code.result _ _ _ _ _ _ _ (g.P.Keeper.has_version c.args.keeper.now)
    (refusal-number _ c.refuse.result c.code.ensures c.refuse.ensures.statuses) refl
    (λ v version known. some-or-none (fault_of v t) c.in-Err-Refused.fault
    (refused-for _ _ c.in-Err-Refused.fault c.in-Err-Refused.ensures.refused c.in-Err-Refused.field-0-is honest t holds.told v version)
    (fine-store t v store known))

pub returns-in-Err-Refused-clause-unchanged : goal.returns-in-Err-Refused-clause-unchanged
returns-in-Err-Refused-clause-unchanged g c = λ t honest holds. record {
  exact = c.in-Err-Refused.ensures.crash honest t holds.told;
  told = λ _. (c.in-Err-Refused.ensures.kept honest t
      holds.told (not-stopped (g.P.Keeper.stopped c.open_store.new.keeper) c.in-Err-Refused.ensures.stopped.0 (λ e. cc))).told;
}

pub returns-in-Err-Refused-clause-refusals : goal.returns-in-Err-Refused-clause-refusals
returns-in-Err-Refused-clause-refusals g c = record {
  refused = search rules;
  fine = search rules;
  known = λ t honest holds store v version known _.
      absurd (some-or-none (fault_of v t) c.in-Err-Refused.fault (refused-for _ _ c.in-Err-Refused.fault c.in-Err-Refused.ensures.refused
      c.in-Err-Refused.field-0-is honest t holds.told v version) (fine-store t v store known));
}

pub returns-in-Err-Keeper-clause-session : goal.returns-in-Err-Keeper-clause-session
returns-in-Err-Keeper-clause-session g c = λ t honest holds store. unserved 5 _ _ _ _ _ _ _ _ (inr (inl refl)) (λ e. cc) refl refl

pub returns-in-Err-Keeper-clause-unchanged : goal.returns-in-Err-Keeper-clause-unchanged
returns-in-Err-Keeper-clause-unchanged g c =
    λ t honest holds. record { exact = c.in-Err-Keeper.ensures.crash honest t holds.told; told = λ no. absurd (no refl) }

pub returns-in-Err-Keeper-clause-refusals : goal.returns-in-Err-Keeper-clause-refusals
returns-in-Err-Keeper-clause-refusals g c = record {
  refused = λ t honest holds v version fault is. Refused-none 5 fault _ _ _ _ _ _ t (inr (inr (inl refl))) (λ e. cc) refl refl
      (λ no. absurd (no refl)) (c.in-Err-Keeper.ensures.crash honest t holds.told);
  fine = search rules;
  known = search rules;
}

pub returns-in-Err-Memory-clause-session : goal.returns-in-Err-Memory-clause-session
returns-in-Err-Memory-clause-session g c = λ t honest holds store. unserved 7 _ _ _ _ _ _ _ _ (inr (inr (inr refl))) (λ e. cc) refl refl

pub returns-in-Err-Memory-clause-unchanged : goal.returns-in-Err-Memory-clause-unchanged
returns-in-Err-Memory-clause-unchanged g c = λ t honest holds. record {
  exact = c.in-Err-Memory.ensures.crash honest t holds.told;
  told = λ _. (c.in-Err-Memory.ensures.kept honest t
      holds.told (not-stopped (g.P.Keeper.stopped c.open_store.new.keeper) c.in-Err-Memory.ensures.stopped.0 (λ e. cc))).told;
}

pub returns-in-Err-Memory-clause-refusals : goal.returns-in-Err-Memory-clause-refusals
returns-in-Err-Memory-clause-refusals g c = record {
  refused = λ t honest holds v version fault is.
      Refused-none 7 fault _ _ _ _ _ _ t (inr (inr (inr (inr refl)))) (λ e. cc) refl refl (λ _. (c.in-Err-Memory.ensures.kept honest t
      holds.told (not-stopped (g.P.Keeper.stopped c.open_store.new.keeper) c.in-Err-Memory.ensures.stopped.0 (λ e. cc))).told)
      (c.in-Err-Memory.ensures.crash honest t holds.told);
  fine = search rules;
  known = search rules;
}

pub returns-in-Ok-clause-version : goal.returns-in-Ok-clause-version
returns-in-Ok-clause-version g c = λ t honest holds.
    exit-opened c.serve_with.result (g.P.Keeper.has_version c.args.keeper.now) (g.P.Keeper.has_version c.open_store.new.keeper)
    (served-not-two c.serve_with.result c.serve_with.ensures.statuses) (c.in-Ok.ensures.version honest t holds.told)
    (c.in-Ok.ensures.known honest)

pub returns-in-Err-Refused-clause-version : goal.returns-in-Err-Refused-clause-version
returns-in-Err-Refused-clause-version g c = λ t honest holds.
    exit-refused c.code.result (g.P.Keeper.has_version c.args.keeper.now) (g.P.Keeper.has_version c.open_store.new.keeper)
    (refusal-number _ c.refuse.result c.code.ensures c.refuse.ensures.statuses)
    (refused-for _ _ c.in-Err-Refused.fault c.in-Err-Refused.ensures.migrated c.in-Err-Refused.field-0-is honest t holds.told)

pub returns-in-Err-Keeper-clause-version : goal.returns-in-Err-Keeper-clause-version
returns-in-Err-Keeper-clause-version g c = λ t honest holds. exit-failed 5 _ _ refl

pub returns-in-Err-Memory-clause-version : goal.returns-in-Err-Memory-clause-version
returns-in-Err-Memory-clause-version g c =
    λ t honest holds. exit-memory _ _ (c.in-Err-Memory.ensures.memory (ap Err c.in-Err-Memory.field-0-is) honest t holds.told)

pub returns-in-Ok-clause-prompt : goal.returns-in-Ok-clause-prompt
returns-in-Ok-clause-prompt g c = λ t honest holds store.
    c.serve_with.ensures.prompt t (c.in-Ok.ensures.represents honest t holds.told)
    (subst (λ s. IsSound t s) (sym c.in-Ok.ensures.session) store)

pub returns-in-Err-Refused-clause-prompt : goal.returns-in-Err-Refused-clause-prompt
returns-in-Err-Refused-clause-prompt g c = λ t honest holds store. unasked _ _

pub returns-in-Err-Keeper-clause-prompt : goal.returns-in-Err-Keeper-clause-prompt
returns-in-Err-Keeper-clause-prompt g c = λ t honest holds store. unasked _ _

pub returns-in-Err-Memory-clause-prompt : goal.returns-in-Err-Memory-clause-prompt
returns-in-Err-Memory-clause-prompt g c = λ t honest holds store. unasked _ _
