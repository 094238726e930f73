use Rattle.std.proofs.Common.{◌≡◌, ◌∙◌, true, false, Some, inl, inr, refl, sym, ap, subst}
use Rattle.std.specs.Prelude.{is_some}
use Rattle.keeper_file.specs.Cases.{has_files}
use Rattle.keeper_file.specs.PathFiles.{path_files}
use Rattle.file_session.specs.Closes.{IsClosedAs}
use Rattle.file_session.proofs.CloseLaws.{closed-so, is_closed, had_file, differ, at_some, from_both, is_there, other_one, never_closed}
use Rattle.file_session.proofs.CloseLaws.{either_of, not_two}
use Rattle.file_session.proofs.files.run_to_close.Goals as goal

-- ---- the keeper has files open

pub returns-in-Some-clause-closes : goal.returns-in-Some-clause-closes
returns-in-Some-clause-closes g c = never_closed _ _ (is_there _ _ _ c.in-Some.is c.run_apart-status.ensures.gone)

pub returns-in-Some-clause-no_file : goal.returns-in-Some-clause-no_file
returns-in-Some-clause-no_file g c =
    let never = is_there _ _ _ c.in-Some.is c.run_apart-status.ensures.gone in
    had_file c.close.result _ _ c.close.ensures.none (at_some _ _ _ c.in-Some.is c.run_apart-status.ensures.open)
    (other_one _ _ _ true c.in-Some.is refl (c.run_apart-status.ensures.one (λ five. never (inl five)) (λ six. never (inr six))))

pub returns-in-Some-clause-refused : goal.returns-in-Some-clause-refused
returns-in-Some-clause-refused g c = λ refused. absurd (differ (sym (c.run_apart-status.ensures.refused refused) ∙ ap is_some c.in-Some.is))

pub returns-in-Some-clause-end : goal.returns-in-Some-clause-end
returns-in-Some-clause-end g c =
    let end = c.run_apart-status.ensures.end in record {
      inner = end.inner;
      ends = λ honest t told. end.ends honest t told;
      stopped = end.stopped;
      close = subst (λ i. IsClosedAs (path_files g.S.Start) i (Some c.close.result)) (at_some _ _ _ c.in-Some.is end.left.0)
          (closed-so _ _ c.close.result c.close.ensures.none c.close.ensures.honest c.close.ensures.honest_left c.close.ensures.whole
          c.close.ensures.exact c.close.ensures.fails);
      back = end.left.1;
    }

-- ---- it failed, or the store was refused

pub returns-then-status-eq6-clause-closes : goal.returns-then-status-eq6-clause-closes
returns-then-status-eq6-clause-closes g c = (λ none. either_of c.if-status-eq6.either, λ either. refl)

pub returns-then-status-eq6-clause-no_file : goal.returns-then-status-eq6-clause-no_file
returns-then-status-eq6-clause-no_file g c =
    let gone = c.run_apart-status.ensures.gone (either_of c.if-status-eq6.either) in
    (λ is. absurd (let e = is in cc), λ back. absurd (differ (sym gone.1 ∙ back)))

pub returns-then-status-eq6-clause-refused : goal.returns-then-status-eq6-clause-refused
returns-then-status-eq6-clause-refused g c = λ refused. absurd (not_two _ refused (either_of c.if-status-eq6.either))

pub returns-then-status-eq6-clause-end : goal.returns-then-status-eq6-clause-end
returns-then-status-eq6-clause-end g c =
    let end = c.run_apart-status.ensures.end in record {
      inner = end.inner;
      ends = λ honest t told. end.ends honest t told;
      stopped = end.stopped;
      close = tt;
      back = end.left.1;
    }

-- ---- it has no file open

pub returns-else-status-eq6-clause-closes : goal.returns-else-status-eq6-clause-closes
returns-else-status-eq6-clause-closes g c = is_closed _ _ c.if-status-eq6.false.0 c.if-status-eq6.false.1

pub returns-else-status-eq6-clause-no_file : goal.returns-else-status-eq6-clause-no_file
returns-else-status-eq6-clause-no_file g c =
    let there = other_one _ _ _ false c.in-None.is refl (c.run_apart-status.ensures.one c.if-status-eq6.false.0 c.if-status-eq6.false.1) in
    (λ is. there, λ is. refl)

pub returns-else-status-eq6-clause-end : goal.returns-else-status-eq6-clause-end
returns-else-status-eq6-clause-end g c =
    let end = c.run_apart-status.ensures.end in
    let there = other_one _ _ _ false c.in-None.is refl (c.run_apart-status.ensures.one c.if-status-eq6.false.0 c.if-status-eq6.false.1) in
    record {
      inner = end.inner;
      ends = λ honest t told. end.ends honest t told;
      stopped = end.stopped;
      close = from_both _ _ _ _ there c.run_apart-status.ensures.unopened end.left.1 (λ keeper none same.
          subst (λ i. has_files i ≡ false) same none);
      back = end.left.1;
    }
