use Rattle.std.proofs.Common.{rules, ◌≡◌, ◌∙◌, Some, None}
use Rattle.pop_box.proofs.Served.{asked-letters, letters-served-as, none-served-as, took-quit, at-end}
use Rattle.peer_edges.proofs.Asks.{unasked}
use Rattle.pop_box.proofs.serving.serve_with.Goals as goal

pub returns-in-Ok-Some-clause-session : goal.returns-in-Ok-Some-clause-session
returns-in-Ok-Some-clause-session g c = λ t represents sound.
    let found : Some c.in-Ok-Some.letters ≡ c.in-Ok-Some.field-0 = search rules in
    letters-served-as c.hold_session.result c.in-Ok-Some.letters c.as_slice-in-Ok-Some-2.result.now t _ _ _ _ _ _ _ _ _ _
    c.as_slice-user.ensures c.as_slice.ensures c.as_slice-in-Ok-Some.ensures c.as_slice-in-Ok-Some-2.ensures
    (found ∙ c.in-Ok-Some.ensures.letters t represents sound) c.hold_session.ensures.statuses c.hold_session.ensures.ends

pub returns-in-Ok-Some-clause-quit : goal.returns-in-Ok-Some-clause-quit
returns-in-Ok-Some-clause-quit g c =
    took-quit c.hold_session.result _ _ _ _ _ _ _ _ _ c.as_slice-user.ensures c.as_slice-in-Ok-Some.ensures c.hold_session.ensures.ends

pub returns-in-Ok-Some-clause-ended : goal.returns-in-Ok-Some-clause-ended
returns-in-Ok-Some-clause-ended g c = at-end c.hold_session.result _ _ _ _ _ _ _ c.hold_session.ensures.ends

pub returns-in-Ok-None-clause-session : goal.returns-in-Ok-None-clause-session
returns-in-Ok-None-clause-session g c = λ t represents sound.
    let none : None ≡ c.in-Ok-None.field-0 = search rules in
    none-served-as c.refuse_box.result t _ _ _ _ _ _ _ _ c.as_slice-user.ensures c.as_slice.ensures
    (none ∙ c.in-Ok-None.ensures.letters t represents sound) c.refuse_box.ensures.statuses c.refuse_box.ensures.line

pub returns-in-Ok-Some-clause-prompt : goal.returns-in-Ok-Some-clause-prompt
returns-in-Ok-Some-clause-prompt g c = λ t represents sound.
    let found : Some c.in-Ok-Some.letters ≡ c.in-Ok-Some.field-0 = search rules in
    asked-letters c.in-Ok-Some.letters c.as_slice-in-Ok-Some-2.result.now t _ _ _ _ _ _ _ _ _ _
    c.as_slice-user.ensures c.as_slice.ensures c.as_slice-in-Ok-Some.ensures c.as_slice-in-Ok-Some-2.ensures
    (found ∙ c.in-Ok-Some.ensures.letters t represents sound) c.hold_session.ensures.prompt

pub returns-in-Ok-None-clause-prompt : goal.returns-in-Ok-None-clause-prompt
returns-in-Ok-None-clause-prompt g c = λ t represents sound. unasked _ _
