use Rattle.std.proofs.Common.{rules, ◌∙◌, ap}
use Rattle.pop_session.specs.Sessions.{is_ended}
use Rattle.pop_session.proofs.Taken.{Taken-more, end-put, end-next, end-quits, end-quit, open-replies, ended-silent, taken-cut}
use Rattle.pop_session.proofs.session.PopSession.take.Goals as goal

pub requests-preserved : goal.requests-preserved
requests-preserved g c = record {
  taken = Taken-more c.args.self.now c.requests.self c.take_one.new.self c.args.piece.now c.requests.rest.now c.rest_from-rest.result.now
      c.in-Ok.step.used _ _ _ _ _ c.requests.invariant.taken c.rest_from-rest.ensures c.in-Ok.ensures.next.next c.in-Ok.ensures.next.quits
      c.in-Ok.ensures.count c.in-Ok.ensures.ok;
  greeted = c.in-Ok.ensures.going.0;
  going = c.in-Ok.ensures.going.1;
  same = c.in-Ok.ensures.fails.cause.fine ∙ c.requests.invariant.same;
}

pub returns-in-Err-clause-fails : goal.returns-in-Err-clause-fails
returns-in-Err-clause-fails g c = record {
  err = taken-cut c.args.self.now c.requests.self c.args.piece.now c.requests.rest.now _ _ _ _
      c.in-Err.failed c.requests.invariant.taken c.in-Err.ensures.fails.err;
  cause = search rules;
  failed = search rules;
}

pub returns-clause-ok : goal.returns-clause-ok
returns-clause-ok g c = end-put c.args.self.now c.requests.self c.args.piece.now c.requests.rest.now _ _ _
    c.requests.invariant.taken c.is_over.ensures.front (c.is_over.ensures.over c.requests-test.false)

pub returns-clause-next : goal.returns-clause-next
returns-clause-next g c = record {
  next = end-next c.args.self.now c.requests.self c.args.piece.now c.requests.rest.now _ _ _
      c.requests.invariant.taken c.is_over.ensures.front (c.is_over.ensures.over c.requests-test.false);
  quits = end-quits c.args.self.now c.requests.self c.args.piece.now c.requests.rest.now _ _ _
      c.requests.invariant.taken (c.is_over.ensures.over c.requests-test.false);
}

pub returns-clause-open : goal.returns-clause-open
returns-clause-open g c = open-replies c.requests.self c.is_over.ensures.front

pub returns-clause-quit : goal.returns-clause-quit
returns-clause-quit g c =
    c.is_ended.ensures ∙ ap (λ s. is_ended s.phase) c.self.view_is
    ∙ end-quit c.args.self.now c.requests.self c.args.piece.now c.requests.rest.now _ _ _
    c.requests.invariant.taken c.is_over.ensures.front (c.is_over.ensures.over c.requests-test.false)

pub returns-clause-over : goal.returns-clause-over
returns-clause-over g c = ended-silent c.requests.self c.is_ended.result (c.is_ended.ensures ∙ ap (λ s. is_ended s.phase) c.self.view_is)
