use Rattle.std.proofs.Common.{rules, ◌∙◌, sym, ap, subst, arith, length, take, ◌+◌, ◌++◌}
use Rattle.std.specs.Io.KnownBytes.{Appends}
use Rattle.mail_lines.proofs.Ends.{NoEnd-front}
use Rattle.tap_edges.specs.Puts.{counted, TookSome}
use Rattle.pop_session.specs.Sessions.{replies_from, quits_from, open_reply, answered}
use Rattle.pop_session.proofs.Taken.{held-next, held-quits, held-none, open-count, open-put, cut-next, cut-quits, cut-one, cut-failed}
use Rattle.pop_session.proofs.session.PopSession.take_one.Goals as goal

pub hold-requires : goal.hold-requires
hold-requires g c = NoEnd-front c.args.piece.now c.end_of_request-len.result c.end_of_request-len.ensures.value

pub returns-then-len-piece-clause-count : goal.returns-then-len-piece-clause-count
returns-then-len-piece-clause-count g c =
    open-count c.args.start _ c.ranges.start.fits
    (held-none c.args.self.now (take c.end_of_request-len.result c.args.piece.now)
    c.hold.ensures.front (NoEnd-front c.args.piece.now c.end_of_request-len.result c.end_of_request-len.ensures.value))

pub returns-then-len-piece-clause-ok : goal.returns-then-len-piece-clause-ok
returns-then-len-piece-clause-ok g c =
    open-put (g.K.Sink.out c.args.sink.now) _
    (held-none c.args.self.now (take c.end_of_request-len.result c.args.piece.now)
    c.hold.ensures.front (NoEnd-front c.args.piece.now c.end_of_request-len.result c.end_of_request-len.ensures.value))

pub returns-then-len-piece-clause-next : goal.returns-then-len-piece-clause-next
returns-then-len-piece-clause-next g c = record {
  next = λ rest.
      held-next c.args.self.now (take c.end_of_request-len.result c.args.piece.now) rest
      c.hold.ensures.front (NoEnd-front c.args.piece.now c.end_of_request-len.result c.end_of_request-len.ensures.value)
      ∙ ap (λ s. replies_from s rest) (sym c.hold.ensures.next)
      ∙ ap (λ xs. xs ++ replies_from c.hold.new.self rest)
      (sym (held-none c.args.self.now (take c.end_of_request-len.result c.args.piece.now)
      c.hold.ensures.front (NoEnd-front c.args.piece.now c.end_of_request-len.result c.end_of_request-len.ensures.value)));
  quits = λ rest.
      held-quits c.args.self.now (take c.end_of_request-len.result c.args.piece.now) rest
      c.hold.ensures.front (NoEnd-front c.args.piece.now c.end_of_request-len.result c.end_of_request-len.ensures.value)
      ∙ ap (λ s. quits_from s rest) (sym c.hold.ensures.next);
}

pub returns-in-Ok-clause-count : goal.returns-in-Ok-clause-count
returns-in-Ok-clause-count g c =
    c.in-Ok.ensures.put.count
    ∙ ap (λ s. counted (c.args.start + length (open_reply s))) c.hold.ensures.next
    ∙ ap (λ xs. counted (c.args.start + length xs))
    (sym (cut-one c.args.self.now c.args.piece.now c.end_of_request-len.result c.hold.ensures.front c.end_of_request-len.ensures.value
    (grind (arith, c.if-len-piece.false, c.end_of_request-len.ensures.within)) c.requires.ready.not_ended))

pub returns-in-Ok-clause-ok : goal.returns-in-Ok-clause-ok
returns-in-Ok-clause-ok g c =
    subst (λ xs. Appends (g.K.Sink.out c.args.sink.now) (g.K.Sink.out c.answer.new.sink) xs)
    (ap open_reply c.hold.ensures.next
    ∙ sym (cut-one c.args.self.now c.args.piece.now c.end_of_request-len.result c.hold.ensures.front c.end_of_request-len.ensures.value
    (grind (arith, c.if-len-piece.false, c.end_of_request-len.ensures.within)) c.requires.ready.not_ended))
    c.in-Ok.ensures.put.ok

pub returns-in-Ok-clause-next : goal.returns-in-Ok-clause-next
returns-in-Ok-clause-next g c = record {
  next = λ rest.
      cut-next c.args.self.now c.args.piece.now rest c.end_of_request-len.result c.hold.ensures.front c.end_of_request-len.ensures.value
      (grind (arith, c.if-len-piece.false, c.end_of_request-len.ensures.within)) c.requires.ready.not_ended
      ∙ ap (λ s. open_reply s ++ replies_from (answered s) rest) (sym c.hold.ensures.next)
      ∙ ap (λ s. open_reply c.hold.new.self ++ replies_from s rest) (sym c.in-Ok.ensures.next)
      ∙ ap (λ xs. xs ++ replies_from c.answer.new.self rest)
      (ap open_reply c.hold.ensures.next
      ∙ sym (cut-one c.args.self.now c.args.piece.now c.end_of_request-len.result c.hold.ensures.front c.end_of_request-len.ensures.value
      (grind (arith, c.if-len-piece.false, c.end_of_request-len.ensures.within)) c.requires.ready.not_ended));
  quits = λ rest.
      cut-quits c.args.self.now c.args.piece.now rest c.end_of_request-len.result c.hold.ensures.front c.end_of_request-len.ensures.value
      (grind (arith, c.if-len-piece.false, c.end_of_request-len.ensures.within)) c.requires.ready.not_ended
      ∙ ap (λ s. quits_from (answered s) rest) (sym c.hold.ensures.next)
      ∙ ap (λ s. quits_from s rest) (sym c.in-Ok.ensures.next);
}

pub returns-in-Err-clause-fails : goal.returns-in-Err-clause-fails
returns-in-Err-clause-fails g c = record {
  err = cut-failed c.args.self.now c.args.piece.now c.end_of_request-len.result c.args.start _ _ c.in-Err.failed c.hold.ensures.front
      c.end_of_request-len.ensures.value (grind (arith, c.if-len-piece.false, c.end_of_request-len.ensures.within))
      c.requires.ready.not_ended
      (subst (λ s. TookSome c.args.start (g.K.Sink.out c.args.sink.now) (g.K.Sink.out c.answer.new.sink) (open_reply s) c.in-Err.failed)
      c.hold.ensures.next c.in-Err.ensures.put.err);
  cause = search rules;
  failed = search rules;
}
