use Rattle.std.proofs.Common.{◌≡◌, ◌∙◌, ap, subst, refl, []}
use Rattle.pop_session.specs.Replies.{greeting}
use Rattle.pop_session.specs.Sessions.{PopSessionState, new_session, greeted, replies_from, quits_from, pop_replies, has_quit}
use Rattle.peer_edges.specs.Asks.{AskedOnlyWhen}
use Rattle.peer_edges.proofs.Asks.{unasked}
use Rattle.pop_session.specs.Ends.{SessionEnds, OpenEnd}
use Rattle.pop_session.proofs.PieceRuns.{greeted-ends, greeted-asks, greeting-cut, put-ends}
use Rattle.pop_session.proofs.hold.hold_session.Goals as goal

pub returns-in-Ok-clause-ends : goal.returns-in-Ok-clause-ends
returns-in-Ok-clause-ends g c =
    let begun : c.greet.new.self ≡ greeted (new_session c.args.user.now c.args.secret.now c.args.letters.now) = c.in-Ok.ensures.next
    ∙ ap greeted c.new-session.ensures in
    greeted-ends (replies_from (greeted (new_session c.args.user.now c.args.secret.now c.args.letters.now))) (λ bytes.
    pop_replies bytes c.args.user.now c.args.secret.now c.args.letters.now)
    (quits_from (greeted (new_session c.args.user.now c.args.secret.now c.args.letters.now)))
    (λ bytes. has_quit bytes c.args.user.now c.args.secret.now) _ _ _ _ _ greeting c.answer_pieces.result
    (λ bytes. refl) (λ bytes. refl) c.in-Ok.ensures.ok
    (subst (λ (s : PopSessionState). SessionEnds (replies_from s) (quits_from s) (g.S.Peer.left c.args.source.now)
    (g.S.Peer.left c.answer_pieces.new.source) (g.K.Sink.out c.greet.new.sink) (g.K.Sink.out c.answer_pieces.new.sink)
    c.answer_pieces.result []) begun c.answer_pieces.ensures.ends)

pub returns-in-Err-clause-ends : goal.returns-in-Err-clause-ends
returns-in-Err-clause-ends g c = put-ends _ _ _ _ _ _ greeting (greeting-cut _ _ _ _ _ greeting _ refl c.in-Err.ensures.fails.err)

pub returns-in-Ok-clause-prompt : goal.returns-in-Ok-clause-prompt
returns-in-Ok-clause-prompt g c =
    let begun : c.greet.new.self ≡ greeted (new_session c.args.user.now c.args.secret.now c.args.letters.now) = c.in-Ok.ensures.next
    ∙ ap greeted c.new-session.ensures in
    greeted-asks (replies_from (greeted (new_session c.args.user.now c.args.secret.now c.args.letters.now))) (λ bytes.
    pop_replies bytes c.args.user.now c.args.secret.now c.args.letters.now)
    (quits_from (greeted (new_session c.args.user.now c.args.secret.now c.args.letters.now)))
    (λ bytes. has_quit bytes c.args.user.now c.args.secret.now) _ _ _ greeting _ _
    (λ bytes. refl) (λ bytes. refl) c.in-Ok.ensures.ok
    (subst (λ (s : PopSessionState).
    AskedOnlyWhen (λ l o. OpenEnd (replies_from s) (quits_from s) (g.S.Peer.left c.args.source.now) l (g.K.Sink.out c.greet.new.sink) o)
    (g.S.Peer.was_asked c.args.source.now) (g.S.Peer.was_asked c.answer_pieces.new.source)) begun c.answer_pieces.ensures.prompt)

pub returns-in-Err-clause-prompt : goal.returns-in-Err-clause-prompt
returns-in-Err-clause-prompt g c = unasked _ _
