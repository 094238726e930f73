use Rattle.std.proofs.Common.{◌≡◌, ◌≤◌, ◌-◌, ◌+◌}
use Rattle.pop_session.specs.declared.hold.TheConstants.{SESSION_LIMIT}
use Rattle.tap_edges.specs.declared.pieces.TheConstants.{PIECE}
use Rattle.pop_session.specs.Sessions.{CanTakeBytes, replies_from, quits_from}
use Rattle.peer_edges.specs.Asks.{AskedOnlyWhen}
use Rattle.pop_session.specs.Ends.{OpenEnd}
use Rattle.pop_session.proofs.PieceRuns.{Answering}
use Rattle.pop_session.proofs.hold.answer_pieces.Given as goal

-- the replies to the bytes taken so far were put
abbrev pub invariant-pieces : goal.invariant-pieces
invariant-pieces g l = record {
  answering : Answering (g.S.Peer.left l.fn.source) (g.S.Peer.left l.source) l.taken (replies_from l.fn.session) (replies_from l.session)
      (quits_from l.fn.session) (quits_from l.session) (g.K.Sink.out l.fn.sink) (g.K.Sink.out l.sink);
  prompt : AskedOnlyWhen (λ left out. OpenEnd (replies_from l.fn.session) (quits_from l.fn.session) (g.S.Peer.left l.fn.source) left
      (g.K.Sink.out l.fn.sink) out) (g.S.Peer.was_asked l.fn.source) (g.S.Peer.was_asked l.source);
  few : l.taken ≤ SESSION_LIMIT + PIECE;
  ready : CanTakeBytes l.session;
  reads : g.S.Peer.faults l.source ≡ g.S.Peer.faults l.fn.source;
  puts : g.K.Sink.faults l.sink ≡ g.K.Sink.faults l.fn.sink;
}

abbrev pub decreases-pieces : goal.decreases-pieces
decreases-pieces g l = SESSION_LIMIT + 1 - l.taken
