use Rattle.std.proofs.Common.{◌≡◌, length, true, false}
use Rattle.pop_session.proofs.Taken.{Taken}
use Rattle.pop_session.proofs.session.PopSession.take.Given as goal

-- the replies to what was taken were put
abbrev pub invariant-requests : goal.invariant-requests
invariant-requests g l = record {
  taken : Taken l.fn.self l.self l.piece l.rest l.done (g.K.Sink.out l.fn.sink) (g.K.Sink.out l.sink);
  greeted : l.self.greeted ≡ true;
  going : l.self.failed ≡ false;
  same : g.K.Sink.faults l.sink ≡ g.K.Sink.faults l.fn.sink;
}

abbrev pub decreases-requests : goal.decreases-requests
decreases-requests g l = length l.rest
