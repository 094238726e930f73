use Rattle.std.proofs.Common.{◌≡◌, length}
use Rattle.pop_session.specs.Letters.{sent_lines}
use Rattle.tap_edges.proofs.Puts.{Puts}
use Rattle.pop_session.proofs.put.put_lines.Given as goal

-- the lines so far were put, and those of the rest follow
abbrev pub invariant-lines : goal.invariant-lines
invariant-lines g l = record {
  puts : Puts (sent_lines l.fn.text) (sent_lines l.rest) l.fn.start l.done (g.K.Sink.out l.fn.sink) (g.K.Sink.out l.sink);
  same : g.K.Sink.faults l.sink ≡ g.K.Sink.faults l.fn.sink;
}

abbrev pub decreases-lines : goal.decreases-lines
decreases-lines g l = length l.rest
