use Rattle.std.proofs.Common.{◌≡◌, ◌+◌, drop}
use Rattle.pop_session.specs.Letters.{rows_from}
use Rattle.tap_edges.proofs.Puts.{Puts}
use Rattle.pop_session.proofs.put.put_rows.Given as goal

-- the rows so far were put, and those of the other letters follow
abbrev pub invariant-loop-i : goal.invariant-loop-i
invariant-loop-i g l = record {
  puts : Puts (rows_from l.listing 1 l.letters) (rows_from l.listing (l.i + 1) (drop l.i l.letters)) l.start l.done (g.K.Sink.out l.fn.sink)
      (g.K.Sink.out l.sink);
  same : g.K.Sink.faults l.sink ≡ g.K.Sink.faults l.fn.sink;
}
