use Rattle.std.proofs.Common.{◌∙◌}
use Rattle.tap_edges.proofs.Puts.{Puts-more, Puts-failed, Puts-whole}
use Rattle.pop_session.proofs.Rows.{rows-next, no-rows}
use Rattle.pop_session.proofs.put.put_rows.Goals as goal

pub loop-i-preserved : goal.loop-i-preserved
loop-i-preserved g c = record {
  puts = Puts-more _ _ _ c.as_slice.result.now _ _ _ _ _ _
      c.loop-i.invariant.puts (rows-next c.args.listing c.args.letters.now c.loop-i.i c.index-letters-i.result c.as_slice.result.now
      c.loop-i-test.true c.index-letters-i.is (c.as_slice.ensures.value ∙ c.row_line.ensures)) c.in-Ok.ensures.count c.in-Ok.ensures.ok;
  same = c.in-Ok.ensures.cause.fine ∙ c.loop-i.invariant.same;
}

pub returns-in-Err : goal.returns-in-Err
returns-in-Err g c =
    Puts-failed g.K.Sink _ _ _ c.as_slice.result.now _ _ _ _ _ c.in-Err.failed c.loop-i.invariant.puts c.loop-i.invariant.same
    (rows-next c.args.listing c.args.letters.now c.loop-i.i c.index-letters-i.result c.as_slice.result.now c.loop-i-test.true
    c.index-letters-i.is (c.as_slice.ensures.value ∙ c.row_line.ensures)) c.in-Err.ensures

pub returns : goal.returns
returns g c = Puts-whole g.K.Sink _ _ _ _ _ _
    c.loop-i.invariant.puts c.loop-i.invariant.same (no-rows c.args.listing c.args.letters.now c.loop-i.i c.loop-i-test.false)
