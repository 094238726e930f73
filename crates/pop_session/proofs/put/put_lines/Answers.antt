use Rattle.std.proofs.Common.{◌∙◌, sym}
use Rattle.pop_session.specs.Letters.{crlf_line, stuffed}
use Rattle.tap_edges.proofs.Puts.{Puts-more, Puts-failed, Puts-whole}
use Rattle.pop_session.proofs.Rows.{lines-next, no-lines}
use Rattle.pop_session.proofs.put.put_lines.Goals as goal

pub lines-preserved : goal.lines-preserved
lines-preserved g c = record {
  puts = Puts-more _ _ _ (crlf_line (stuffed c.first_lined-first.result.line.now)) _ _ _ _ _ _ c.lines.invariant.puts (lines-next
      c.lines.rest.now c.first_lined-first.result.line.now c.first_lined-first.result.rest.now c.first_lined-first.ensures.lines)
      c.in-Ok.ensures.count c.in-Ok.ensures.ok;
  same = c.in-Ok.ensures.cause.fine ∙ c.lines.invariant.same;
}

pub returns-in-Err : goal.returns-in-Err
returns-in-Err g c =
    Puts-failed g.K.Sink _ _ _ (crlf_line (stuffed c.first_lined-first.result.line.now)) _ _ _ _ _
    c.in-Err.failed c.lines.invariant.puts c.lines.invariant.same (lines-next c.lines.rest.now c.first_lined-first.result.line.now
    c.first_lined-first.result.rest.now c.first_lined-first.ensures.lines) c.in-Err.ensures

pub returns : goal.returns
returns g c = Puts-whole g.K.Sink _ _ _ _ _ _
    c.lines.invariant.puts c.lines.invariant.same (no-lines c.lines.rest.now (sym c.is_empty.ensures ∙ c.lines-test.false))
