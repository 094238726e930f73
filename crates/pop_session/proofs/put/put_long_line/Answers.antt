use Rattle.std.proofs.Common.{◌∙◌, sym, [], ◌∷◌}
use Rattle.pop_session.specs.Letters.{crlf_line}
use Rattle.tap_edges.proofs.Puts.{Put-then, Put-cut}
use Rattle.pop_session.proofs.Rows.{dotted}
use Rattle.pop_session.proofs.put.put_long_line.Goals as goal

pub returns-in-Ok : goal.returns-in-Ok
returns-in-Ok g c = Put-then g.K.Sink _ _ _ (46 ∷ []) (crlf_line c.args.text.now) _ _ _ _
    (dotted c.args.text.now (sym c.has_dot.ensures ∙ c.if-not-has_dot.false)) c.in-Ok.ensures c.put_line-in-Ok.ensures

pub returns-in-Err : goal.returns-in-Err
returns-in-Err g c = Put-cut g.K.Sink _ _ (46 ∷ []) (crlf_line c.args.text.now) _ _ _
    (dotted c.args.text.now (sym c.has_dot.ensures ∙ c.if-not-has_dot.false)) c.in-Err.ensures
