use Rattle.std.proofs.Common.{refl, codes}
use Rattle.pop_session.specs.Letters.{crlf_line}
use Rattle.tap_edges.proofs.Puts.{Put-then, Put-cut}
use Rattle.pop_session.proofs.put.put_all_rows.Goals as goal

pub returns-in-Ok : goal.returns-in-Ok
returns-in-Ok g c = Put-then g.K.Sink _ _ _ _ _ _ _ _ _ refl c.in-Ok.ensures c.put_line.ensures

pub returns-in-Err : goal.returns-in-Err
returns-in-Err g c = Put-cut g.K.Sink _ _ _ (crlf_line (codes ".")) _ _ _ refl c.in-Err.ensures
