use Rattle.std.proofs.Common.{refl, [], ◌∷◌}
use Rattle.tap_edges.proofs.Puts.{Put-then, Put-cut}
use Rattle.pop_session.proofs.put.put_line.Goals as goal

pub returns-in-Ok : goal.returns-in-Ok
returns-in-Ok g c = Put-then g.K.Sink _ _ _ _ _ _ _ _ _ refl c.in-Ok.ensures c.put_next-in-Ok.ensures

pub returns-in-Err : goal.returns-in-Err
returns-in-Err g c = Put-cut g.K.Sink _ _ _ (13 ∷ 10 ∷ []) _ _ _ refl c.in-Err.ensures
