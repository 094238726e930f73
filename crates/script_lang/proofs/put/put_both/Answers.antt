use Rattle.std.proofs.Common.{sym, ap, ◌++◌}
use Rattle.tap_edges.proofs.Puts.{Put-then, Put-cut}
use Rattle.script_lang.proofs.put.put_both.Goals as goal

pub returns-in-Ok-clause-put : goal.returns-in-Ok-clause-put
returns-in-Ok-clause-put g c =
    Put-then g.K.Sink _ _ _ _ _ _ _ _ _ (ap (λ xs. xs ++ c.args.bytes.now) (sym c.as_slice.ensures.value))
    c.in-Ok.ensures c.put_next-in-Ok.ensures

pub returns-in-Err-clause-put : goal.returns-in-Err-clause-put
returns-in-Err-clause-put g c =
    Put-cut g.K.Sink _ _ _ c.args.bytes.now _ _ _ (ap (λ xs. xs ++ c.args.bytes.now) (sym c.as_slice.ensures.value)) c.in-Err.ensures
