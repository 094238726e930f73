use Rattle.std.proofs.Common.{sym, ap, ◌++◌}
use Rattle.std.specs.List.{flat_map}
use Rattle.tap_edges.proofs.Puts.{Put-then}
use Rattle.script_lang.specs.Replies.{line}
use Rattle.script_lang.proofs.put.put_with_texts.Goals as goal

pub returns-in-Ok : goal.returns-in-Ok
returns-in-Ok g c = Put-then g.K.Sink _ _ _ _ _ _ _ _ _ (ap (λ xs. xs ++ flat_map line c.args.texts.now) (sym c.as_slice.ensures.value))
    c.in-Ok.ensures c.put_texts.ensures
