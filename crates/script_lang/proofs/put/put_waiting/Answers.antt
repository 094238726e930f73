use Rattle.std.proofs.Common.{rules, ◌≡◌, length}
use Rattle.std.proofs.lemmas.List.{nil_from_length}
use Rattle.tap_edges.proofs.Puts.{Put-none, Put-as}
use Rattle.script_lang.proofs.put.put_waiting.Goals as goal

pub returns-then-is_empty : goal.returns-then-is_empty
returns-then-is_empty g c =
    let e : length c.args.waiting.now.items ≡ 0 = search rules in
    Put-none g.K.Sink c.args.start c.args.waiting.now.items c.args.sink.now c.ranges.start.fits (nil_from_length c.args.waiting.now.items e)

pub returns : goal.returns
returns g c = Put-as g.K.Sink _ _ _ _ _ _ c.as_slice.ensures.value c.put_next.ensures
