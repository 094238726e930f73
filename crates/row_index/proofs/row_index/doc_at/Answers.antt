use Rattle.std.proofs.Common.{◌≡◌, ◌<◌, arith, sym, ◌∙◌}
use Rattle.row_index.specs.Orders.{doc_number}
use Rattle.row_index.proofs.InPlaces.{none_before, found_at}
use Rattle.row_index.proofs.row_index.doc_at.Goals as goal

pub returns-then-num-eq0 : goal.returns-then-num-eq0
returns-then-num-eq0 c =
    let e : c.args.num ≡ 0 = omega (arith, c.if-num-eq0.true) in
    sym (none_before doc_number c.args.num 1 c.args.docs.now c.requires.numbered (omega (arith, e)))

pub returns-else-num-eq0 : goal.returns-else-num-eq0
returns-else-num-eq0 c =
    let w : 0 < c.args.num = omega (arith, c.if-num-eq0.false) in
    c.doc_in.ensures ∙ found_at doc_number c.args.num c.args.docs.now c.requires.numbered w
