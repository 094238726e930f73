use Rattle.std.proofs.Common.{◌<◌, length, refl, arith}
use Rattle.row_index.proofs.TextLaws.{at_err, partly_next, some_at}
use Rattle.row_index.proofs.doc_texts.DocTexts.put_fields.Goals as goal

pub returns-in_err-add_texts-clause-err : goal.returns-in_err-add_texts-clause-err
returns-in_err-add_texts-clause-err c =
    let f = c.args.fields.now in
    let at = c.loop-at.at in
    let all = c.loop-at.invariant.all in
    let before = c.loop-at-test.true in
    let within : at < length c.loop-at.self.lists = omega (arith, all, before) in
    at_err _ _ (partly_next f c.args.place c.args.self.now c.loop-at.self _ at _ within c.loop-at.invariant.posted refl
    (some_at f c.args.place c.loop-at.self at c.from_place.result c.index-self-at.result _ within
    c.from_place.ensures c.in_err-add_texts.ensures.err))
