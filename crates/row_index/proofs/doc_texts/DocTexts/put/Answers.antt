use Rattle.std.proofs.Common.{◌<◌, length, refl, arith}
use Rattle.std.proofs.lemmas.Result.{on_err_weaker}
use Rattle.row_index.specs.declared.text_kind.TextKind.TheVariants.{Word}
use Rattle.row_index.proofs.TextLaws.{at_err, partly_next, partly_of, some_at}
use Rattle.row_index.proofs.doc_texts.DocTexts.put.Goals as goal

pub returns-in_err-put_fields-clause-err : goal.returns-in_err-put_fields-clause-err
returns-in_err-put_fields-clause-err c = at_err _ _ (partly_of c.fields_in-fields.result.now _ c.args.place c.args.self.now
    c.put_fields.new.self c.fields_in-fields.ensures c.in_err-put_fields.ensures.err)

pub returns-clause-err : goal.returns-clause-err
returns-clause-err c =
    let f = c.fields_in-fields.result.now in
    let mid = c.put_fields.new.self in
    let all = c.in_ok-put_fields.ensures.lists in
    let within : 8 < length mid.lists = omega (arith, all) in
    on_err_weaker c.add_message.result (λ part. partly_of f _ c.args.place c.args.self.now _ c.fields_in-fields.ensures
    (partly_next f c.args.place c.args.self.now mid _ 8 _ within c.in_ok-put_fields.ensures.ok refl
    (some_at f c.args.place mid 8 Word c.index-self.result _ within refl part))) c.add_message.ensures.err
