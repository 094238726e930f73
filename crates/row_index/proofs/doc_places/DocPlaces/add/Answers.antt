use Rattle.row_index.proofs.HeldLaws.{texts_failed}
use Rattle.row_index.proofs.TextLaws.{last_cut}
use Rattle.row_index.proofs.doc_places.DocPlaces.add.Goals as goal

pub returns-in_err-words-clause-err : goal.returns-in_err-words-clause-err
returns-in_err-words-clause-err c = texts_failed _ c.args.doc.now c.args.place c.args.self.now _ c.in_err-words.ensures.err

pub returns-in-Ok-clause-ok : goal.returns-in-Ok-clause-ok
returns-in-Ok-clause-ok c = λ docs n t. record {
  texts = c.in_ok-words.ensures.ok docs n t.texts;
  numbers = c.in-Ok.ensures.ok docs n t.numbers;
}

pub returns-in-Err-clause-err : goal.returns-in-Err-clause-err
returns-in-Err-clause-err c = λ docs n t. record {
  texts = last_cut docs c.args.doc.now c.args.place _ _ n c.cut.ensures (c.in_ok-words.ensures.ok docs n t.texts);
  numbers = c.in-Err.ensures.err docs n t.numbers;
}
