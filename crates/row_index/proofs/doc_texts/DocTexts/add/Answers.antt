use Rattle.std.proofs.lemmas.Result.{on_ok_weaker, on_err_weaker}
use Rattle.row_index.proofs.TextLaws.{next_more, next_undone}
use Rattle.row_index.proofs.doc_texts.DocTexts.add.Goals as goal

pub returns-then-is_err-clause-err : goal.returns-then-is_err-clause-err
returns-then-is_err-clause-err c = on_err_weaker c.put-done.result (λ f. λ docs n t. next_undone docs
    c.args.doc.now c.args.place c.args.self.now c.put-done.new.self c.cut.new.self f c.cut.ensures n t) c.put-done.ensures.err

pub returns-else-is_err-clause-ok : goal.returns-else-is_err-clause-ok
returns-else-is_err-clause-ok c =
    on_ok_weaker c.put-done.result (λ f. λ docs n t. next_more docs c.args.doc.now c.args.place c.args.self.now c.put-done.new.self f n t)
    c.put-done.ensures.ok
