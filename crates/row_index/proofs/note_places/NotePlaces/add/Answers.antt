use Rattle.std.proofs.lemmas.Result.{on_ok_weaker, on_err_weaker}
use Rattle.row_index.proofs.NoteLaws.{notes_more, notes_undone}
use Rattle.row_index.proofs.note_places.NotePlaces.add.Goals as goal

pub returns-then-is_err-clause-err : goal.returns-then-is_err-clause-err
returns-then-is_err-clause-err c = on_err_weaker c.put-done.result (λ f. λ notes n t. notes_undone notes
    c.args.note.now c.args.place n c.args.self.now c.put-done.new.self c.forget.new.self f c.forget.ensures t) c.put-done.ensures.err

pub returns-else-is_err-clause-ok : goal.returns-else-is_err-clause-ok
returns-else-is_err-clause-ok c = on_ok_weaker c.put-done.result (λ f. λ notes n t. notes_more notes
    c.args.note.now c.args.place n c.args.self.now c.put-done.new.self f t) c.put-done.ensures.ok
