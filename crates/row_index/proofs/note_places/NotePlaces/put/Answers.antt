use Rattle.std.proofs.Common.{rules, refl, inl, inr}
use Rattle.row_index.proofs.NoteLaws.{note_partly}
use Rattle.row_index.proofs.note_places.NotePlaces.put.Goals as goal

pub returns-in_err-add-clause-err : goal.returns-in_err-add-clause-err
returns-in_err-add-clause-err c = note_partly _ c.args.note.now c.args.place c.args.self.now _ (inr (search rules)) (inr refl) (inr refl)
    (inr refl) (inr refl)

pub returns-in_err-add-2-clause-err : goal.returns-in_err-add-2-clause-err
returns-in_err-add-2-clause-err c = note_partly _ c.args.note.now c.args.place c.args.self.now _ (inl (search rules)) (inr (search rules))
    (inr refl) (inr refl) (inr refl)

pub returns-in_err-add-3-clause-err : goal.returns-in_err-add-3-clause-err
returns-in_err-add-3-clause-err c = note_partly _ c.args.note.now c.args.place c.args.self.now _ (inl (search rules)) (inl (search rules))
    (inr (search rules)) (inr refl) (inr refl)

pub returns-in_err-add-4-clause-err : goal.returns-in_err-add-4-clause-err
returns-in_err-add-4-clause-err c = note_partly _ c.args.note.now c.args.place c.args.self.now _ (inl (search rules)) (inl (search rules))
    (inl (search rules)) (inr (search rules)) (inr refl)

pub returns-in_err-add-5-clause-err : goal.returns-in_err-add-5-clause-err
returns-in_err-add-5-clause-err c = note_partly _ c.args.note.now c.args.place c.args.self.now _ (inl (search rules)) (inl (search rules))
    (inl (search rules)) (inl (search rules)) (inr (search rules))
