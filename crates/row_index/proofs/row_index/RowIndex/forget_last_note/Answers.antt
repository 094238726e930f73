use Rattle.std.proofs.Common.{rules, ◌≡◌, ◌++◌, ◌∷◌, []}
use Rattle.row_index.proofs.HeldLaws.{held_note_less}
use Rattle.row_index.proofs.row_index.RowIndex.forget_last_note.Goals as goal

pub invariant_of-self : goal.invariant_of-self
invariant_of-self c =
    let rest = c.pop.new.self.items in
    let all : c.self.inside.notes.items ≡ rest ++ c.in-Some.note ∷ [] = search rules in
    held_note_less c.self.inside.docs.items c.self.inside.places rest c.self.inside.notes.items c.in-Some.note _
    c.self.inside.note_places c.forget.new.self c.self.invariant all (search rules) c.forget.ensures
