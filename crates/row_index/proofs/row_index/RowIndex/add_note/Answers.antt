use Rattle.std.proofs.Common.{rules, ◌≡◌, ◌+◌, ◌<◌, ◌-◌, ◌^◌, ◌++◌, ◌∷◌, [], ◌≤ℤ◌, length, List, sym, subst}
use Rattle.tap_rows.specs.declared.rows.Note.{Note}
use Rattle.tap_rows.specs.declared.tables.Tables.{Tables}
use Rattle.tap_rows.specs.Kept.{Each}
use Rattle.row_index.specs.Notes.{IsNextNote, NotePosts}
use Rattle.row_index.specs.Held.{HasValue}
use Rattle.row_index.proofs.HeldLaws.{held_note_more}
use Rattle.row_index.proofs.row_index.RowIndex.add_note.Goals as goal

pub invariant_of-self-2 : goal.invariant_of-self-2
invariant_of-self-2 c =
    let old = c.self.inside.notes.items in
    let number : c.args.note.num.0 ≡ length old + 1 = search rules in
    let fits : c.args.note.num.0 < 2 ^ 32 = search rules in
    let on : c.args.note.doc.0 < 2 ^ 32 = search rules in
    let value : HasValue c.args.note = search rules in
    let late : Each (λ other. other.arrival ≤ℤ c.args.note.arrival) old =
    subst (λ (t : Tables). Each (λ other. other.arrival ≤ℤ c.args.note.arrival) t.notes) (sym c.self.view_is) c.requires.after in
    let found : (notes : List Note) → IsNextNote notes c.args.note (c.args.note.num.0 - 1) → NotePosts notes c.self.inside.note_places
    → NotePosts (notes ++ c.args.note ∷ []) c.add.new.self = search rules in
    held_note_more c.self.inside.docs.items c.self.inside.places old c.push.new.self.items c.args.note (c.args.note.num.0 - 1)
    c.self.inside.note_places c.add.new.self c.self.invariant number fits on value c.requires.moment late
    (search rules) found (search rules)
