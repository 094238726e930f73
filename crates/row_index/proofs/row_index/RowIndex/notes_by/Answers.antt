use Rattle.std.specs.Str.{bytes_eq}
use Rattle.std.proofs.Common.{rules, ap, ◌∙◌}
use Rattle.tap_rows.specs.declared.tables.Tables.{Tables}
use Rattle.row_index.specs.Orders.{note_number}
use Rattle.row_index.specs.Notes.{note_texts_of, notes_with}
use Rattle.row_index.proofs.PlaceLists.{found_listed}
use Rattle.row_index.proofs.row_index.RowIndex.notes_by.Goals as goal

pub returns : goal.returns
returns c = found_listed bytes_eq (note_texts_of c.args.kind) note_number c.self.inside.notes.items c.args.text.now c.under.result.now
    c.placed.result c.self.invariant.notes_stand.numbered (search rules)
    (c.under.ensures c.self.inside.notes.items c.self.invariant.notes_found)
    ∙ ap (λ (t : Tables). notes_with (note_texts_of c.args.kind) c.args.text.now t.notes) c.self.view_is
