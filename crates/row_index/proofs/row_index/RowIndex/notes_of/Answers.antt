use Rattle.std.proofs.Common.{rules, ap, ◌∙◌, pos}
use Rattle.std.specs.Ordering.{int_eq}
use Rattle.tap_rows.specs.declared.tables.Tables.{Tables}
use Rattle.row_index.specs.Orders.{note_number}
use Rattle.row_index.specs.Held.{indexed_notes}
use Rattle.row_index.specs.Numbers.{note_docs}
use Rattle.row_index.proofs.PlaceLists.{found_under}
use Rattle.row_index.proofs.NumberLaws.{found_on_doc}
use Rattle.row_index.proofs.row_index.RowIndex.notes_of.Goals as goal

pub returns : goal.returns
returns c = found_under int_eq note_docs note_number c.self.inside.notes.items _
    (pos c.args.doc.0) c.under.result.now c.placed.result c.self.invariant.notes_stand.numbered c.self.invariant.notes_found.doc
    (search rules) (search rules) ∙ found_on_doc c.args.doc.0 c.self.inside.notes.items
    ∙ ap (λ (t : Tables). indexed_notes c.args.doc.0 t.notes) c.self.view_is
