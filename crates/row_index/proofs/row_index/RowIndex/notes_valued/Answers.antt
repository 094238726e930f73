use Rattle.std.proofs.Common.{rules, ap, ◌∙◌}
use Rattle.std.specs.Ordering.{int_eq}
use Rattle.tap_rows.specs.declared.tables.Tables.{Tables}
use Rattle.row_index.specs.Orders.{note_number}
use Rattle.row_index.specs.Numbers.{note_values, notes_valued}
use Rattle.row_index.proofs.PlaceLists.{found_under}
use Rattle.row_index.proofs.NumberLaws.{found_valued}
use Rattle.row_index.proofs.row_index.RowIndex.notes_valued.Goals as goal

pub returns : goal.returns
returns c = found_under int_eq note_values note_number c.self.inside.notes.items _
    c.args.value c.under.result.now c.placed.result c.self.invariant.notes_stand.numbered c.self.invariant.notes_found.value
    (search rules) (search rules) ∙ found_valued c.args.value c.self.inside.notes.items
    ∙ ap (λ (t : Tables). notes_valued c.args.value t.notes) c.self.view_is
