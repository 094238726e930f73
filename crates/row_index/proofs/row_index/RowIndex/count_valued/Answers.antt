use Rattle.std.proofs.Common.{rules, ◌≡◌, length, ap, ◌-◌, ◌∙◌}
use Rattle.std.specs.Ordering.{int_eq}
use Rattle.tap_rows.specs.declared.tables.Tables.{Tables}
use Rattle.row_index.specs.Orders.{note_number}
use Rattle.row_index.specs.Numbers.{note_values, notes_valued}
use Rattle.row_index.specs.Posts.{places_of, with_key}
use Rattle.row_index.proofs.ListWindows.{mapped_length}
use Rattle.row_index.proofs.NumberLaws.{found_valued}
use Rattle.row_index.proofs.row_index.RowIndex.count_valued.Goals as goal

pub returns : goal.returns
returns c =
    let found = with_key int_eq note_values c.args.value c.self.inside.notes.items in
    let under : c.under.result.now ≡ places_of note_number found = search (rules, c.self.invariant.notes_found.value c.args.value) in
    ap length under ∙ mapped_length (λ note. note_number note - 1) found ∙ ap length (found_valued c.args.value c.self.inside.notes.items)
    ∙ ap (λ (t : Tables). length (notes_valued c.args.value t.notes)) c.self.view_is
