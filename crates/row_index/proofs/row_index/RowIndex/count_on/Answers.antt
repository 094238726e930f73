use Rattle.std.proofs.Common.{rules, ◌≡◌, length, ap, ◌-◌, ◌∙◌, pos}
use Rattle.std.specs.Ordering.{int_eq}
use Rattle.tap_rows.specs.declared.tables.Tables.{Tables}
use Rattle.row_index.specs.Orders.{note_number}
use Rattle.row_index.specs.Held.{indexed_notes}
use Rattle.row_index.specs.Numbers.{note_docs}
use Rattle.row_index.specs.Posts.{places_of, with_key}
use Rattle.row_index.proofs.ListWindows.{mapped_length}
use Rattle.row_index.proofs.NumberLaws.{found_on_doc}
use Rattle.row_index.proofs.row_index.RowIndex.count_on.Goals as goal

pub returns : goal.returns
returns c =
    let found = with_key int_eq note_docs (pos c.args.doc.0) c.self.inside.notes.items in
    let under : c.under.result.now ≡ places_of note_number found = search (rules, c.self.invariant.notes_found.doc (pos c.args.doc.0)) in
    ap length under ∙ mapped_length (λ note. note_number note - 1) found ∙ ap length (found_on_doc c.args.doc.0 c.self.inside.notes.items)
    ∙ ap (λ (t : Tables). length (indexed_notes c.args.doc.0 t.notes)) c.self.view_is
