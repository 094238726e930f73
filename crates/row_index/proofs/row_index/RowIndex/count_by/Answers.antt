use Rattle.std.proofs.Common.{length, ap, ◌-◌, ◌∙◌, ◌≡◌}
use Rattle.tap_rows.specs.declared.tables.Tables.{Tables}
use Rattle.row_index.specs.Orders.{note_number}
use Rattle.row_index.specs.Notes.{note_texts_of, notes_with}
use Rattle.row_index.specs.Posts.{places_of}
use Rattle.row_index.proofs.ListWindows.{mapped_length}
use Rattle.row_index.proofs.row_index.RowIndex.count_by.Goals as goal

pub returns : goal.returns
returns c =
    let found = notes_with (note_texts_of c.args.kind) c.args.text.now c.self.inside.notes.items in
    let under : c.under.result.now ≡ places_of note_number found =
    c.under.ensures c.self.inside.notes.items c.self.invariant.notes_found in
    ap length under ∙ mapped_length (λ note. note_number note - 1) found
    ∙ ap (λ (t : Tables). length (notes_with (note_texts_of c.args.kind) c.args.text.now t.notes)) c.self.view_is
