use Rattle.std.proofs.Common.{rules, ◌≡◌, ◌∙◌, sym, ap, subst, List, ◌∷◌}
use Rattle.std.specs.Vec.Iter.{into_iter_items}
use Rattle.tap_rows.specs.declared.tables.Tables.{Tables}
use Rattle.tap_rows.specs.declared.rows.Note.{Note}
use Rattle.tap_rows.specs.declared.change.Change.TheVariants.{OneNote}
use Rattle.tap_rows.specs.Tables.{after}
use Rattle.row_index.specs.Orders.{note_number, note_arrival}
use Rattle.tap_kept.specs.Starting.{FollowInOrder, with_notes}
use Rattle.tap_kept.proofs.LeftLaws.{left-after, left-next, notes-next}
use Rattle.tap_kept.proofs.indexing.add_notes.Goals as goal

pub add_note-requires-clause-after : goal.add_note-requires-clause-after
add_note-requires-clause-after c =
    let now : Tables = c.loop-note.index in
    let rest : List Note = into_iter_items c.next.new.self in
    let items : into_iter_items c.loop-note.note-iterator ≡ c.in-Some.note ∷ rest = search rules in
    let left : FollowInOrder note_number note_arrival now.notes (c.in-Some.note ∷ rest) =
    subst (λ l. FollowInOrder note_number note_arrival now.notes l) items c.loop-note.invariant.left in
    left-after note_number note_arrival now.notes c.in-Some.note rest left

pub loop-note-preserved : goal.loop-note-preserved
loop-note-preserved c =
    let now : Tables = c.loop-note.index in
    let rest : List Note = into_iter_items c.next.new.self in
    let items : into_iter_items c.loop-note.note-iterator ≡ c.in-Some.note ∷ rest = search rules in
    let left : FollowInOrder note_number note_arrival now.notes (c.in-Some.note ∷ rest) =
    subst (λ l. FollowInOrder note_number note_arrival now.notes l) items c.loop-note.invariant.left in
    let new : c.add_note.new.self ≡ after now (OneNote c.in-Some.note) = search rules in
    record {
      len = search rules;
      all = c.loop-note.invariant.all ∙ ap (with_notes now) items ∙ notes-next now c.add_note.new.self c.in-Some.note rest new;
      left = subst (λ (t : Tables). FollowInOrder note_number note_arrival t.notes rest) (sym new)
          (left-next note_number note_arrival now.notes c.in-Some.note rest left);
    }
