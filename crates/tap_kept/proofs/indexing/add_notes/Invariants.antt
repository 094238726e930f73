use Rattle.std.proofs.Common.{◌≡◌, length}
use Rattle.std.specs.Vec.Iter.{into_iter_items, into_iter_len}
use Rattle.row_index.specs.Orders.{note_number, note_arrival}
use Rattle.tap_kept.specs.Starting.{FollowInOrder, with_notes}
use Rattle.tap_kept.proofs.indexing.add_notes.Given as goal

-- the notes that were added, and those that are left, which follow them in order
abbrev pub invariant-loop-note : goal.invariant-loop-note
invariant-loop-note l = record {
  len : into_iter_len l.note-iterator ≡ length (into_iter_items l.note-iterator);
  all : with_notes l.fn.index l.fn.notes ≡ with_notes l.index (into_iter_items l.note-iterator);
  left : FollowInOrder note_number note_arrival l.index.notes (into_iter_items l.note-iterator);
}
