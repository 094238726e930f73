use Rattle.std.proofs.Common.{◌≡◌, length, take}
use Rattle.row_index.specs.Held.{NumberPosts}
use Rattle.row_index.specs.Orders.{InPlace, doc_number, doc_arrival}
use Rattle.row_index.proofs.doc_places.cut_numbers.Given as goal

-- the documents that are left begin as all did, and their dates and sizes are there
abbrev pub invariant-docs : goal.invariant-docs
invariant-docs l = record {
  front : take l.len l.docs.items ≡ take l.len l.fn.docs.items;
  stand : InPlace doc_number doc_arrival l.docs.items;
  numbers : NumberPosts l.docs.items l.dates l.sizes;
}

abbrev pub decreases-docs : goal.decreases-docs
decreases-docs l = length l.docs.items
