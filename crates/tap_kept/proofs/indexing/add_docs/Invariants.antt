use Rattle.std.proofs.Common.{◌≡◌, ◌≤◌, length}
use Rattle.std.specs.Vec.Iter.{into_iter_items, into_iter_len}
use Rattle.tap_rows.specs.declared.change.Change.TheVariants.{Docs}
use Rattle.tap_rows.specs.Kept.{Each}
use Rattle.tap_rows.specs.Tables.{after}
use Rattle.row_index.specs.Orders.{doc_number, doc_arrival}
use Rattle.tap_kept.specs.Starting.{FollowInOrder}
use Rattle.tap_kept.proofs.indexing.add_docs.Given as goal

-- the documents that were added, and those that are left, which follow them in order
abbrev pub invariant-loop-doc : goal.invariant-loop-doc
invariant-loop-doc l = record {
  len : into_iter_len l.doc-iterator ≡ length (into_iter_items l.doc-iterator);
  all : after l.fn.index (Docs l.fn.docs) ≡ after l.index (Docs (into_iter_items l.doc-iterator));
  left : FollowInOrder doc_number doc_arrival l.index.docs (into_iter_items l.doc-iterator);
  short : Each (λ doc. length doc.text ≤ 1048576) (into_iter_items l.doc-iterator);
}
