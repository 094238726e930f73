use Rattle.std.proofs.Common.{rules, ◌≡◌, ◌∙◌, sym, ap, subst, List, [], ◌∷◌}
use Rattle.std.specs.Prelude.{◌≤ℤ◌}
use Rattle.std.specs.Vec.Iter.{into_iter_items}
use Rattle.tap_rows.specs.declared.tables.Tables.{Tables}
use Rattle.tap_rows.specs.declared.rows.Doc.{Doc}
use Rattle.tap_rows.specs.declared.change.Change.TheVariants.{Docs}
use Rattle.tap_rows.specs.Kept.{Each}
use Rattle.tap_rows.specs.Tables.{after}
use Rattle.row_index.specs.Orders.{doc_number, doc_arrival}
use Rattle.tap_kept.specs.Starting.{FollowInOrder}
use Rattle.tap_kept.proofs.LeftLaws.{left-after, left-next, docs-next}
use Rattle.tap_kept.proofs.indexing.add_docs.Goals as goal

pub add_doc-requires-clause-after : goal.add_doc-requires-clause-after
add_doc-requires-clause-after c =
    let now : Tables = c.loop-doc.index in
    let rest : List Doc = into_iter_items c.next.new.self in
    let items : into_iter_items c.loop-doc.doc-iterator ≡ c.in-Some.doc ∷ rest = search rules in
    let left : FollowInOrder doc_number doc_arrival now.docs (c.in-Some.doc ∷ rest) =
    subst (λ l. FollowInOrder doc_number doc_arrival now.docs l) items c.loop-doc.invariant.left in
    let at : c.in_ok-keep.field-0 ≡ c.in-Some.doc = search rules in
    subst (λ z. Each (λ (other : Doc). other.arrival ≤ℤ z) now.docs) (sym (ap (λ (d : Doc). d.arrival) at))
    (left-after doc_number doc_arrival now.docs c.in-Some.doc rest left)

pub loop-doc-preserved : goal.loop-doc-preserved
loop-doc-preserved c =
    let now : Tables = c.loop-doc.index in
    let rest : List Doc = into_iter_items c.next.new.self in
    let items : into_iter_items c.loop-doc.doc-iterator ≡ c.in-Some.doc ∷ rest = search rules in
    let left : FollowInOrder doc_number doc_arrival now.docs (c.in-Some.doc ∷ rest) =
    subst (λ l. FollowInOrder doc_number doc_arrival now.docs l) items c.loop-doc.invariant.left in
    let at : c.in_ok-keep.field-0 ≡ c.in-Some.doc = search rules in
    let new : c.add_doc.new.self ≡ after now (Docs (c.in-Some.doc ∷ [])) = c.in_ok-add_doc.ensures.ok
    ∙ ap (λ (d : Doc). after now (Docs (d ∷ []))) at in
    record {
      len = search rules;
      all = c.loop-doc.invariant.all ∙ ap (λ l. after now (Docs l)) items ∙ docs-next now c.add_doc.new.self c.in-Some.doc rest new;
      left = subst (λ (t : Tables). FollowInOrder doc_number doc_arrival t.docs rest) (sym new)
          (left-next doc_number doc_arrival now.docs c.in-Some.doc rest left);
      short = search rules;
    }
