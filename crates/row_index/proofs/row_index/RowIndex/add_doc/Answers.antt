use Rattle.std.proofs.Common.{rules, arith, ◌≡◌, ◌+◌, ◌<◌, ◌-◌, ◌^◌, ◌++◌, ◌∷◌, [], ◌≤ℤ◌, length, List, sym, subst}
use Rattle.tap_rows.specs.declared.rows.Doc.{Doc}
use Rattle.tap_rows.specs.declared.tables.Tables.{Tables}
use Rattle.tap_rows.specs.Fields.{fields}
use Rattle.tap_rows.specs.Kept.{Each}
use Rattle.row_index.specs.Texts.{IsNext}
use Rattle.row_index.specs.Held.{DocPosts}
use Rattle.row_index.proofs.HeldLaws.{held_doc_more, word_place_free}
use Rattle.row_index.proofs.row_index.RowIndex.add_doc.Goals as goal

pub add-requires : goal.add-requires
add-requires c =
    let number : c.args.doc.num.0 ≡ length c.self.inside.docs.items + 1 = search rules in
    let behind : c.doc_num-place.result - 1 ≡ length c.self.inside.docs.items = grind (arith, number, c.doc_num-place.ensures) in
    word_place_free c.self.inside.docs.items c.self.inside.places c.self.inside.notes.items c.self.inside.note_places _
    c.self.invariant behind

pub set_words-requires : goal.set_words-requires
unfolding fields
set_words-requires c = search rules

pub invariant_of-self-in-Ok : goal.invariant_of-self-in-Ok
invariant_of-self-in-Ok c =
    let old = c.self.inside.docs.items in
    let number : c.args.doc.num.0 ≡ length old + 1 = search rules in
    let fits : c.args.doc.num.0 < 2 ^ 32 = search rules in
    let size : (fields c.args.doc).size < 2 ^ 32 = search rules in
    let late : Each (λ other. other.arrival ≤ℤ c.args.doc.arrival) old =
    subst (λ (t : Tables). Each (λ other. other.arrival ≤ℤ c.args.doc.arrival) t.docs) (sym c.self.view_is) c.requires.after in
    let found : (docs : List Doc) → IsNext docs c.args.doc (c.doc_num-place.result - 1) → DocPosts docs c.self.inside.places
    → DocPosts (docs ++ c.args.doc ∷ []) c.add.new.self = search rules in
    held_doc_more old c.push.new.self.items c.args.doc (c.doc_num-place.result - 1) c.self.inside.places c.add.new.self
    c.self.inside.notes.items c.self.inside.note_places c.self.invariant number fits size c.requires.moment late
    (search rules) found (search rules)
