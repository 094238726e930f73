use Rattle.std.proofs.Common.{rules, ◌≡◌, ◌∙◌, Some, length}
use Rattle.row_index.specs.Texts.{texts_of, with_text}
use Rattle.row_index.specs.Notes.{note_texts_of, notes_with}
use Rattle.probe_eval.specs.declared.kinds.FieldKind.TheVariants.{OfNotes}
use Rattle.probe_eval.specs.Kinds.{field_kind, of_docs}
use Rattle.probe_eval.specs.Work.{rows_with}
use Rattle.probe_eval.proofs.AccessLists.{docs_with, notes_of_text}
use Rattle.probe_eval.proofs.ShortestLaws.{docs_counted, notes_counted}
use Rattle.probe_eval.proofs.lists.count_with.Goals as goal

pub returns-in-OfDocs : goal.returns-in-OfDocs
returns-in-OfDocs c =
    let docs = with_text (texts_of c.in-OfDocs.kind) c.args.text.now c.args.index.now.docs in
    let k : of_docs (field_kind c.args.field) ≡ Some c.in-OfDocs.kind = search rules in
    let e : c.len.result ≡ length docs = search rules in
    e ∙ docs_counted docs (rows_with c.args.field c.args.index.now c.args.text.now)
    (docs_with c.args.field c.in-OfDocs.kind k c.args.index.now c.args.text.now)

pub returns-in-OfNotes : goal.returns-in-OfNotes
returns-in-OfNotes c =
    let notes = notes_with (note_texts_of c.in-OfNotes.kind) c.args.text.now c.args.index.now.notes in
    let k : field_kind c.args.field ≡ OfNotes c.in-OfNotes.kind = search rules in
    let e : c.count_by.result ≡ length notes = search rules in
    e ∙ notes_counted notes (rows_with c.args.field c.args.index.now c.args.text.now)
    (notes_of_text c.args.field c.in-OfNotes.kind k c.args.index.now c.args.text.now)
