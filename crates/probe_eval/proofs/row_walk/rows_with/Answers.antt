use Rattle.std.proofs.Common.{rules, ◌≡◌, ◌∙◌, Some, ap, map}
use Rattle.tql_core.specs.Row.{OfDoc, OfNote}
use Rattle.row_index.specs.Texts.{texts_of, with_text}
use Rattle.row_index.specs.Notes.{note_texts_of, notes_with}
use Rattle.probe_eval.specs.declared.kinds.FieldKind.TheVariants.{OfNotes}
use Rattle.probe_eval.specs.Kinds.{field_kind, of_docs}
use Rattle.probe_eval.proofs.AccessLists.{docs_with, notes_of_text}
use Rattle.probe_eval.proofs.row_walk.rows_with.Goals as goal

pub returns-in-OfDocs : goal.returns-in-OfDocs
returns-in-OfDocs c =
    let k : of_docs (field_kind c.args.field) ≡ Some c.in-OfDocs.kind = search rules in
    let e : c.walk.result ≡ with_text (texts_of c.in-OfDocs.kind) c.args.text.now c.args.index.now.docs = search rules in
    ap (map OfDoc) e ∙ docs_with c.args.field c.in-OfDocs.kind k c.args.index.now c.args.text.now

pub returns-in-OfNotes : goal.returns-in-OfNotes
returns-in-OfNotes c =
    let k : field_kind c.args.field ≡ OfNotes c.in-OfNotes.kind = search rules in
    let e : c.notes_by.result ≡ notes_with (note_texts_of c.in-OfNotes.kind) c.args.text.now c.args.index.now.notes = search rules in
    ap (map OfNote) e ∙ notes_of_text c.args.field c.in-OfNotes.kind k c.args.index.now c.args.text.now
