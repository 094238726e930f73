-- The kinds of texts by which the index finds rows of a field.
use Rattle.std.specs.Prelude.{Option, Some, None}
use Rattle.tql_core.specs.declared.atom.TextField.{TextField}
use Rattle.tql_core.specs.declared.atom.TextField.TheVariants.{From, Subject, MsgId, InReplyTo, Author, NoteKind, NoteText}
use Rattle.tql_core.specs.declared.atom.ListField.{ListField}
use Rattle.tql_core.specs.declared.atom.ListField.TheVariants.{To, Cc, Newsgroups, References, Words}
use Rattle.row_index.specs.declared.text_kind.TextKind.{TextKind}
use Rattle.row_index.specs.declared.text_kind.TextKind.TheVariants as K
use Rattle.row_index.specs.declared.note_text_kind.NoteTextKind.TheVariants as N
use Rattle.probe_eval.specs.declared.kinds.FieldKind.{FieldKind}
use Rattle.probe_eval.specs.declared.kinds.FieldKind.TheVariants.{OfDocs, OfNotes}

-- the kind of text by which the index finds rows of a field
abbrev pub field_kind : TextField → FieldKind
field_kind From = OfDocs K.Sender
field_kind Subject = OfDocs K.Subject
field_kind MsgId = OfDocs K.MsgId
field_kind InReplyTo = OfDocs K.Parent
field_kind Author = OfNotes N.Author
field_kind NoteKind = OfNotes N.Kind
field_kind NoteText = OfNotes N.Text

-- the kind, if it is one of documents
abbrev pub of_docs : FieldKind → Option TextKind
of_docs (OfDocs own) = Some own
of_docs (OfNotes own) = None

-- the kind of text by which the index finds documents of a field that is a list
abbrev pub list_kind : ListField → TextKind
list_kind To = K.To
list_kind Cc = K.Cc
list_kind Newsgroups = K.Newsgroups
list_kind References = K.Reference
list_kind Words = K.Word
