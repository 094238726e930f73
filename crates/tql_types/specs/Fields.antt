-- The fields of the two tables.
use Rattle.std.specs.Prelude.{ℕ, List, Bool, true, false, Option, Some, None, codes, if◌then◌else◌}
use Rattle.std.specs.Str.{bytes_eq}
use Rattle.tql_tree.specs.declared.table.Table.{Table}
use Rattle.tql_tree.specs.declared.table.Table.TheVariants.{Docs, Notes}
use Rattle.tql_core.specs.declared.atom.NumField.TheVariants.{Id, Size, DocOf, Value}
use Rattle.tql_core.specs.declared.atom.TextField.TheVariants.{From, Subject, MsgId, InReplyTo, Author, NoteKind, NoteText}
use Rattle.tql_core.specs.declared.atom.ListField.TheVariants.{To, Cc, Newsgroups, References, Words}
use Rattle.tql_types.specs.declared.field.Field.{Field}
use Rattle.tql_types.specs.declared.field.Field.TheVariants.{Number, Text, List as Texts, Arrival, Date}

-- a document's field of this name
abbrev pub doc_field : List ℕ → Option Field
doc_field name =
    if bytes_eq name (codes "id") then Some (Number Id) else
    if bytes_eq name (codes "size") then Some (Number Size) else
    if bytes_eq name (codes "from") then Some (Text From) else
    if bytes_eq name (codes "subject") then Some (Text Subject) else
    if bytes_eq name (codes "msgid") then Some (Text MsgId) else
    if bytes_eq name (codes "inreplyto") then Some (Text InReplyTo) else
    if bytes_eq name (codes "ts") then Some Arrival else
    if bytes_eq name (codes "date") then Some Date else
    if bytes_eq name (codes "to") then Some (Texts To) else
    if bytes_eq name (codes "cc") then Some (Texts Cc) else
    if bytes_eq name (codes "newsgroups") then Some (Texts Newsgroups) else
    if bytes_eq name (codes "references") then Some (Texts References) else
    if bytes_eq name (codes "words") then Some (Texts Words) else None

-- a note's field of this name
abbrev pub note_field : List ℕ → Option Field
note_field name =
    if bytes_eq name (codes "id") then Some (Number Id) else
    if bytes_eq name (codes "doc") then Some (Number DocOf) else
    if bytes_eq name (codes "value") then Some (Number Value) else
    if bytes_eq name (codes "author") then Some (Text Author) else
    if bytes_eq name (codes "kind") then Some (Text NoteKind) else
    if bytes_eq name (codes "text") then Some (Text NoteText) else
    if bytes_eq name (codes "ts") then Some Arrival else None

-- a table's field of this name
abbrev pub field_named : Table → List ℕ → Option Field
field_named Docs name = doc_field name
field_named Notes name = note_field name

-- is the field a time?
abbrev pub is_time : Field → Bool
is_time Arrival = true
is_time Date = true
is_time field = false
