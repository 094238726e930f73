-- The texts by which notes are found.
use Rattle.std.specs.Prelude.{◌≡◌, ◌+◌, ℕ, pos, List, [], ◌∷◌, length}
use Rattle.std.specs.Str.{bytes_eq}
use Rattle.std.specs.Ordering.{int_eq}
use Rattle.tap_rows.specs.declared.rows.Note.{Note}
use Rattle.row_index.specs.declared.note_places.NotePlaces.{NotePlaces}
use Rattle.row_index.specs.declared.note_text_kind.NoteTextKind.{NoteTextKind}
use Rattle.row_index.specs.declared.note_text_kind.NoteTextKind.TheVariants.{Author, Kind, Text}
use Rattle.row_index.specs.Numbers.{note_docs, note_values}
use Rattle.row_index.specs.Orders.{Numbered, note_number}
use Rattle.row_index.specs.Places.{posted, unposted}
use Rattle.row_index.specs.Posts.{Posts, IsMaybePosted, with_key}

-- the text of a note, of this kind
abbrev pub indexed_text : NoteTextKind → Note → List ℕ
indexed_text Author note = note.author
indexed_text Kind note = note.kind
indexed_text Text note = note.text

-- the list of that text alone
abbrev pub note_texts_of : NoteTextKind → Note → List (List ℕ)
note_texts_of kind note = indexed_text kind note ∷ []

-- the notes of which one of these texts is the given one
abbrev pub notes_with : (Note → List (List ℕ)) → List ℕ → List Note → List Note
notes_with texts text notes = with_key bytes_eq texts text notes

-- the notes are found by their document, value and texts
pub record NotePosts (notes : List Note) (places : NotePlaces) : Type 0 where
  pub doc : Posts int_eq note_docs note_number notes places.doc
  pub value : Posts int_eq note_values note_number notes places.value
  pub author : Posts bytes_eq (note_texts_of Author) note_number notes places.author
  pub kind : Posts bytes_eq (note_texts_of Kind) note_number notes places.kind
  pub text : Posts bytes_eq (note_texts_of Text) note_number notes places.text

-- the note comes next after these, at this place
pub record IsNextNote (notes : List Note) (note : Note) (place : ℕ) : Type 0 where
  pub numbered : Numbered note_number 1 notes
  pub number : note.num.0 ≡ length notes + 1
  pub behind : place ≡ length notes

-- a note was put under its numbers and texts
pub record IsNotePosted (note : Note) (place : ℕ) (old new : NotePlaces) : Type 0 where
  pub doc : new.doc ≡ posted int_eq (pos note.doc.0) place old.doc
  pub value : new.value ≡ posted int_eq note.value place old.value
  pub author : new.author ≡ posted bytes_eq note.author place old.author
  pub kind : new.kind ≡ posted bytes_eq note.kind place old.kind
  pub text : new.text ≡ posted bytes_eq note.text place old.text

-- a note was put under some of its numbers and texts
pub record IsNotePartly (note : Note) (place : ℕ) (old new : NotePlaces) : Type 0 where
  pub doc : IsMaybePosted int_eq (pos note.doc.0) place old.doc new.doc
  pub value : IsMaybePosted int_eq note.value place old.value new.value
  pub author : IsMaybePosted bytes_eq note.author place old.author new.author
  pub kind : IsMaybePosted bytes_eq note.kind place old.kind new.kind
  pub text : IsMaybePosted bytes_eq note.text place old.text new.text

-- a note was removed from under its numbers and texts
pub record IsNoteForgotten (note : Note) (place : ℕ) (old new : NotePlaces) : Type 0 where
  pub doc : new.doc ≡ unposted int_eq (pos note.doc.0) place old.doc
  pub value : new.value ≡ unposted int_eq note.value place old.value
  pub author : new.author ≡ unposted bytes_eq note.author place old.author
  pub kind : new.kind ≡ unposted bytes_eq note.kind place old.kind
  pub text : new.text ≡ unposted bytes_eq note.text place old.text
