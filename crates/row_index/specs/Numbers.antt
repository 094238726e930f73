-- Rows that are found by a number of theirs.
use Rattle.std.specs.Prelude.{ℕ, ℤ, pos, List, [], ◌∷◌, filter, nat_eq}
use Rattle.std.specs.Ordering.{int_eq}
use Rattle.tap_rows.specs.declared.rows.Doc.{Doc}
use Rattle.tap_rows.specs.declared.rows.Note.{Note}
use Rattle.tap_rows.specs.Fields.{fields}

-- the size of a document
abbrev pub doc_sizes : Doc → List ℤ
doc_sizes doc = pos (fields doc).size ∷ []

-- the number of the document that a note is on
abbrev pub note_docs : Note → List ℤ
note_docs note = pos note.doc.0 ∷ []

-- the value of a note
abbrev pub note_values : Note → List ℤ
note_values note = note.value ∷ []

-- the documents of this size
abbrev pub of_size : ℕ → List Doc → List Doc
of_size size docs = filter (λ doc. nat_eq (fields doc).size size) docs

-- the notes of this value
abbrev pub notes_valued : ℤ → List Note → List Note
notes_valued value notes = filter (λ note. int_eq note.value value) notes
