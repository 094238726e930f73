-- What an index holds besides its rows.
use Rattle.std.specs.Prelude.{ℕ, ℤ, pos, neg_ℤ, ◌<◌, ◌≤ℤ◌, ◌^◌, List, [], ◌∷◌, nat_eq}
use Rattle.std.specs.Ordering.{int_eq}
use Rattle.tap_rows.specs.declared.rows.Doc.{Doc}
use Rattle.tap_rows.specs.declared.rows.Note.{Note}
use Rattle.tap_rows.specs.Kept.{Each}
use Rattle.tap_rows.specs.Fields.{fields}
use Rattle.row_index.specs.declared.dates.Dates.{Dates}
use Rattle.row_index.specs.declared.doc_places.DocPlaces.{DocPlaces}
use Rattle.row_index.specs.Orders.{InPlace, doc_number, doc_arrival, note_number, note_arrival}
use Rattle.row_index.specs.declared.note_places.NotePlaces.{NotePlaces}
use Rattle.row_index.specs.Posts.{Posts, with_key}
use Rattle.row_index.specs.Texts.{TextPosts}
use Rattle.row_index.specs.Dates.{DatePosts}
use Rattle.row_index.specs.Numbers.{doc_sizes}
use Rattle.row_index.specs.Notes.{NotePosts}

-- the documents are found by their dates and sizes
pub record NumberPosts (docs : List Doc) (by_date : Dates) (by_size : List (ℤ × List ℕ)) : Type 0 where
  pub dates : DatePosts docs by_date
  pub sizes : Posts int_eq doc_sizes doc_number docs by_size

-- the documents are found by their texts, dates and sizes
pub record DocPosts (docs : List Doc) (places : DocPlaces) : Type 0 where
  pub texts : TextPosts docs places.texts
  pub numbers : NumberPosts docs places.dates places.sizes

-- the document that a note is on
abbrev pub noted : Note → List ℕ
noted note = note.doc.0 ∷ []

-- the notes on a document
abbrev pub indexed_notes : ℕ → List Note → List Note
indexed_notes doc notes = with_key nat_eq noted doc notes

-- each note is on a document whose number has 32 bits
abbrev pub AreOnDocs : List Note → Type 0
AreOnDocs notes = Each (λ note. note.doc.0 < 2 ^ 32) notes

-- each document's size has 32 bits
abbrev pub AreSized : List Doc → Type 0
AreSized docs = Each (λ doc. (fields doc).size < 2 ^ 32) docs

-- the value of a note has 64 bits, with a sign
abbrev pub HasValue : Note → Type 0
HasValue note = (neg_ℤ (pos 9223372036854775808) ≤ℤ note.value) × (note.value ≤ℤ pos 9223372036854775807)

-- the value of each note has 64 bits, with a sign
abbrev pub AreValued : List Note → Type 0
AreValued notes = Each HasValue notes

-- documents and notes stand `InPlace`; sizes, and the numbers of the documents that notes are on, have 32 bits, and values have
-- 64; and under each text, number and date stand the places of exactly the rows that have it, in order
pub record IsIndexOf (docs : List Doc) (places : DocPlaces) (notes : List Note) (note_places : NotePlaces) : Type 0 where
  pub docs_stand : InPlace doc_number doc_arrival docs
  pub notes_stand : InPlace note_number note_arrival notes
  pub docs_found : DocPosts docs places
  pub notes_found : NotePosts notes note_places
  pub notes_on_docs : AreOnDocs notes
  pub docs_sized : AreSized docs
  pub notes_have_values : AreValued notes
