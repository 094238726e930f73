-- The letters of a box.
use Rattle.std.specs.Prelude.{ℕ, List, [], ◌∷◌, Option, Some, None}
use Rattle.std.specs.List.{flat_map}
use Rattle.std.specs.Option.{option_map}
use Rattle.tap_base.specs.declared.numbers.DocNum.{DocNum}
use Rattle.tap_rows.specs.declared.tables.Tables.{Tables}
use Rattle.tap_rows.specs.declared.rows.Doc.{Doc}
use Rattle.tap_rows.specs.declared.results.Listed.{Listed}
use Rattle.tap_engine.specs.Lists.{listing_in, text_in}
use Rattle.pop_session.specs.declared.letter.Letter.{Letter}

-- a document as a letter, if it has a text
abbrev pub letter_with : DocNum → Option (List ℕ) → List Letter
letter_with doc None = []
letter_with doc (Some text) = record { doc = doc; text = text } ∷ []

-- the listed documents as letters, in their order
abbrev pub letters_of : List Doc → List Listed → List Letter
letters_of docs rows = flat_map (λ row. letter_with row.entry.doc (text_in row.entry.doc.0 docs)) rows

-- the letters of the user's box of this name, in the order of its listing, if the user has a query of this name
abbrev pub letters_in : List ℕ → List ℕ → Tables → Option (List Letter)
letters_in user name tables = option_map (letters_of tables.docs) (listing_in user name tables)
