-- A run's documents as one message that holds them in mbox form.
use Rattle.std.specs.Prelude.{ℕ, ◌-◌, ◌==◌, ℤ, List, [], ◌∷◌, ◌++◌, length, take, drop, map, nat_eq}
use Rattle.std.specs.Prelude.{Option, Some, None, codes, if◌then◌else◌}
use Rattle.std.specs.List.{find, flat_map, suffix_len}
use Rattle.std.specs.Fmt.{decimal, signed_decimal}
use Rattle.tap_rows.specs.declared.rows.Doc.{Doc}
use Rattle.tap_rows.specs.declared.results.Entry.{Entry}
use Rattle.mail_lines.specs.Lines.{parts, without_empty_end}
use Rattle.mail_lines.specs.Mbox.{is_from_line, quotes}

-- a document of a digest: its number, its first second and its text
pub record Digested : Type 0 where
  pub doc : ℕ
  pub first : ℤ
  pub text : List ℕ

-- a line without all CRs at its end
abbrev pub without_returns : List ℕ → List ℕ
without_returns line = take (length line - suffix_len (λ b. b == 13) line) line

-- the lines of a text: the parts between the LFs, the last one only if it isn't empty, each without all CRs at its end
abbrev pub lined : List ℕ → List (List ℕ)
lined text = map without_returns (without_empty_end (parts text))

-- the text of some lines: each line, followed by an LF
abbrev pub text_of_lines : List (List ℕ) → List ℕ
text_of_lines lines = flat_map (λ line. line ++ 10 ∷ []) lines

-- a text by its lines, each followed by an LF
abbrev pub lined_text : List ℕ → List ℕ
lined_text text = text_of_lines (lined text)

-- a line of zero or more `>` and then `From ` gets one `>` before it
abbrev pub from_quoted : List ℕ → List ℕ
from_quoted line = if is_from_line (drop (quotes line) line) then 62 ∷ line else line

-- the line before a document's lines: its number and its first second
abbrev pub from_line : ℕ → ℤ → List ℕ
from_line doc first = codes "From doc " ++ decimal doc ++ codes " first " ++ signed_decimal first

-- the lines of a document: its `From ` line with its number and first second, the lines of its text, quoted, and an empty line
abbrev pub digested_lines : Digested → List (List ℕ)
digested_lines d = from_line d.doc d.first ∷ map from_quoted (lined d.text) ++ [] ∷ []

-- the subject of a digest: the query's name and the ordinal of its run
abbrev pub subject_line : List ℕ → ℕ → List ℕ
subject_line name ordinal = codes "Subject: digest " ++ name ++ codes " " ++ decimal ordinal

-- the lines of a digest: a header of two fields, an empty line, and the lines of each document
abbrev pub digest_lines : List ℕ → ℕ → List Digested → List (List ℕ)
digest_lines name ordinal docs = codes "From: tapestry" ∷ subject_line name ordinal ∷ [] ∷ flat_map digested_lines docs

-- an entry with the text of its document, if there is one
abbrev pub digested_with : Entry → Option Doc → List Digested
digested_with entry None = []
digested_with entry (Some doc) = record { doc = entry.doc.0; first = entry.first; text = doc.text } ∷ []

-- an entry with the text of the document of its number, if there is one
abbrev pub digested_entry : List Doc → Entry → List Digested
digested_entry docs entry = digested_with entry (find (λ doc. nat_eq doc.num.0 entry.doc.0) docs)

-- the entries, in their order, each with its document's text; an entry without a document is left out
abbrev pub digested : List Doc → List Entry → List Digested
digested docs entries = flat_map (digested_entry docs) entries

-- the text of a digest: its lines, each followed by an LF
abbrev pub digest_text : List ℕ → ℕ → List Digested → List ℕ
digest_text name ordinal docs = text_of_lines (digest_lines name ordinal docs)
