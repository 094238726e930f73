-- The lines and the size of a letter, and the rows that list letters.
use Rattle.std.specs.Prelude.{ℕ, ◌-◌, ◌+◌, ◌==◌, List, [], ◌∷◌, ◌++◌, length, Option, None, slice_get, slice_index}
use Rattle.std.specs.Prelude.{codes, if◌then◌else◌}
use Rattle.std.specs.List.{flat_map}
use Rattle.std.specs.Fmt.{decimal}
use Rattle.mail_fields.specs.Digests.{lined}
use Rattle.pop_session.specs.declared.letter.Letter.{Letter}
use Rattle.pop_session.specs.declared.reply.Listing.{Listing}
use Rattle.pop_session.specs.declared.reply.Listing.TheVariants.{Sizes, Ids}

-- a line: a text and CRLF
abbrev pub crlf_line : List ℕ → List ℕ
crlf_line text = text ++ 13 ∷ 10 ∷ []

-- the size of a text: the bytes of its lines, each with CRLF
abbrev pub size_of : List ℕ → ℕ
size_of text = length (flat_map crlf_line (lined text))

-- the size of all letters together
abbrev pub total_size : List Letter → ℕ
total_size [] = 0
total_size (letter ∷ letters) = size_of letter.text + total_size letters

-- a line that begins with a dot gets one more dot before it
abbrev pub stuffed : List ℕ → List ℕ
stuffed text = if slice_index text 0 == 46 then 46 ∷ text else text

-- the lines of a text as they are sent
abbrev pub sent_lines : List ℕ → List ℕ
sent_lines text = flat_map (λ text. crlf_line (stuffed text)) (lined text)

-- the letter of a number, from 1, if there is one
abbrev pub letter_at : List Letter → ℕ → Option Letter
letter_at letters n = if n == 0 then None else slice_get letters (n - 1)

-- the row of a letter: its number, and its size, or `d` and the number of its document
abbrev pub row_text : Listing → ℕ → Letter → List ℕ
row_text Sizes n letter = decimal n ++ codes " " ++ decimal (size_of letter.text)
row_text Ids n letter = decimal n ++ codes " d" ++ decimal letter.doc.0

-- the rows of letters, the first of which has this number
abbrev pub rows_from : Listing → ℕ → List Letter → List ℕ
rows_from listing n [] = []
rows_from listing n (letter ∷ letters) = crlf_line (row_text listing n letter) ++ rows_from listing (n + 1) letters
