-- The rows of letters, from one on.
use Rattle.std.proofs.Common.{◌≡◌, ◌∙◌, sym, ap, arith, ℕ, suc, List, [], ◌∷◌, ◌++◌, ◌+◌, ◌<◌, ◌≤◌, drop, length, get_or, true}
use Rattle.std.specs.Prelude.{◌==◌, slice_index, if◌then◌else◌}
use Rattle.std.specs.List.{flat_map}
use Rattle.mail_fields.specs.Digests.{lined}
use Rattle.std.proofs.Math.Seq.{drop-cons}
use Rattle.std.proofs.lemmas.Bool.Decides.{Decides-eqb}
use Rattle.std.proofs.lemmas.List.{at_drop_all, nil_from_length}
use Rattle.pop_session.specs.declared.letter.Letter.{Letter}
use Rattle.pop_session.specs.declared.reply.Listing.{Listing}
use Rattle.pop_session.specs.Letters.{crlf_line, stuffed, sent_lines, row_text, rows_from}

-- the row of the next letter, and those of the letters after it
pub rows-next : (listing : Listing) (letters : List Letter) (i : ℕ) (letter : Letter) (bytes : List ℕ)
    → i < length letters → letter ≡ get_or letters i letter → bytes ≡ crlf_line (row_text listing (i + 1) letter)
    → rows_from listing (i + 1) (drop i letters) ≡ bytes ++ rows_from listing (i + 1 + 1) (drop (i + 1) letters)
rows-next listing letters i letter bytes lt is row =
    let one : suc i ≡ i + 1 = omega arith in
    ap (rows_from listing (i + 1)) (drop-cons letters i letter lt)
    ∙ ap (λ l. crlf_line (row_text listing (i + 1) l) ++ rows_from listing (i + 1 + 1) (drop (suc i) letters)) (sym is)
    ∙ ap (λ xs. xs ++ rows_from listing (i + 1 + 1) (drop (suc i) letters)) (sym row)
    ∙ ap (λ k. bytes ++ rows_from listing (i + 1 + 1) (drop k letters)) one

-- a line that begins with a dot
pub dotted : (text : List ℕ) → (slice_index text 0 == 46) ≡ true → crlf_line (stuffed text) ≡ (46 ∷ []) ++ crlf_line text
dotted text e = ap (λ b. crlf_line (if b then 46 ∷ text else text)) e

-- the lines of a text are the first and those of the rest
pub lines-next : (text first rest : List ℕ) → lined text ≡ first ∷ lined rest
    → sent_lines text ≡ crlf_line (stuffed first) ++ sent_lines rest
lines-next text first rest e = ap (flat_map (λ t. crlf_line (stuffed t))) e

-- behind the last letter there is no row
pub no-rows : (listing : Listing) (letters : List Letter) (i : ℕ) → length letters ≤ i → rows_from listing (i + 1) (drop i letters) ≡ []
no-rows listing letters i past = at_drop_all (rows_from listing (i + 1)) letters i past

-- and a text without bytes has no line
pub no-lines : (text : List ℕ) → (length text == 0) ≡ true → sent_lines text ≡ []
no-lines text none = ap sent_lines (nil_from_length text ((Decides-eqb (length text) 0).0 none))
