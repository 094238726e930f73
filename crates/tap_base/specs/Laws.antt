-- The words of a line by their places are the parts between its blanks.
use Rattle.std.specs.Prelude.{ℕ, zero, suc, ◌≡◌, ◌<◌, List, [], ◌∷◌, length, filter, ◌==◌}
use Rattle.std.specs.List.{slice_split}
use Rattle.tap_base.specs.Bytes.{is_blank}
use Rattle.tap_base.specs.LineWords.{word, has_words, is_some}

-- the words of a line: the parts between the blanks that are not empty
abbrev pub words_of_line : List ℕ → List (List ℕ)
words_of_line line = filter is_some (slice_split is_blank line)

-- the text of place n, from 0; it is empty if there is none
abbrev pub text_at : ℕ → List (List ℕ) → List ℕ
text_at n [] = []
text_at zero (text ∷ texts) = text
text_at (suc n) (text ∷ texts) = text_at n texts

-- the word of place n is the line's nth part, and a line has n words if and only if it has n parts
abbrev pub WordsAreParts : Type 0
WordsAreParts =
    (n : ℕ) (line : List ℕ)
    → (word n line ≡ text_at n (words_of_line line)) × (0 < n → has_words n line ≡ (length (words_of_line line) == n))
