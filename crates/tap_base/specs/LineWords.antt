-- The words of a line: its longest runs of bytes that aren't blanks.
use Rattle.std.specs.Prelude.{ℕ, zero, suc, ◌-◌, ◌<◌, List, length, take, drop, Bool, not, ◌==◌, ◌&&◌, ◌||◌, slice_index}
use Rattle.std.specs.List.{prefix_len, position_or_len}
use Rattle.tap_base.specs.Bytes.{is_blank}

-- a text without the blanks at its front
abbrev pub after_blanks : List ℕ → List ℕ
after_blanks text = drop (prefix_len is_blank text) text

-- a text without the word at its front
abbrev pub after_word : List ℕ → List ℕ
after_word text = drop (position_or_len is_blank text) text

-- what follows the first n words of a line and the blanks after them
abbrev pub after_words : ℕ → List ℕ → List ℕ
after_words zero line = after_blanks line
after_words (suc n) line = after_blanks (after_word (after_words n line))

-- the word at the front of a text
abbrev pub first_word : List ℕ → List ℕ
first_word text = take (position_or_len is_blank text) text

-- the word of place n, from 0, in a line; it is empty if there is none
abbrev pub word : ℕ → List ℕ → List ℕ
word n line = first_word (after_words n line)

-- is the text not empty?
abbrev pub is_some : List ℕ → Bool
is_some text = not (length text == 0)

-- a line is skipped if it has no words or its first word begins with `#`
abbrev pub is_skipped : List ℕ → Bool
is_skipped line = not (is_some (word 0 line)) || (slice_index (word 0 line) 0 == 35)

-- has the line exactly n words? (n is at least 1)
abbrev pub has_words : ℕ → List ℕ → Bool
has_words n line = is_some (word (n - 1) line) && not (is_some (word n line))

-- the place of one of the eight words of a line that are read
abbrev pub IsWordPlace : ℕ → Type 0
IsWordPlace n = n < 8
