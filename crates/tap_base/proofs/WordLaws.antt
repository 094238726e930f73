-- Words by their places are the runs of bytes that aren't blanks.
use Rattle.std.proofs.Common.{◌≡◌, ◌∙◌, sym, ap, refl, subst, arith, ℕ, zero, suc, List, [], ◌∷◌, ◌+◌, ◌-◌, get_or, drop, length, Bool}
use Rattle.std.proofs.Common.{true, false, if◌then◌else◌, ◌≤◌, ◌<◌, ◌⊎◌, inl, inr}
use Rattle.std.specs.Prelude.{◌==◌, ◌&&◌, not, nat_lt, filter}
use Rattle.std.specs.List.{slice_split, position_or_len, onto_first}
use Rattle.std.proofs.lemmas.Bool.{cases_lt}
use Rattle.std.proofs.lemmas.List.{drop_more, drop_all, drop-drop}
use Rattle.std.proofs.lemmas.List.Sums.{passes_at_first}
use Rattle.tap_base.specs.Bytes.{is_blank}
use Rattle.tap_base.proofs.Parts.{whole_part, first_part}
use Rattle.tap_base.specs.LineWords.{after_blanks, after_word, after_words, first_word, word, is_some, has_words}
use Rattle.tap_base.specs.Laws.{words_of_line, text_at}

-- a blank before a text makes no word
blank-first : (b : ℕ) (xs : List ℕ) → is_blank b ≡ true → words_of_line (b ∷ xs) ≡ words_of_line xs
blank-first b xs passes =
    ap (λ t. filter is_some (if t then [] ∷ slice_split is_blank xs else onto_first b (slice_split is_blank xs))) passes

-- one blank at the front, and none
skips : (x : ℕ) (xs : List ℕ) → is_blank x ≡ true → after_blanks (x ∷ xs) ≡ after_blanks xs
skips x xs passes = grind (arith, passes)

stays : (x : ℕ) (xs : List ℕ) → is_blank x ≡ false → after_blanks (x ∷ xs) ≡ x ∷ xs
stays x xs other = grind (arith, other)

-- nor do more of them
after_blanks-words : (xs : List ℕ) → words_of_line (after_blanks xs) ≡ words_of_line xs
after_blanks-words [] = refl
after_blanks-words (x ∷ xs) = go (is_blank x) refl (after_blanks-words xs) where
  go : (t : Bool) → is_blank x ≡ t → words_of_line (after_blanks xs) ≡ words_of_line xs
      → words_of_line (after_blanks (x ∷ xs)) ≡ words_of_line (x ∷ xs)
  go true passes rest = ap (λ ys. words_of_line ys) (skips x xs passes) ∙ rest ∙ sym (blank-first x xs passes)
  go false other rest = ap (λ ys. words_of_line ys) (stays x xs other)

-- the words of a text are that at its front, if there is one, and those of what follows
pub first-words : (xs : List ℕ)
    → words_of_line xs ≡ (if is_some (first_word xs) then first_word xs ∷ words_of_line (after_word xs) else words_of_line (after_word xs))
first-words xs = go (cases_lt (position_or_len is_blank xs) (length xs)) where
  go : (position_or_len is_blank xs < length xs) ⊎ (length xs ≤ position_or_len is_blank xs) → words_of_line xs
      ≡ (if is_some (first_word xs) then first_word xs ∷ words_of_line (after_word xs) else words_of_line (after_word xs))
  go (inl lt) =
      ap (filter is_some) (first_part is_blank xs (position_or_len is_blank xs) refl lt)
      ∙ ap (λ ws. if is_some (first_word xs) then first_word xs ∷ ws else ws)
      (sym (ap words_of_line (drop_more xs (position_or_len is_blank xs) 0 lt) ∙ blank-first (get_or xs (position_or_len is_blank xs) 0)
      (drop (position_or_len is_blank xs + 1) xs) (passes_at_first is_blank xs 0 lt)))
  go (inr le) =
      ap (filter is_some) (whole_part is_blank xs (position_or_len is_blank xs) refl le).0
      ∙ ap (λ ws. if is_some (first_word xs) then first_word xs ∷ ws else ws)
      (sym (ap words_of_line (drop_all (position_or_len is_blank xs) xs le)))

-- a text without blanks at its front and without a word there is empty
no-word : (xs : List ℕ) → is_some (first_word (after_blanks xs)) ≡ false → after_blanks xs ≡ []
no-word [] none = refl
no-word (x ∷ xs) none = go (is_blank x) refl (no-word xs) where
  go : (t : Bool) → is_blank x ≡ t → (is_some (first_word (after_blanks xs)) ≡ false → after_blanks xs ≡ []) → after_blanks (x ∷ xs) ≡ []
  go true passes rest = skips x xs passes ∙ rest (subst (λ ys. is_some (first_word ys) ≡ false) (skips x xs passes) none)
  go false other rest = absurd (differ (some other) (subst (λ ys. is_some (first_word ys) ≡ false) (stays x xs other) none)) where
    some : is_blank x ≡ false → is_some (first_word (x ∷ xs)) ≡ true
    some other = grind (arith, other)

    differ : {b : Bool} → b ≡ true → b ≡ false → ⊥
    differ one other = grind (arith, one, other)

no-word-at : (n : ℕ) (line : List ℕ) → is_some (first_word (after_words n line)) ≡ false → after_words n line ≡ []
no-word-at zero line none = no-word line none
no-word-at (suc n) line none = no-word (after_word (after_words n line)) none

-- what follows the first n words has the words that follow them
pub rest-words : (n : ℕ) (line : List ℕ) → words_of_line (after_words n line) ≡ drop n (words_of_line line)
rest-words zero line = after_blanks-words line
rest-words (suc n) line = after_blanks-words (after_word (after_words n line))
    ∙ go (is_some (first_word (after_words n line))) refl (rest-words n line) where
      next : (ws : List (List ℕ)) → drop 1 (drop n ws) ≡ drop (suc n) ws
      next ws = let e : n + 1 ≡ suc n = omega arith in drop-drop 1 n ws ∙ ap (λ k. drop k ws) e

      go : (t : Bool) → is_some (first_word (after_words n line)) ≡ t → words_of_line (after_words n line) ≡ drop n (words_of_line line)
          → words_of_line (after_word (after_words n line)) ≡ drop (suc n) (words_of_line line)
      go true passes before = sym (ap (drop 1) (first-words (after_words n line) ∙ ap (λ t. if t then first_word (after_words n line)
          ∷ words_of_line (after_word (after_words n line)) else words_of_line (after_word (after_words n line))) passes))
          ∙ ap (drop 1) before ∙ next (words_of_line line)
      go false none before =
          let empty = no-word-at n line none in
          ap (λ u. words_of_line (after_word u)) empty ∙ ap (drop 1) (sym (ap words_of_line empty) ∙ before) ∙ next (words_of_line line)

text_at-drop : (n : ℕ) (ws : List (List ℕ)) → text_at n ws ≡ text_at zero (drop n ws)
text_at-drop zero [] = refl
text_at-drop zero (w ∷ ws) = refl
text_at-drop (suc n) [] = refl
text_at-drop (suc n) (w ∷ ws) = text_at-drop n ws

pub word-is : (n : ℕ) (line : List ℕ) → word n line ≡ text_at n (words_of_line line)
word-is n line = go (is_some (first_word (after_words n line))) refl ∙ ap (text_at zero) (rest-words n line)
    ∙ sym (text_at-drop n (words_of_line line)) where
      go : (t : Bool) → is_some (first_word (after_words n line)) ≡ t
          → first_word (after_words n line) ≡ text_at zero (words_of_line (after_words n line))
      go true passes = sym (ap (text_at zero) (first-words (after_words n line) ∙ ap (λ t. if t then first_word (after_words n line)
          ∷ words_of_line (after_word (after_words n line)) else words_of_line (after_word (after_words n line))) passes))
      go false none = let empty = no-word-at n line none in ap first_word empty ∙ sym (ap (λ u. text_at zero (words_of_line u)) empty)

-- there is a word at each place below their number
some-at : (parts : List (List ℕ)) (n : ℕ) → is_some (text_at n (filter is_some parts)) ≡ nat_lt n (length (filter is_some parts))
some-at [] n = grind arith
some-at (p ∷ parts) n = go (is_some p) refl n (some-at parts) where
  go : (t : Bool) → is_some p ≡ t → (n : ℕ)
      → ((n : ℕ) → is_some (text_at n (filter is_some parts)) ≡ nat_lt n (length (filter is_some parts)))
      → is_some (text_at n (if t then p ∷ filter is_some parts else filter is_some parts))
      ≡ nat_lt n (length (if t then p ∷ filter is_some parts else filter is_some parts))
  go true passes zero rest = passes ∙ first (length (filter is_some parts)) where
    first : (m : ℕ) → true ≡ nat_lt 0 (suc m)
    first m = grind arith
  go true passes (suc n) rest = rest n ∙ next n (length (filter is_some parts)) where
    next : (n m : ℕ) → nat_lt n m ≡ nat_lt (suc n) (suc m)
    next n m = grind arith
  go false none n rest = rest n

pub has_words-is : (n : ℕ) (line : List ℕ) → 0 < n → has_words n line ≡ (length (words_of_line line) == n)
has_words-is n line some =
    ap (λ w. is_some w && not (is_some (word n line))) (word-is (n - 1) line)
    ∙ ap (λ w. is_some (text_at (n - 1) (words_of_line line)) && not (is_some w)) (word-is n line)
    ∙ ap (λ b. b && not (is_some (text_at n (words_of_line line)))) (some-at (slice_split is_blank line) (n - 1))
    ∙ ap (λ b. nat_lt (n - 1) (length (words_of_line line)) && not b) (some-at (slice_split is_blank line) n)
    ∙ number (length (words_of_line line)) where
      number : (len : ℕ) → (nat_lt (n - 1) len && not (nat_lt n len)) ≡ (len == n)
      number len = grind (arith, some)
