-- The words of a text that is cut at bytes of no word, and of a text with A to Z lowered.
use Rattle.std.proofs.Common.{◌≡◌, ◌∙◌, sym, ap, refl, arith, ℕ, suc, List, [], ◌∷◌, ◌++◌, ◌+◌, ◌-◌, map, take, drop, length}
use Rattle.std.proofs.Common.{Bool, true, false, if◌then◌else◌, ◌<◌}
use Rattle.std.specs.Prelude.{filter, not, ◌==◌, slice_index}
use Rattle.std.specs.List.{slice_split, position_or_len, onto_first, join_with_byte, flat_map}
use Rattle.std.specs.Char.{to_ascii_lowercase}
use Rattle.std.specs.Str.{str_to_ascii_lowercase}
use Rattle.std.specs.Str.Lines.{lines, lines_of_parts, strip_carriage_return}
use Rattle.std.proofs.lemmas.List.{append-nil, map-append, length-map, take-map, drop-map}
use Rattle.std.proofs.lemmas.List.Elements.{filter-append}
use Rattle.std.proofs.lemmas.List.Splits.{join_with_byte-slice_split}
use Rattle.std.proofs.lemmas.Str.Ascii.{lowercase-lowercase}
use Rattle.tap_base.specs.Words.{words, lowered_words, is_word_byte}
use Rattle.tap_base.proofs.Added.{ends_word, words-first}
use Rattle.tap_base.proofs.Parts.{some_part}

-- parts of two texts with a cut between them
split-cut : (p : ℕ → Bool) (xs ys : List ℕ) (b : ℕ) → p b ≡ true → slice_split p (xs ++ b ∷ ys) ≡ slice_split p xs ++ slice_split p ys
split-cut p [] ys b e = rw e refl
split-cut p (x ∷ xs) ys b e = go (p x) (split-cut p xs ys b e) where
  front : (rest all : List (List ℕ)) → (part : List ℕ) × (parts : List (List ℕ)) × (rest ≡ part ∷ parts)
      → onto_first x (rest ++ all) ≡ onto_first x rest ++ all
  front rest all (part, parts, is) = rw is refl

  go : (t : Bool) → slice_split p (xs ++ b ∷ ys) ≡ slice_split p xs ++ slice_split p ys
      → (if t then [] ∷ slice_split p (xs ++ b ∷ ys) else onto_first x (slice_split p (xs ++ b ∷ ys)))
      ≡ (if t then [] ∷ slice_split p xs else onto_first x (slice_split p xs)) ++ slice_split p ys
  go true rest = ap (λ ss. [] ∷ ss) rest
  go false rest = ap (λ ss. onto_first x ss) rest ∙ front (slice_split p xs) (slice_split p ys) (some_part p xs)

lowered-append : (xs ys : List (List ℕ)) → lowered_words (xs ++ ys) ≡ lowered_words xs ++ lowered_words ys
lowered-append xs ys = ap (map str_to_ascii_lowercase) (filter-append (λ part. not (length part == 0)) xs ys)
    ∙ map-append str_to_ascii_lowercase _ _

-- the words of two texts with a byte of no word between them
pub words-cut : (xs ys : List ℕ) (b : ℕ) → is_word_byte b ≡ false → words (xs ++ b ∷ ys) ≡ words xs ++ words ys
words-cut xs ys b e = ap lowered_words (split-cut ends_word xs ys b (ap not e))
    ∙ lowered-append (slice_split ends_word xs) (slice_split ends_word ys)

-- a first byte of no word, and a first word
pub words-skip : (bytes : List ℕ) (n : ℕ) → n ≡ position_or_len ends_word bytes → n ≡ 0 → words bytes ≡ words (drop 1 bytes)
words-skip bytes n e none = let is : 0 ≡ position_or_len ends_word bytes = sym none ∙ e in words-first bytes 0 is

one-word : (part : List ℕ) → 0 < length part → lowered_words (part ∷ []) ≡ str_to_ascii_lowercase part ∷ []
one-word [] some = absurd (omega (arith, some))
one-word (b ∷ part) some = let e : (suc (length part) == 0) ≡ false = grind arith in rw e refl

pub words-begin : (bytes : List ℕ) (n : ℕ) → n ≡ position_or_len ends_word bytes → 0 < length (take n bytes)
    → words bytes ≡ str_to_ascii_lowercase (take n bytes) ∷ words (drop (n + 1) bytes)
words-begin bytes n e some = words-first bytes n e ∙ ap (λ ws. ws ++ words (drop (n + 1) bytes)) (one-word (take n bytes) some)

-- bytes with A to Z lowered already
abbrev pub IsLow : List ℕ → Type 0
IsLow bytes = str_to_ascii_lowercase bytes ≡ bytes

-- lowered bytes
pub lower-end : (b : ℕ) → ends_word (to_ascii_lowercase b) ≡ ends_word b
lower-end b = grind arith

split-map : (p : ℕ → Bool) (f : ℕ → ℕ) → ((b : ℕ) → p (f b) ≡ p b) → (xs : List ℕ)
    → slice_split p (map f xs) ≡ map (map f) (slice_split p xs)
split-map p f same [] = refl
split-map p f same (x ∷ xs) = rw (same x) (go (p x) (split-map p f same xs)) where
  onto : (ss : List (List ℕ)) → onto_first (f x) (map (map f) ss) ≡ map (map f) (onto_first x ss)
  onto [] = refl
  onto (s ∷ ss) = refl

  go : (t : Bool) → slice_split p (map f xs) ≡ map (map f) (slice_split p xs)
      → (if t then [] ∷ slice_split p (map f xs) else onto_first (f x) (slice_split p (map f xs)))
      ≡ map (map f) (if t then [] ∷ slice_split p xs else onto_first x (slice_split p xs))
  go true rest = ap (λ ss. [] ∷ ss) rest
  go false rest = ap (λ ss. onto_first (f x) ss) rest ∙ onto (slice_split p xs)

pub low-lowered : (bytes : List ℕ) → IsLow (str_to_ascii_lowercase bytes)
low-lowered [] = refl
low-lowered (b ∷ bytes) = rw (lowercase-lowercase b) (ap (λ bs. to_ascii_lowercase b ∷ bs) (low-lowered bytes))

lower-parts : (parts : List (List ℕ)) → lowered_words (map str_to_ascii_lowercase parts) ≡ lowered_words parts
lower-parts [] = refl
lower-parts (part ∷ parts) = rw (length-map part to_ascii_lowercase) (go (not (length part == 0)) (lower-parts parts)) where
  go : (t : Bool) → lowered_words (map str_to_ascii_lowercase parts) ≡ lowered_words parts → map str_to_ascii_lowercase
      (if t then str_to_ascii_lowercase part ∷ filter (λ part. not (length part == 0)) (map str_to_ascii_lowercase parts)
      else filter (λ part. not (length part == 0)) (map str_to_ascii_lowercase parts)) ≡ map str_to_ascii_lowercase
      (if t then part ∷ filter (λ part. not (length part == 0)) parts else filter (λ part. not (length part == 0)) parts)
  go true rest = rw (low-lowered part) (ap (λ ws. str_to_ascii_lowercase part ∷ ws) rest)
  go false rest = rest

-- a text has the words that it has with A to Z lowered
pub words-lowered : (bytes : List ℕ) → words (str_to_ascii_lowercase bytes) ≡ words bytes
words-lowered bytes = ap lowered_words (split-map ends_word to_ascii_lowercase lower-end bytes) ∙ lower-parts (slice_split ends_word bytes)

pub low-take : (bytes : List ℕ) (n : ℕ) → IsLow bytes → IsLow (take n bytes)
low-take bytes n low = sym (take-map to_ascii_lowercase n bytes) ∙ ap (take n) low

pub low-drop : (bytes : List ℕ) (n : ℕ) → IsLow bytes → IsLow (drop n bytes)
low-drop bytes n low = sym (drop-map to_ascii_lowercase n bytes) ∙ ap (drop n) low

-- the words of lines
words-joined : (parts : List (List ℕ)) → words (join_with_byte 10 parts) ≡ flat_map words parts
words-joined [] = refl
words-joined (x ∷ []) = sym (append-nil (words x))
words-joined (x ∷ y ∷ parts) = words-cut x (join_with_byte 10 (y ∷ parts)) 10 refl ∙ ap (λ ws. words x ++ ws) (words-joined (y ∷ parts))

with-last : (bytes : List ℕ) → slice_index bytes (length bytes - 1) ≡ 13 → bytes ≡ take (length bytes - 1) bytes ++ 13 ∷ []
with-last [] e = absurd (omega (arith, e))
with-last (b ∷ []) e = ap (λ x. x ∷ []) e
with-last (b ∷ c ∷ bytes) e =
    let place : suc (suc (length bytes)) - 1 ≡ suc (length bytes) = omega arith in
    let inner : suc (length bytes) - 1 ≡ length bytes = omega arith in
    let last : slice_index (c ∷ bytes) (suc (length bytes) - 1) ≡ 13 = ap (slice_index (c ∷ bytes)) inner
    ∙ sym (ap (slice_index (b ∷ c ∷ bytes)) place) ∙ e in
    let front : take (suc (length bytes)) (b ∷ c ∷ bytes) ≡ b ∷ take (suc (length bytes) - 1) (c ∷ bytes) =
    ap (λ k. b ∷ take k (c ∷ bytes)) (sym inner) in
    ap (λ xs. b ∷ xs) (with-last (c ∷ bytes) last) ∙ ap (λ xs. xs ++ 13 ∷ []) (sym front)
    ∙ ap (λ k. take k (b ∷ c ∷ bytes) ++ 13 ∷ []) (sym place)

words-stripped : (bytes : List ℕ) → words (strip_carriage_return bytes) ≡ words bytes
words-stripped bytes = go (slice_index bytes (length bytes - 1) == 13) refl where
  same : (x : ℕ) → (x == 13) ≡ true → x ≡ 13
  same x e = grind (arith, e)

  go : (t : Bool) → (slice_index bytes (length bytes - 1) == 13) ≡ t
      → words (if t then take (length bytes - 1) bytes else bytes) ≡ words bytes
  go true e = sym (ap words (with-last bytes (same _ e)) ∙ words-cut (take (length bytes - 1) bytes) [] 13 refl ∙ append-nil _)
  go false e = refl

words-parts : (parts : List (List ℕ)) → flat_map words (lines_of_parts parts) ≡ flat_map words parts
words-parts [] = refl
words-parts ([] ∷ []) = refl
words-parts ((b ∷ part) ∷ []) = let e : (suc (length part) == 0) ≡ false = grind arith in rw e refl
words-parts (x ∷ y ∷ parts) = ap (λ ws. ws ++ flat_map words (lines_of_parts (y ∷ parts))) (words-stripped x)
    ∙ ap (λ ws. words x ++ ws) (words-parts (y ∷ parts))

-- the words of a text are those of its lines
pub words-lines : (bytes : List ℕ) → flat_map words (lines bytes) ≡ words bytes
words-lines bytes = words-parts (slice_split (λ b. b == 10) bytes) ∙ sym (words-joined (slice_split (λ b. b == 10) bytes))
    ∙ ap words (join_with_byte-slice_split 10 bytes)
