-- Where the words of a text come first.
use Rattle.std.specs.Prelude.{◌≡◌, ◌≤◌, ◌<◌, ℕ, ◌+◌, ◌-◌, ◌*◌, ◌%◌, ◌==◌, List, [], ◌∷◌, length, map, take, drop, get_or, Option, Some}
use Rattle.std.specs.Prelude.{None, if◌then◌else◌}
use Rattle.std.specs.Str.{str_to_ascii_lowercase}
use Rattle.tap_base.specs.declared.first_places.Gap.{Gap}
use Rattle.tap_base.specs.Words.{words, has_text, word_from, run_from, joined_text}

-- a tag of a word: other words mostly have another one
abbrev pub tag_of : List ℕ → ℕ
tag_of word = (get_or word 0 0 + 32 * (length word % 8)) % 256

-- a word's place in a text, and its tag
pub record First : Type 0 where
  pub place : ℕ
  pub tag : ℕ

-- some words by their places, and a place that is none of theirs is after
pub record Placed : Type 0 where
  pub firsts : List First
  pub last : ℕ

-- the sum of some distances
abbrev pub gap_total : List Gap → ℕ
gap_total [] = 0
gap_total (gap ∷ gaps) = gap.len + gap_total gaps

-- the places at these distances, each from the one before; one of 255 is followed by the rest of the distance
abbrev pub firsts_after : ℕ → List Gap → List First
firsts_after at [] = []
firsts_after at (gap ∷ gaps) = if gap.len == 255 then firsts_after (at + gap.len) gaps
    else record { place = at + gap.len; tag = gap.tag } ∷ firsts_after (at + gap.len) gaps

-- the places of the words with this tag
abbrev pub places_with : ℕ → List First → List ℕ
places_with tag [] = []
places_with tag (first ∷ firsts) = if first.tag == tag then first.place ∷ places_with tag firsts else places_with tag firsts

-- the words that begin at some places of a text
abbrev pub words_at : List ℕ → List First → List (List ℕ)
words_at text firsts = map (λ first. word_from text first.place) firsts

-- the tags are those of the words at the places
abbrev pub HaveTags : List ℕ → List First → Type 0
HaveTags text [] = Unit {0}
HaveTags text (first ∷ firsts) = (tag_of (word_from text first.place) ≡ first.tag) × HaveTags text firsts

-- each of some words is among the others, and the other way round
abbrev pub HoldSameTexts : List (List ℕ) → List (List ℕ) → Type 0
HoldSameTexts xs ys = (t : List ℕ) → has_text xs t ≡ has_text ys t

-- the words at these places are all of the text's
pub record AreWordsOf (text : List ℕ) (firsts : List First) : Type 0 where
  pub begin : HaveTags text firsts
  pub same : HoldSameTexts (words_at text firsts) (words text)

-- if some places of a text are known, its words begin there
abbrev pub KnowsWords : List ℕ → Option Placed → Type 0
KnowsWords text None = Unit {0}
KnowsWords text (Some placed) = AreWordsOf text placed.firsts

-- the words of a message while they are read: all distinct ones, those that are left, the last one, and those that were noted
pub record WordsRead : Type 0 where
  pub words : List (List ℕ)
  pub left : List (List ℕ)
  pub word : List ℕ
  pub noted : List (List ℕ)

-- what a reader of words holds: the parts of a message, their bytes lowered, and the places of the last word
pub record IsReading (subject text : List ℕ) (body : ℕ) (lowered : List ℕ) (start end next : ℕ) (placed : Placed) : Type 0 where
  pub within : body ≤ length text
  pub lowers : lowered ≡ str_to_ascii_lowercase (joined_text subject (drop body text))
  pub begin : HaveTags lowered placed.firsts
  pub ordered : (placed.last ≤ start) × (start ≤ end) × (end ≤ next) × (next ≤ length lowered)
  pub word : start < end → take (end - start) (drop start lowered) ≡ run_from lowered start
