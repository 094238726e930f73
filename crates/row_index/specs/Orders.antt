-- Rows in order of arrival, and those of a window.
use Rattle.std.specs.Prelude.{◌≡◌, ℕ, ◌+◌, ◌<◌, ◌^◌, ℤ, pos}
use Rattle.std.specs.Prelude.{true, ◌&&◌, Option, Some, None, List, [], ◌∷◌, length, int_le, int_lt, filter, slice_get}
use Rattle.std.specs.List.{list_all}
use Rattle.tap_base.specs.declared.numbers.DocNum.{DocNum}
use Rattle.tap_rows.specs.declared.rows.Doc.{Doc}
use Rattle.tap_rows.specs.declared.rows.Note.{Note}
use Rattle.tap_rows.specs.Kept.{Each}
use Rattle.tap_base.specs.Numbers.{IsMoment}

module _ {A : Type 0} (f : A → ℤ) where
  -- f never falls
  abbrev pub IsRisingBy : List A → Type 0
  IsRisingBy [] = Unit {0}
  IsRisingBy (x ∷ xs) = (list_all (λ y. int_le (f x) (f y)) xs ≡ true) × IsRisingBy xs

  -- the rows whose second is from low up to, and without, high
  abbrev pub in_window : ℤ → ℤ → List A → List A
  in_window low high xs = filter (λ x. int_le low (f x) && int_lt (f x) high) xs

  -- the rows whose second is up to, and with, `last`
  abbrev pub up_to : ℤ → List A → List A
  up_to last xs = filter (λ x. int_le (f x) last) xs

-- the numbers are the places, from n
abbrev pub Numbered : {A : Type 0} → (A → ℕ) → ℕ → List A → Type 0
Numbered number n [] = Unit {0}
Numbered number n (x ∷ xs) = (number x ≡ n) × Numbered number (n + 1) xs

-- rows in their places: their numbers are their places, from 1, their arrivals are moments that never fall, and a
-- number of 32 bits counts them
pub record InPlace {A : Type 0} (number : A → ℕ) (arrival : A → ℤ) (rows : List A) : Type 0 where
  pub numbered : Numbered number 1 rows
  pub rising : IsRisingBy arrival rows
  pub moments : Each (λ row. IsMoment (arrival row)) rows
  pub room : length rows < 2 ^ 32

abbrev pub doc_number : Doc → ℕ
doc_number doc = doc.num.0

-- the number of a document, if there is one
abbrev pub doc_num : Option Doc → Option DocNum
doc_num None = None
doc_num (Some doc) = Some doc.num

-- the number of a document, among those that can be put in order
abbrev pub doc_rank : Doc → ℤ
doc_rank doc = pos doc.num.0

abbrev pub doc_arrival : Doc → ℤ
doc_arrival doc = doc.arrival

abbrev pub note_number : Note → ℕ
note_number note = note.num.0

abbrev pub note_arrival : Note → ℤ
note_arrival note = note.arrival

-- the arrival of the document at this place, or the first second if there is none
abbrev pub arrival_of : Option Doc → ℤ
arrival_of None = pos 0
arrival_of (Some doc) = doc.arrival

-- the arrival of the document at this place, 0 if there is none
abbrev pub place_arrival : List Doc → ℕ → ℤ
place_arrival docs place = arrival_of (slice_get docs place)
