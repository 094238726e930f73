-- The range of the seconds that moment texts have.
use Rattle.std.proofs.Common.{◌≡◌, arith, ℕ, ℤ, pos, true, false, Option, Some, None, List, if◌then◌else◌, inl, inr}
use Rattle.std.specs.Prelude.{Result, Ok, Err, ◌&&◌, nat_le, int_le, int_div, unwrap_or, not, ◌==◌, length}
use Rattle.std.specs.Str.{all_ascii_digits}
use Rattle.std.specs.Str.Parse.{digits_value}
use Rattle.std.proofs.lemmas.Bool.{cases_Bool, and_parts}
use Rattle.std.proofs.lemmas.Int.{ints}
use Rattle.jiff.specs.Words.{parse_timestamp, Error}
use Rattle.tap_base.specs.declared.moments.TheConstants.{LAST_MOMENT}
use Rattle.tap_base.specs.Numbers.{value_within, number_of, positive, checked_moment, moment_read, moment_of, is_date_form}
use Rattle.tap_base.specs.Numbers.{IsMoment}

abbrev pub InRange : Option ℤ → Type 0
InRange None = Unit {0}
InRange (Some s) = IsMoment s

at-range : (s : ℤ) → InRange (checked_moment s)
at-range s =
    elim (cases_Bool (int_le (pos 0) s && int_le s (pos LAST_MOMENT))) [
      | inl y ↦ rw y (within s
          (and_parts (int_le (pos 0) s) (int_le s (pos LAST_MOMENT)) y).0 (and_parts (int_le (pos 0) s) (int_le s (pos LAST_MOMENT)) y).1)
      | inr n ↦ rw n tt
    ]
  where
    within : (s : ℤ) → int_le (pos 0) s ≡ true → int_le s (pos LAST_MOMENT) ≡ true → IsMoment s
    within s low high = (grind (arith, ints), grind (arith, ints))

read-range : (read : Result ℤ Error) → InRange (moment_read read)
read-range (Ok n) = at-range (int_div n (pos 1_000_000_000))
read-range (Err e) = tt

digits-range : (text : List ℕ) → InRange (positive (value_within LAST_MOMENT text))
digits-range text =
    elim (cases_Bool (nat_le (digits_value 10 text) LAST_MOMENT)) [
      | inl y ↦ rw y (within (digits_value 10 text) y)
      | inr n ↦ rw n tt
    ]
  where
    within : (n : ℕ) → nat_le n LAST_MOMENT ≡ true → IsMoment (pos n)
    within n h = (grind (arith, ints), grind (arith, ints))

number-range : (text : List ℕ) → InRange (positive (number_of 12 LAST_MOMENT text))
number-range text =
    elim (cases_Bool (not (length text == 0) && nat_le (length text) 12 && all_ascii_digits text)) [
      | inl y ↦ rw y (digits-range text)
      | inr n ↦ rw n tt
    ]

pub moment-range : (text : List ℕ) → InRange (moment_of text)
moment-range text =
    elim (all_ascii_digits text) as (λ b. InRange (if b then positive (number_of 12 LAST_MOMENT text)
    else (if is_date_form text then moment_read (parse_timestamp text) else None))) [
      | true ↦ number-range text
      | false ↦ elim (is_date_form text) as (λ b. InRange (if b then moment_read (parse_timestamp text) else None)) [
        | true ↦ read-range (parse_timestamp text)
        | false ↦ tt
      ]
    ]

pub kept-range : (found : Option ℤ) → InRange found → IsMoment (unwrap_or found (pos 0))
kept-range None range = (omega (arith, ints), omega (arith, ints))
kept-range (Some s) range = range
