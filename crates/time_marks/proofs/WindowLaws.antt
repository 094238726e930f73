-- Seconds in windows that were met, moved, or turned into days.
use Rattle.std.proofs.Common.{◌≡◌, ◌∙◌, sym, ap, refl, arith, zero, suc, ℤ, pos, negsuc, true, false, ◌+◌, ◌/◌}
use Rattle.std.specs.Prelude.{◌+ℤ◌, ◌-ℤ◌, ◌*ℤ◌, ◌≤ℤ◌, ◌<ℤ◌, neg_ℤ, ◌&&◌, not, int_le, int_lt}
use Rattle.std.proofs.lemmas.Int.{ints, by_lt_z}
use Rattle.tap_rows.proofs.Tests.{and_swapped}
use Rattle.tql_core.specs.Values.{round_up_to_day}
use Rattle.time_marks.specs.declared.window.Window.{Window}
use Rattle.time_marks.specs.Windows.{is_within, moved, days_window}

pub met : (a b : Window) (low high x : ℤ) → int_le low x ≡ (int_le a.low x && int_le b.low x)
    → int_lt x high ≡ (int_lt x a.high && int_lt x b.high) → (int_le low x && int_lt x high) ≡ (is_within a x && is_within b x)
met a b low high x l h = rw (l, h) (and_swapped (int_le a.low x) (int_le b.low x) (int_lt x a.high) (int_lt x b.high))

moved-low : (low by x : ℤ) → int_le (low +ℤ by) x ≡ int_le low (x -ℤ by)
moved-low low by x = grind (arith, ints)

moved-high : (high by x : ℤ) → int_lt x (high +ℤ by) ≡ int_lt (x -ℤ by) high
moved-high high by x = grind (arith, ints)

pub moved-within : (w : Window) (by x : ℤ) → is_within (moved w by) x ≡ is_within w (x -ℤ by)
moved-within w by x = rw (moved-low w.low by x, moved-high w.high by x) refl

-- the next start of a day is a number of whole days, and less than a day away
pub record IsDay (x y : ℤ) : Type 0 where
  pub days : ℤ
  pub whole : y ≡ pos 86400 *ℤ days
  pub reached : x ≤ℤ y
  pub near : y <ℤ (x +ℤ pos 86400)

pub round_up_to_day-day : (x : ℤ) → IsDay x (round_up_to_day x)
round_up_to_day-day (pos zero) = record { days = pos 0; whole = refl; reached = omega (arith, ints); near = omega (arith, ints) }
round_up_to_day-day (pos (suc n)) = record {
  days = pos (n / 86400 + 1);
  whole = omega (arith, ints);
  reached = omega (arith, ints);
  near = omega (arith, ints);
}
round_up_to_day-day (negsuc n) = record {
  days = neg_ℤ (pos (suc n / 86400));
  whole = omega (arith, ints);
  reached = omega (arith, ints);
  near = omega (arith, ints);
}

-- a second reaches an end if and only if its day reaches the day of the end
day-low : (a x a' x' : ℤ) → IsDay a a' → IsDay x x' → int_le (a' -ℤ pos 86399) x ≡ int_le a x'
day-low a x a' x' d e =
    by_lt_z x' a
    (λ w.
    let before : e.days <ℤ d.days = omega (arith, ints, w, d.whole, e.whole, d.reached) in
    let no : int_le a x' ≡ false = grind (arith, ints) in
    let late : x <ℤ (a' -ℤ pos 86399) = omega (arith, ints, before, d.whole, e.whole, e.reached) in
    let no' : int_le (a' -ℤ pos 86399) x ≡ false = grind (arith, ints) in
    no' ∙ sym no)
    (λ w.
    let before : d.days ≤ℤ e.days = omega (arith, ints, w, d.whole, e.whole, d.near) in
    let yes : int_le a x' ≡ true = grind (arith, ints) in
    let come : (a' -ℤ pos 86399) ≤ℤ x = omega (arith, ints, before, d.whole, e.whole, e.near) in
    let yes' : int_le (a' -ℤ pos 86399) x ≡ true = grind (arith, ints) in
    yes' ∙ sym yes)

not-below : (a b : ℤ) → int_lt a b ≡ not (int_le b a)
not-below a b = grind (arith, ints)

pub days-within : (w : Window) (x : ℤ) → is_within (days_window w) x ≡ is_within w (round_up_to_day x)
days-within w x =
    let low : int_le (round_up_to_day w.low -ℤ pos 86399) x ≡ int_le w.low (round_up_to_day x) =
    day-low w.low x (round_up_to_day w.low) (round_up_to_day x) (round_up_to_day-day w.low) (round_up_to_day-day x) in
    let below : int_le (round_up_to_day w.high -ℤ pos 86399) x ≡ int_le w.high (round_up_to_day x) =
    day-low w.high x (round_up_to_day w.high) (round_up_to_day x) (round_up_to_day-day w.high) (round_up_to_day-day x) in
    let high : int_lt x (round_up_to_day w.high -ℤ pos 86399) ≡ int_lt (round_up_to_day x) w.high =
    not-below x (round_up_to_day w.high -ℤ pos 86399) ∙ ap not below ∙ sym (not-below (round_up_to_day x) w.high) in
    rw (low, high) refl
