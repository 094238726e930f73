-- When rows may be added.
use Rattle.std.specs.Prelude.{ℕ, ℤ, ◌≡◌, ◌≤ℤ◌, List, true}
use Rattle.tap_rows.specs.Kept.{Each}
use Rattle.tap_model.specs.Verdicts.{are_short}
use Rattle.tap_base.specs.Numbers.{IsMoment}

-- a row may arrive at this second: it is a moment, and no row arrived after it
pub record MayArrive {A : Type 0} (arrival : A → ℤ) (second : ℤ) (rows : List A) : Type 0 where
  pub moment : IsMoment second
  pub after : Each (λ row. arrival row ≤ℤ second) rows

-- no text is longer than a message may be
abbrev pub AreShortTexts : List (List ℕ) → Type 0
AreShortTexts texts = are_short texts ≡ true
