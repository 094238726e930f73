-- The greater of two depths.
use Rattle.std.proofs.Common.{◌≡◌, arith, ℕ, ◌≤◌, Bool, true, false, if◌then◌else◌, refl}
use Rattle.std.specs.Prelude.{nat_le}
use Rattle.time_marks.specs.Found.{higher}

pub higher_left : (a b : ℕ) → a ≤ higher a b
higher_left a b = go (nat_le a b) refl
  where
    go : (c : Bool) → nat_le a b ≡ c → a ≤ (if c then b else a)
    go true e = grind arith
    go false e = omega arith

pub higher_right : (a b : ℕ) → b ≤ higher a b
higher_right a b = go (nat_le a b) refl
  where
    go : (c : Bool) → nat_le a b ≡ c → b ≤ (if c then b else a)
    go true e = omega arith
    go false e = grind arith
