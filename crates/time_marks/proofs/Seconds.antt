-- Whole seconds, one after another.
use Rattle.std.proofs.Common.{◌≡◌, ℕ, zero, suc, ℤ, pos, Bool, true, false, refl, inl, inr, arith}
use Rattle.std.specs.Prelude.{◌+ℤ◌, int_le, int_lt}
use Rattle.std.proofs.lemmas.Int.{ints}
use Rattle.std.proofs.lemmas.Bool.{cases_Bool, both_ways}
use Rattle.tap_rows.specs.Seconds.{first_from}

-- reached in this second
pub reached : (u s x : ℤ) → s ≡ u +ℤ pos 1 → int_le x u ≡ false → int_le x s ≡ true → x ≡ s
reached u s x n a b = grind (arith, ints)

pub still : (u s x : ℤ) → s ≡ u +ℤ pos 1 → int_le x u ≡ true → int_le x s ≡ true
still u s x n a = grind (arith, ints)

-- passed in this second
pub passed : (u s x : ℤ) → s ≡ u +ℤ pos 1 → int_lt u x ≡ true → int_lt s x ≡ false → x ≡ s
passed u s x n a b = grind (arith, ints)

pub not_back : (u s x : ℤ) → s ≡ u +ℤ pos 1 → int_lt u x ≡ false → int_lt s x ≡ false
not_back u s x n a = grind (arith, ints)

pub le_self : (s x : ℤ) → x ≡ s → int_le x s ≡ true
le_self s x e = grind (arith, ints)

-- two tests have one first number, if what passes the second passes the first, and the first begins or turns true only with the second
pub first_same : (p q : ℤ → Bool) (n : ℕ) (a : ℤ) → (p a ≡ true → q a ≡ true) → ((x : ℤ) → q x ≡ true → p x ≡ true)
    → ((u x : ℤ) → x ≡ u +ℤ pos 1 → p u ≡ false → p x ≡ true → q x ≡ true) → first_from p n a ≡ first_from q n a
first_same p q zero a st back up = refl
first_same p q (suc n) a st back up =
    elim (cases_Bool (p a)) [
      | inl y ↦ rw (y, st y)
      | inr z ↦
          let w : q a ≡ false = elim (cases_Bool (q a)) [ inl y ↦ absurd (both_ways _ z (back a y)) | inr y ↦ y ] in
          rw (z, w) (first_same p q n (a +ℤ pos 1) (up a (a +ℤ pos 1) refl z) back up)
    ]
