-- What the search for the least second finds.
use Rattle.std.proofs.Common.{◌≡◌, subst, arith, ℕ, zero, suc, ℤ, pos, Bool, true, false, Some, None, inl, inr}
use Rattle.std.specs.Prelude.{◌+ℤ◌, ◌≤ℤ◌, ◌<ℤ◌}
use Rattle.std.specs.Int.{int_gap}
use Rattle.std.proofs.lemmas.Bool.{cases_Bool, both_ways}
use Rattle.std.proofs.lemmas.Int.{ints}
use Rattle.tap_rows.specs.Seconds.{first_from, least_second}
use Rattle.tap_rows.proofs.SecondsLaws.{first_from-none, gap-within, first_from-passes}
use Rattle.tap_rows.proofs.Tests.{some_same}

next_le : (a x : ℤ) → a ≤ℤ x → (x ≡ a → ⊥) → (a +ℤ pos 1) ≤ℤ x
next_le a x h n = grind (arith, ints)

first_least : (p : ℤ → Bool) (n : ℕ) (a b x : ℤ) → first_from p n a ≡ Some b → a ≤ℤ x → p x ≡ true → b ≤ℤ x
first_least p zero a b x h lo q = absurd cc
first_least p (suc n) a b x h lo q =
    elim (cases_Bool (p a)) [
      | inl y ↦ let e : a ≡ b = some_same (rw y at h) in subst (λ z. z ≤ℤ x) e lo
      | inr z ↦ first_least p n (a +ℤ pos 1) b x (rw z at h) (beyond z) q
    ]
  where
    beyond : p a ≡ false → (a +ℤ pos 1) ≤ℤ x
    beyond z = next_le a x lo (λ e. both_ways (p a) z (subst (λ k. p k ≡ true) e q))

-- nothing passes if no second is found
pub least_none : (p : ℤ → Bool) (a t x : ℤ) → least_second p a t ≡ None → a ≤ℤ x → x <ℤ t → p x ≡ false
least_none p a t x h lo hi = first_from-none p (int_gap a t) a x h lo (gap-within a t x lo hi)

-- it passes
pub least_passes : (p : ℤ → Bool) (a t b : ℤ) → least_second p a t ≡ Some b → p b ≡ true
least_passes p a t b h = first_from-passes p (int_gap a t) a b h

-- no lesser one does
pub least_least : (p : ℤ → Bool) (a t b x : ℤ) → least_second p a t ≡ Some b → a ≤ℤ x → p x ≡ true → b ≤ℤ x
least_least p a t b x h lo q = first_least p (int_gap a t) a b x h lo q
