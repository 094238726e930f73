-- The least second at which a test holds. A second is a whole number; it may be below 0.
use Rattle.std.specs.Prelude.{ℕ, suc, zero, ℤ, pos, ◌+ℤ◌, Bool, Option, Some, None, if◌then◌else◌}
use Rattle.std.specs.Int.{int_gap}

-- the first of n seconds from a on at which the test holds, found by trying them upward
abbrev pub first_from : (ℤ → Bool) → ℕ → ℤ → Option ℤ
first_from test zero a = None
first_from test (suc n) a = if test a then Some a else first_from test n (a +ℤ pos 1)

-- the least second from a up to but without t at which the test holds
abbrev pub least_second : (ℤ → Bool) → ℤ → ℤ → Option ℤ
least_second test a t = first_from test (int_gap a t) a
