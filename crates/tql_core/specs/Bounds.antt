-- Times that fit their type.
use Rattle.std.specs.Prelude.{ℤ, pos, negsuc, ◌≤ℤ◌, Bool, true, ◌&&◌, int_le}
use Rattle.std.specs.Ordering.{int_eq}
use Rattle.tql_core.specs.declared.term.Base.{Base}
use Rattle.tql_core.specs.declared.term.Base.TheVariants.{Arrival, Date, Fixed, ArrivalDay, DateDay}
use Rattle.tql_core.specs.declared.term.Term.{Term}
use Rattle.tql_core.specs.declared.atom.Atom.{Atom}
use Rattle.tql_core.specs.declared.atom.Atom.TheVariants.{Numbers, Texts, Times, Has}
use Rattle.tql_core.specs.Condition.{Condition, Always, Never, Plain, NowAtLeast, NowBefore, All, Either, Not, Exists}

-- a sum of two times of 64 bits, and a day more
pub record IsWide (x : ℤ) : Type 0 where
  pub low : negsuc 73786976294838206464 ≤ℤ x
  pub high : x ≤ℤ pos 73786976294838206464

-- a number of seconds that no sum of typed times passes
abbrev pub is_near : ℤ → Bool
is_near n = int_le (negsuc 450000086399) n && int_le n (pos 450000086400)

-- a day base has its number of seconds, and nothing is added to it
abbrev pub is_bounded_base : Base → ℤ → Bool
is_bounded_base (Arrival v) plus = true
is_bounded_base (Date v) plus = true
is_bounded_base Fixed plus = true
is_bounded_base (ArrivalDay v n) plus = is_near n && int_eq plus (pos 0)
is_bounded_base (DateDay v n) plus = is_near n && int_eq plus (pos 0)

-- a time as typing gives it
abbrev pub is_bounded : Term → Bool
is_bounded e = is_near e.plus && is_bounded_base e.base e.plus

-- each time of an atom is one that typing gives
abbrev pub is_bounded_atom : Atom → Bool
is_bounded_atom (Numbers x op y) = true
is_bounded_atom (Texts x op y) = true
is_bounded_atom (Times x op y) = is_bounded x && is_bounded y
is_bounded_atom (Has v f y) = true

-- each time of a condition adds or takes off at most 450,000,086,400 seconds, also before a day begins, and nothing after
abbrev pub are_bounded : Condition → Bool
are_bounded Always = true
are_bounded Never = true
are_bounded (Plain a) = is_bounded_atom a
are_bounded (NowAtLeast e) = is_bounded e
are_bounded (NowBefore e) = is_bounded e
are_bounded (All l r) = are_bounded l && are_bounded r
are_bounded (Either l r) = are_bounded l && are_bounded r
are_bounded (Not x) = are_bounded x
are_bounded (Exists v t x) = are_bounded x
