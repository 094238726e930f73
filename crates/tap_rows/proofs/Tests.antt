-- What tests of numbers, seconds and texts say, and what tests say together.
use Rattle.std.proofs.Common.{◌≡◌, refl, sym, arith, ℕ, ℤ, pos, Bool, true, false, Some, None, List}
use Rattle.std.specs.Prelude.{◌≤ℤ◌, ◌<ℤ◌, ◌&&◌, ◌||◌, nat_eq, int_le, int_lt}
use Rattle.std.specs.Str.{bytes_eq}
use Rattle.std.specs.Cmp.Lexicographic.{bytes_decides}
use Rattle.std.proofs.lemmas.Int.{ints}

-- two tests that decide the same agree
pub agree : (a b : Bool) → (a ≡ true → b ≡ true) → (b ≡ true → a ≡ true) → a ≡ b
agree true b f g = sym (f refl)
agree false true f g = g refl
agree false false f g = refl

pub and_end : (b : Bool) → (b && true) ≡ b
and_end true = refl
and_end false = refl

pub and_never : (b : Bool) → (b && false) ≡ false
and_never true = refl
and_never false = refl

pub or_end : (b : Bool) → (b || false) ≡ b
or_end true = refl
or_end false = refl

pub and_swapped : (a b c d : Bool) → ((a && b) && (c && d)) ≡ ((a && c) && (b && d))
and_swapped false b c d = refl
and_swapped true false true d = refl
and_swapped true false false d = refl
and_swapped true true c d = refl

pub some_same : {A : Type 0} {x y : A} → Some x ≡ Some y → x ≡ y
some_same e = cc

pub none_some : {A : Type 0} {x : A} → None ≡ Some x → ⊥
none_some e = cc

pub nat_itself : (n : ℕ) → nat_eq n n ≡ true
nat_itself n = grind arith

pub nat_flip : (m n : ℕ) → nat_eq m n ≡ nat_eq n m
nat_flip m n = grind arith

pub pos_same : (m n : ℕ) → pos m ≡ pos n → m ≡ n
pos_same m n e = cc

pub le_yes : (a b : ℤ) → a ≤ℤ b → int_le a b ≡ true
le_yes a b h = grind (arith, ints)

pub le_not : (a b : ℤ) → b <ℤ a → int_le a b ≡ false
le_not a b h = grind (arith, ints)

pub le_from : (a b : ℤ) → int_le a b ≡ true → a ≤ℤ b
le_from a b h = grind (arith, ints)

pub le_itself : (a : ℤ) → int_le a a ≡ true
le_itself a = grind (arith, ints)

pub le_other : (a b : ℤ) → int_le a b ≡ false → int_le b a ≡ true
le_other a b h = grind (arith, ints)

pub le_after : (a b c : ℤ) → int_le a b ≡ true → int_le b c ≡ true → int_le a c ≡ true
le_after a b c h k = grind (arith, ints)

pub lt_yes : (a b : ℤ) → a <ℤ b → int_lt a b ≡ true
lt_yes a b h = grind (arith, ints)

pub lt_not : (a b : ℤ) → b ≤ℤ a → int_lt a b ≡ false
lt_not a b h = grind (arith, ints)

pub bytes_same : (x y : List ℕ) → bytes_eq x y ≡ true → x ≡ y
bytes_same x y h = (bytes_decides x y).0 h

pub bytes_itself : (x : List ℕ) → bytes_eq x x ≡ true
bytes_itself x = (bytes_decides x x).1 refl

pub bytes_flip : (x y : List ℕ) → bytes_eq x y ≡ bytes_eq y x
bytes_flip x y = agree _ _ (λ e. (bytes_decides y x).1 (sym (bytes_same x y e))) (λ e. (bytes_decides x y).1 (sym (bytes_same y x e)))
