-- The order of rows is an order, and that of their ranks.
use Rattle.std.proofs.Common.{◌≡◌, ℕ, ℤ, Bool, true, false, refl, arith}
use Rattle.std.specs.Prelude.{◌||◌, ◌&&◌, not, int_lt, nat_lt}
use Rattle.std.proofs.lemmas.Bool.{true≢false}
use Rattle.std.specs.Ordering.{nat_cmp, int_cmp, ordering_then, is_lt}
use Rattle.std.specs.Cmp.{IsStrictWeakOrder}
use Rattle.std.proofs.lemmas.Int.{ints}
use Rattle.tap_rows.specs.declared.results.Listed.{Listed}
use Rattle.filter_rules.specs.Listings.{is_above}

one_above : (x y : Listed) → is_above x y ≡ true → is_above y x ≡ false
one_above x y h = grind (arith, ints, h)

-- the same below equal priorities
chain_under : (a b c : ℤ) (i j k : ℕ) → (int_lt a b || (not (int_lt b a) && nat_lt i j)) ≡ false
    → (int_lt b c || (not (int_lt c b) && nat_lt j k)) ≡ false → (int_lt a c || (not (int_lt c a) && nat_lt i k)) ≡ false
chain_under a b c i j k h g = grind (arith, ints, h, g)

chain_over : (p q r : ℕ) (u v w : Bool) → (u ≡ false → v ≡ false → w ≡ false) → (nat_lt q p || (not (nat_lt p q) && u)) ≡ false
    → (nat_lt r q || (not (nat_lt q r) && v)) ≡ false → (nat_lt r p || (not (nat_lt p r) && w)) ≡ false
chain_over p q r u v false under h g = grind (arith, h, g)
chain_over p q r true v true under h g = grind (arith, h, g)
chain_over p q r false true true under h g = grind (arith, h, g)
chain_over p q r false false true under h g = absurd (true≢false (under refl refl))

chain_above : (x y z : Listed) → is_above x y ≡ false → is_above y z ≡ false → is_above x z ≡ false
chain_above x y z h g =
    chain_over x.priority y.priority z.priority _ _ _
    (chain_under x.entry.first y.entry.first z.entry.first x.entry.doc.0 y.entry.doc.0 z.entry.doc.0) h g

pub above_order : IsStrictWeakOrder is_above
above_order = record { one_way = one_above; chain = chain_above }

pub above_ranked : (x y : Listed) → is_lt (ordering_then (nat_cmp y.priority x.priority)
    (ordering_then (int_cmp x.entry.first y.entry.first) (nat_cmp x.entry.doc.0 y.entry.doc.0))) ≡ is_above x y
above_ranked x y = grind (arith, ints)
