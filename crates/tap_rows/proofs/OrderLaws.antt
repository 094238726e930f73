-- The order of hits, and what passes a test among hits in order.
use Rattle.std.proofs.Common.{◌≡◌, sym, refl, arith, ℕ, ℤ, Bool, true, false, List, [], ◌∷◌, if◌then◌else◌}
use Rattle.std.specs.Prelude.{◌&&◌, ◌||◌, not, nat_lt, filter, int_lt}
use Rattle.std.proofs.lemmas.Int.{ints}
use Rattle.tap_rows.specs.declared.results.Hit.{Hit}
use Rattle.tap_rows.specs.Results.{hits_in_order, put_in, is_before}

-- the hits stand after this one, or none stands before it
abbrev pub AllAfter : Hit → List Hit → Type 0
AllAfter hit [] = Unit {0}
AllAfter hit (other ∷ hits) = (is_before hit other ≡ true) × AllAfter hit hits

abbrev pub NoneBefore : Hit → List Hit → Type 0
NoneBefore hit [] = Unit {0}
NoneBefore hit (other ∷ hits) = (is_before other hit ≡ false) × NoneBefore hit hits

abbrev pub InOrder : List Hit → Type 0
InOrder [] = Unit {0}
InOrder (hit ∷ hits) = NoneBefore hit hits × InOrder hits

-- the order by two numbers
before : ℤ → ℕ → ℤ → ℕ → Bool
before a m b n = int_lt a b || (not (int_lt b a) && nat_lt m n)

before-trans : (a : ℤ) (m : ℕ) (b : ℤ) (n : ℕ) (c : ℤ) (k : ℕ) → before a m b n ≡ true → before c k b n ≡ false → before a m c k ≡ true
unfolding before
before-trans a m b n c k ab cb = grind (arith, ints)

before-no : (a : ℤ) (m : ℕ) (b : ℤ) (n : ℕ) → before a m b n ≡ true → before b n a m ≡ false
unfolding before
before-no a m b n ab = grind (arith, ints)

before-le : (a : ℤ) (m : ℕ) (b : ℤ) (n : ℕ) (c : ℤ) (k : ℕ) → before b n a m ≡ false → before c k b n ≡ false → before c k a m ≡ false
unfolding before
before-le a m b n c k ba cb = grind (arith, ints)

put_in-front : (hit : Hit) (hits : List Hit) → AllAfter hit hits → put_in hit hits ≡ hit ∷ hits
put_in-front hit [] all = refl
put_in-front hit (other ∷ hits) all = rw all.0 refl

after-all : (hit other : Hit) (hits : List Hit) → is_before hit other ≡ true → NoneBefore other hits → AllAfter hit hits
unfolding before
after-all hit other [] lt none = tt
after-all hit other (x ∷ hits) lt none =
    (before-trans hit.first hit.doc.0 other.first other.doc.0 x.first x.doc.0 lt none.0, after-all hit other hits lt none.1)

AllAfter-filter : (test : Hit → Bool) (hit : Hit) (hits : List Hit) → AllAfter hit hits → AllAfter hit (filter test hits)
AllAfter-filter test hit [] all = tt
AllAfter-filter test hit (x ∷ hits) all = elim (test x) as (λ b. AllAfter hit (if b then x ∷ filter test hits else filter test hits)) [
  | true ↦ (all.0, AllAfter-filter test hit hits all.1)
  | false ↦ AllAfter-filter test hit hits all.1
]

-- a hit that fails the test changes nothing of what passes
put_in-fails : (test : Hit → Bool) (hit : Hit) (hits : List Hit) → test hit ≡ false → filter test (put_in hit hits) ≡ filter test hits
put_in-fails test hit [] fails = rw fails refl
put_in-fails test hit (other ∷ hits) fails =
    elim (is_before hit other)
    as (λ b. filter test (if b then hit ∷ other ∷ hits else other ∷ put_in hit hits) ≡ filter test (other ∷ hits)) [
      | true ↦ rw fails refl
      | false ↦ rw (put_in-fails test hit hits fails) refl
    ]

-- a hit that passes is put in among those that pass
put_in-passes : (test : Hit → Bool) (hit : Hit) (hits : List Hit) → test hit ≡ true → InOrder hits
    → filter test (put_in hit hits) ≡ put_in hit (filter test hits)
put_in-passes test hit [] passes order = rw passes refl
put_in-passes test hit (other ∷ hits) passes order = go (is_before hit other) refl (put_in-passes test hit hits passes order.1) where
  go : (b : Bool) → is_before hit other ≡ b → filter test (put_in hit hits) ≡ put_in hit (filter test hits)
      → filter test (put_in hit (other ∷ hits)) ≡ put_in hit (filter test (other ∷ hits))
  go true e rest = rw (e, passes) (sym
      (put_in-front hit (filter test (other ∷ hits)) (AllAfter-filter test hit (other ∷ hits) (e, after-all hit other hits e order.0))))
  go false e rest = rw e (elim (test other) as (λ b. (if b then other ∷ filter test (put_in hit hits) else filter test (put_in hit hits))
      ≡ put_in hit (if b then other ∷ filter test hits else filter test hits)) [
        | true ↦ rw (e, rest) refl
        | false ↦ rest
      ])

NoneBefore-put_in : (x hit : Hit) (hits : List Hit) → is_before hit x ≡ false → NoneBefore x hits → NoneBefore x (put_in hit hits)
NoneBefore-put_in x hit [] no_before none = (no_before, tt)
NoneBefore-put_in x hit (other ∷ hits) no_before none =
    elim (is_before hit other) as (λ b. NoneBefore x (if b then hit ∷ other ∷ hits else other ∷ put_in hit hits)) [
      | true ↦ (no_before, (none.0, none.1))
      | false ↦ (none.0, NoneBefore-put_in x hit hits no_before none.1)
    ]

NoneBefore-from : (hit : Hit) (hits : List Hit) → AllAfter hit hits → NoneBefore hit hits
unfolding before
NoneBefore-from hit [] all = tt
NoneBefore-from hit (x ∷ hits) all = (before-no hit.first hit.doc.0 x.first x.doc.0 all.0, NoneBefore-from hit hits all.1)

InOrder-put_in : (hit : Hit) (hits : List Hit) → InOrder hits → InOrder (put_in hit hits)
InOrder-put_in hit [] order = (tt, tt)
InOrder-put_in hit (other ∷ hits) order = go (is_before hit other) refl (InOrder-put_in hit hits order.1) where
  go : (b : Bool) → is_before hit other ≡ b → InOrder (put_in hit hits) → InOrder (put_in hit (other ∷ hits))
  go true e rest = rw e (NoneBefore-from hit (other ∷ hits) (e, after-all hit other hits e order.0), order)
  go false e rest = rw e (NoneBefore-put_in other hit hits e order.0, rest)

in_order-InOrder : (hits : List Hit) → InOrder (hits_in_order hits)
in_order-InOrder [] = tt
in_order-InOrder (hit ∷ hits) = InOrder-put_in hit (hits_in_order hits) (in_order-InOrder hits)

-- what passes a test, in order
pub in_order-filter : (test : Hit → Bool) (hits : List Hit) → filter test (hits_in_order hits) ≡ hits_in_order (filter test hits)
in_order-filter test [] = refl
in_order-filter test (hit ∷ hits) = go (test hit) refl (in_order-filter test hits) where
  go : (b : Bool) → test hit ≡ b → filter test (hits_in_order hits) ≡ hits_in_order (filter test hits)
      → filter test (put_in hit (hits_in_order hits)) ≡ hits_in_order (filter test (hit ∷ hits))
  go true e rest = rw (put_in-passes test hit (hits_in_order hits) e (in_order-InOrder hits), rest, e) refl
  go false e rest = rw (put_in-fails test hit (hits_in_order hits) e, rest, e) refl
