-- A stable sort is the one list that is in order and keeps the order of what ties.
use Rattle.std.proofs.Common.{◌≡◌, ℕ, suc, ◌+◌, ◌<◌, ◌≤◌, Bool, true, false, not, List, [], ◌∷◌, length, get_or, refl, sym, ap, ◌∙◌, subst}
use Rattle.std.proofs.Common.{cond, arith}
use Rattle.std.specs.Prelude.{◌&&◌, if◌then◌else◌}
use Rattle.std.specs.List.{filter}
use Rattle.std.specs.List.Sorted.{IsSortedBy, IsStableBy, ties}
use Rattle.std.specs.Cmp.{IsStrictWeakOrder}
use Rattle.std.proofs.lemmas.Bool.{true≢false}
use Rattle.filter_rules.specs.Listings.{put_by, sorted_by}

module _ {X : Type 0} where
  abbrev tail_of : List X → List X
  tail_of [] = []
  tail_of (x ∷ xs) = xs

  -- a list with an element isn't empty
  filled : (x : X) (xs : List X) → [] ≡ x ∷ xs → ⊥
  filled x xs e = let n : 0 ≡ suc (length xs) = ap length e in grind (arith, n)

  -- two tests with the same answers
  same_filter : (f g : X → Bool) → ((x : X) → f x ≡ g x) → (xs : List X) → filter f xs ≡ filter g xs
  same_filter f g same [] = refl
  same_filter f g same (x ∷ xs) = ap (λ b. cond b (x ∷ filter f xs) (filter f xs)) (same x)
      ∙ ap (λ ys. cond (g x) (x ∷ ys) ys) (same_filter f g same xs)

  -- a list that is in order by one of two such tests, or keeps its ties, does so by the other
  pub same_sorted : (f g : X → X → Bool) → ((x y : X) → f x y ≡ g x y) → (xs : List X) → IsSortedBy f xs → IsSortedBy g xs
  same_sorted f g same xs s k d low high = sym (same _ _) ∙ s k d low high

  same_ties : (f g : X → X → Bool) → ((x y : X) → f x y ≡ g x y) → (x y : X) → ties f x y ≡ ties g x y
  same_ties f g same x y = ap (λ b. not b && not (f y x)) (same x y) ∙ ap (λ b. not (g x y) && not b) (same y x)

  pub same_stable : (f g : X → X → Bool) → ((x y : X) → f x y ≡ g x y) → (xs ys : List X) → IsStableBy f xs ys → IsStableBy g xs ys
  same_stable f g same xs ys s x = sym (same_filter (ties f x) (ties g x) (same_ties f g same x) ys) ∙ s x
      ∙ same_filter (ties f x) (ties g x) (same_ties f g same x) xs

  -- no later one stands above an earlier one
  abbrev NoneAbove : (X → X → Bool) → X → List X → Type 0
  NoneAbove lt x [] = Unit {0}
  NoneAbove lt x (y ∷ ys) = (lt y x ≡ false) × NoneAbove lt x ys

  abbrev pub Ordered : (X → X → Bool) → List X → Type 0
  Ordered lt [] = Unit {0}
  Ordered lt (x ∷ xs) = NoneAbove lt x xs × Ordered lt xs

module _ {X : Type 0} (lt : X → X → Bool) (order : IsStrictWeakOrder lt) where
  never : (x : X) → lt x x ≡ false
  never x = go (lt x x) refl where
    go : (t : Bool) → lt x x ≡ t → lt x x ≡ false
    go true e = order.one_way x x e
    go false e = e

  tied : (x : X) → ties lt x x ≡ true
  tied x = ap (λ b. not b && not b) (never x)

  -- what none of some stands above, nor does what it isn't below
  none_weaker : (x y : X) (ys : List X) → lt y x ≡ false → NoneAbove lt y ys → NoneAbove lt x ys
  none_weaker x y [] h n = tt
  none_weaker x y (z ∷ zs) h n = (order.chain z y x n.0 h, none_weaker x y zs h n.1)

  put_none : (z x : X) (ys : List X) → lt x z ≡ false → NoneAbove lt z ys → NoneAbove lt z (put_by lt x ys)
  put_none z x [] h n = (h, tt)
  put_none z x (y ∷ ys) h n = go (lt y x) (put_none z x ys h n.1) where
    go : (t : Bool) → NoneAbove lt z (put_by lt x ys) → NoneAbove lt z (if t then y ∷ put_by lt x ys else x ∷ y ∷ ys)
    go true rest = (n.0, rest)
    go false rest = (h, n)

  put_ordered : (x : X) (ys : List X) → Ordered lt ys → Ordered lt (put_by lt x ys)
  put_ordered x [] o = (tt, tt)
  put_ordered x (y ∷ ys) o = go (lt y x) refl (put_ordered x ys o.1) where
    go : (t : Bool) → lt y x ≡ t → Ordered lt (put_by lt x ys) → Ordered lt (if t then y ∷ put_by lt x ys else x ∷ y ∷ ys)
    go true e rest = (put_none y x ys (order.one_way y x e) o.0, rest)
    go false e rest = ((e, none_weaker x y ys e o.0), o)

  -- the sorted list is in order
  sorted_ordered : (xs : List X) → Ordered lt (sorted_by lt xs)
  sorted_ordered [] = tt
  sorted_ordered (x ∷ xs) = put_ordered x (sorted_by lt xs) (sorted_ordered xs)

  first_not : (a b : Bool) → (not a && not b) ≡ true → a ≡ false
  first_not true b h = absurd (true≢false (sym h))
  first_not false b h = refl

  second_not : (a b : Bool) → (not a && not b) ≡ true → b ≡ false
  second_not true b h = absurd (true≢false (sym h))
  second_not false true h = absurd (true≢false (sym h))
  second_not false false h = refl

  -- two of which one stands above the other tie with nothing in common
  flipped : (x y : X) (zs : List X) → lt y x ≡ true → (z : X) → filter (ties lt z) (y ∷ x ∷ zs) ≡ filter (ties lt z) (x ∷ y ∷ zs)
  flipped x y zs e z = go (ties lt z x) (ties lt z y) refl refl where
    go : (a b : Bool) → ties lt z x ≡ a → ties lt z y ≡ b → cond b (y ∷ cond a (x ∷ filter (ties lt z) zs) (filter (ties lt z) zs))
        (cond a (x ∷ filter (ties lt z) zs) (filter (ties lt z) zs)) ≡ cond a
        (x ∷ cond b (y ∷ filter (ties lt z) zs) (filter (ties lt z) zs)) (cond b (y ∷ filter (ties lt z) zs) (filter (ties lt z) zs))
    go true true p q = absurd (true≢false (sym e ∙ order.chain y z x (second_not (lt z y) (lt y z) q) (first_not (lt z x) (lt x z) p)))
    go true false p q = refl
    go false true p q = refl
    go false false p q = refl

  put_ties : (z x : X) (ys : List X) → filter (ties lt z) (put_by lt x ys) ≡ filter (ties lt z) (x ∷ ys)
  put_ties z x [] = refl
  put_ties z x (y ∷ ys) = go (lt y x) refl (put_ties z x ys) where
    go : (t : Bool) → lt y x ≡ t → filter (ties lt z) (put_by lt x ys) ≡ filter (ties lt z) (x ∷ ys)
        → filter (ties lt z) (if t then y ∷ put_by lt x ys else x ∷ y ∷ ys) ≡ filter (ties lt z) (x ∷ y ∷ ys)
    go true e rest = ap (λ l. cond (ties lt z y) (y ∷ l) l) rest ∙ flipped x y ys e z
    go false e rest = refl

  -- and keeps the order of what ties
  sorted_ties : (z : X) (xs : List X) → filter (ties lt z) (sorted_by lt xs) ≡ filter (ties lt z) xs
  sorted_ties z [] = refl
  sorted_ties z (x ∷ xs) = put_ties z x (sorted_by lt xs) ∙ ap (λ l. cond (ties lt z x) (x ∷ l) l) (sorted_ties z xs)

  above_all : (z y w : X) → lt z y ≡ true → lt w y ≡ false → lt z w ≡ true
  above_all z y w e h = go (lt z w) refl where
    go : (t : Bool) → lt z w ≡ t → lt z w ≡ true
    go true f = f
    go false f = absurd (true≢false (sym e ∙ order.chain z w y f h))

  no_tie : (z y : X) → lt z y ≡ true → ties lt z y ≡ false
  no_tie z y e = ap (λ b. not b && not (lt y z)) e

  -- what stands above the first of a list in order ties with none of it
  none_tie : (z y : X) (ys : List X) → lt z y ≡ true → NoneAbove lt y ys → filter (ties lt z) (y ∷ ys) ≡ []
  none_tie z y ys e n = ap (λ b. cond b (y ∷ filter (ties lt z) ys) (filter (ties lt z) ys)) (no_tie z y e) ∙ rest ys n where
    rest : (ws : List X) → NoneAbove lt y ws → filter (ties lt z) ws ≡ []
    rest [] n = refl
    rest (w ∷ ws) n = ap (λ b. cond b (w ∷ filter (ties lt z) ws) (filter (ties lt z) ws)) (no_tie z w (above_all z y w e n.0))
        ∙ rest ws n.1

  own_tie : (y : X) (ys : List X) → filter (ties lt y) (y ∷ ys) ≡ y ∷ filter (ties lt y) ys
  own_tie y ys = ap (λ b. cond b (y ∷ filter (ties lt y) ys) (filter (ties lt y) ys)) (tied y)

  -- two lists in order, of which the same ties, are one
  only_one : (ys zs : List X) → Ordered lt ys → Ordered lt zs → ((x : X) → filter (ties lt x) ys ≡ filter (ties lt x) zs) → ys ≡ zs
  only_one [] [] o p same = refl
  only_one [] (z ∷ zs) o p same = absurd (filled z (filter (ties lt z) zs) (same z ∙ own_tie z zs))
  only_one (y ∷ ys) [] o p same = absurd (filled y (filter (ties lt y) ys) (sym (same y) ∙ own_tie y ys))
  only_one (y ∷ ys) (z ∷ zs) o p same = go (λ t. only_one ys zs o.1 p.1 t) (lt y z) (lt z y) refl refl where
    tails : y ≡ z → (x : X) → filter (ties lt x) ys ≡ filter (ties lt x) zs
    tails e x = by (ties lt x y) (ap (λ b. cond b (y ∷ filter (ties lt x) ys) (filter (ties lt x) ys)) refl ∙ same x
        ∙ ap (λ w. cond (ties lt x w) (w ∷ filter (ties lt x) zs) (filter (ties lt x) zs)) (sym e)) where
          by : (b : Bool) → cond b (y ∷ filter (ties lt x) ys) (filter (ties lt x) ys)
              ≡ cond b (y ∷ filter (ties lt x) zs) (filter (ties lt x) zs) → filter (ties lt x) ys ≡ filter (ties lt x) zs
          by true e = ap tail_of e
          by false e = e

    heads : lt y z ≡ false → lt z y ≡ false → y ≡ z
    heads a b =
        let t : ties lt y z ≡ true = ap (λ c. not c && not (lt z y)) a ∙ ap not b in
        let f : filter (ties lt y) (z ∷ zs) ≡ z ∷ filter (ties lt y) zs =
        ap (λ c. cond c (z ∷ filter (ties lt y) zs) (filter (ties lt y) zs)) t in
        ap (λ l. get_or l 0 y) (sym (own_tie y ys) ∙ same y ∙ f)

    joined : y ≡ z → ys ≡ zs → y ∷ ys ≡ z ∷ zs
    joined e t = cc

    go : (((x : X) → filter (ties lt x) ys ≡ filter (ties lt x) zs) → ys ≡ zs) → (a b : Bool) → lt y z ≡ a → lt z y ≡ b → y ∷ ys ≡ z ∷ zs
    go rest true b e f = absurd (filled y (filter (ties lt y) ys) (sym (sym (own_tie y ys) ∙ same y ∙ none_tie y z zs e p.0)))
    go rest false true e f = absurd (filled z (filter (ties lt z) zs) (sym (sym (own_tie z zs) ∙ sym (same z) ∙ none_tie z y ys f o.0)))
    go rest false false e f = joined (heads e f) (rest (tails (heads e f)))

  tail_sorted : (x y : X) (ys : List X) → IsSortedBy lt (x ∷ y ∷ ys) → IsSortedBy lt (y ∷ ys)
  tail_sorted x y ys s k d low high =
      let e : suc k + 1 ≡ suc (k + 1) = omega arith in
      subst (λ n. lt (get_or (x ∷ y ∷ ys) n d) (get_or (y ∷ ys) k d) ≡ false) e (s (suc k) d (omega arith) (omega (arith, high)))

  -- a list of which no neighbour stands above the one before is in order
  in_order : (xs : List X) → IsSortedBy lt xs → Ordered lt xs
  in_order [] s = tt
  in_order (x ∷ []) s = (tt, tt)
  in_order (x ∷ y ∷ ys) s = with_tail (in_order (y ∷ ys) (tail_sorted x y ys s)) where
    with_tail : Ordered lt (y ∷ ys) → Ordered lt (x ∷ y ∷ ys)
    with_tail rest = ((s 0 x (omega arith) (omega arith), none_weaker x y ys (s 0 x (omega arith) (omega arith)) rest.0), rest)

  -- what a stable sort gives
  pub is_sorted : (xs ys : List X) → IsSortedBy lt ys → IsStableBy lt xs ys → ys ≡ sorted_by lt xs
  is_sorted xs ys s stable = only_one ys (sorted_by lt xs) (in_order ys s) (sorted_ordered xs) (λ x. stable x ∙ sym (sorted_ties x xs))
