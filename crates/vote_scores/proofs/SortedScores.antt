-- Scores that were sorted.
use Rattle.std.proofs.Common.{◌≡◌, ℕ, suc, ◌+◌, ◌≤◌, ◌<◌, Bool, true, false, List, [], ◌∷◌, length, refl, sym, ap, ◌∙◌, subst, inl, inr}
use Rattle.std.proofs.Common.{arith, nat_eq}
use Rattle.std.specs.Prelude.{◌&&◌, slice_index_or}
use Rattle.std.specs.List.{list_any, IsDistinct, AllByRecursion}
use Rattle.std.specs.List.Sorted.{IsPermutation, IsSortedBy}
use Rattle.std.specs.Cmp.{IsStrictWeakOrder}
use Rattle.std.specs.Ordering.{int_eq}
use Rattle.std.proofs.lemmas.List.Sorted.{list_any-IsPermutation}
use Rattle.std.proofs.lemmas.Map.Keys.{IsDistinct-IsPermutation}
use Rattle.std.proofs.lemmas.Int.{ints}
use Rattle.std.proofs.lemmas.Bool.{cases_Bool, true≢false}
use Rattle.tap_rows.specs.Kept.{In}
use Rattle.tap_rows.specs.declared.score.Score.{Score}
use Rattle.tap_rows.specs.Votes.{score_is_before, scores_in_order}
use Rattle.vote_scores.specs.Counts.{ScoresAreApart}
use Rattle.vote_scores.proofs.ScoreOrder.{InOrder, same_rising, rising_order, in_ordered, ordered_in}

-- the order

one_way : (x y : Score) → score_is_before x y ≡ true → score_is_before y x ≡ false
one_way x y h = grind (arith, ints)

chain : (x y z : Score) → score_is_before x y ≡ false → score_is_before y z ≡ false → score_is_before x z ≡ false
chain x y z h k = grind (arith, ints)

pub is_order : IsStrictWeakOrder score_is_before
is_order = record { one_way = one_way; chain = chain }

-- the same scores

abbrev same_score : Score → Score → Bool
same_score x y = nat_eq x.doc.0 y.doc.0 && (nat_eq x.voters y.voters && int_eq x.sum y.sum)

same_self : (x : Score) → same_score x x ≡ true
same_self x = grind (arith, ints)

same_parts : (x y : Score) → same_score x y ≡ true → (x.doc.0 ≡ y.doc.0) × (x.voters ≡ y.voters) × (x.sum ≡ y.sum)
same_parts x y h = (grind (arith, ints), grind (arith, ints), grind (arith, ints))

same_is : (x y : Score) → same_score x y ≡ true → x ≡ y
same_is x y h =
    let p = same_parts x y h in
    ap (λ n. record { doc = record { 0 = n }; voters = x.voters; sum = x.sum }) p.0
    ∙ ap (λ n. record { doc = y.doc; voters = n; sum = x.sum }) p.1 ∙ ap (λ n. record { doc = y.doc; voters = y.voters; sum = n }) p.2

in_any : (p : Score → Bool) (xs : List Score) (x : Score) → In x xs → p x ≡ true → list_any p xs ≡ true
in_any p [] x i h = absurd i
in_any p (y ∷ ys) x (inl e) h = rw (ap p (sym e) ∙ h) refl
in_any p (y ∷ ys) x (inr i) h =
    let k = in_any p ys x i h in
    elim (cases_Bool (p y)) [ inl b ↦ rw b refl | inr b ↦ rw b k ]

any_in : (p : Score → Bool) (xs : List Score) → list_any p xs ≡ true → (x : Score) × In x xs × (p x ≡ true)
any_in p [] h = absurd (true≢false (sym h))
any_in p (x ∷ xs) h =
    elim (cases_Bool (p x)) [
      | inl b ↦ (x, inl refl, b)
      | inr b ↦ let r = any_in p xs (rw b at h) in (r.0, inr r.1, r.2)
    ]

moved : (xs ys : List Score) (h : Score) → list_any (same_score h) xs ≡ list_any (same_score h) ys → In h xs → In h ys
moved xs ys h e i =
    let k = any_in (same_score h) ys (sym e ∙ in_any (same_score h) xs h i (same_self h)) in
    subst (λ z. In z ys) (sym (same_is h k.0 k.2)) k.1

-- of distinct documents

abbrev same_doc : Score → Score → Bool
same_doc x y = nat_eq x.doc.0 y.doc.0

flips : (x y : Score) → same_doc x y ≡ same_doc y x
flips x y = grind arith

no_eq : (m n : ℕ) → (n ≡ m → ⊥) → nat_eq m n ≡ false
no_eq m n h = grind (arith, h)

eq_no : (m n : ℕ) → nat_eq m n ≡ false → n ≡ m → ⊥
eq_no m n h e = grind (arith, h, e)

all_apart : (x : Score) (xs : List Score) → ((y : Score) → In y xs → y.doc.0 ≡ x.doc.0 → ⊥) → AllByRecursion (λ y. same_doc x y ≡ false) xs
all_apart x [] n = tt
all_apart x (y ∷ ys) n = (no_eq x.doc.0 y.doc.0 (n y (inl refl)), all_apart x ys (λ z i. n z (inr i)))

apart_all : (x : Score) (xs : List Score) → AllByRecursion (λ y. same_doc x y ≡ false) xs → (y : Score) → In y xs → y.doc.0 ≡ x.doc.0 → ⊥
apart_all x [] a y i = absurd i
apart_all x (z ∷ zs) a y (inl e) = λ d. eq_no x.doc.0 z.doc.0 a.0 (sym (ap (λ (h : Score). h.doc.0) e) ∙ d)
apart_all x (z ∷ zs) a y (inr i) = apart_all x zs a.1 y i

distinct_of : (xs : List Score) → ScoresAreApart xs → IsDistinct same_doc xs
unfolding IsDistinct
distinct_of [] a = tt
distinct_of (x ∷ xs) a = (all_apart x xs a.0, distinct_of xs a.1)

apart_of : (xs : List Score) → IsDistinct same_doc xs → ScoresAreApart xs
unfolding IsDistinct
apart_of [] d = tt
apart_of (x ∷ xs) d = (apart_all x xs d.0, apart_of xs d.1)

apart_moved : (xs ys : List Score) → IsPermutation xs ys → ScoresAreApart xs → ScoresAreApart ys
apart_moved xs ys p a = apart_of ys (IsDistinct-IsPermutation same_doc flips xs ys p (distinct_of xs a))

-- in order

strictly : (a b : Score) → score_is_before b a ≡ false → (b.doc.0 ≡ a.doc.0 → ⊥) → score_is_before a b ≡ true
strictly a b h n = grind (arith, ints)

onward : (x y z : Score) → score_is_before x y ≡ true → score_is_before y z ≡ true → score_is_before x z ≡ true
onward x y z h k = grind (arith, ints)

in_order_all : (xs : List Score) → ScoresAreApart xs
    → ((k : ℕ) (d : Score) → 0 ≤ k → k + 1 < length xs → score_is_before (slice_index_or xs (k + 1) d) (slice_index_or xs k d) ≡ false)
    → InOrder xs
in_order_all [] a s = tt
in_order_all (x ∷ []) a s = ((λ y i. absurd i), tt)
in_order_all (x ∷ y ∷ zs) a s =
    let r = in_order_all (y ∷ zs) a.1 (λ k d z l. shift k d (s (suc k) d (omega arith) (omega (arith, l)))) in
    let e : score_is_before x y ≡ true = strictly x y (s 0 x (omega arith) (omega arith)) (a.0 y (inl refl)) in
    (first e r, r)
  where
    shift : (k : ℕ) (d : Score) → score_is_before (slice_index_or (x ∷ y ∷ zs) (suc k + 1) d) (slice_index_or (x ∷ y ∷ zs) (suc k) d)
        ≡ false → score_is_before (slice_index_or (y ∷ zs) (k + 1) d) (slice_index_or (y ∷ zs) k d) ≡ false
    shift k d h =
        let e : suc k + 1 ≡ suc (k + 1) = omega arith in
        subst (λ n. score_is_before (slice_index_or (x ∷ y ∷ zs) n d) (slice_index_or (y ∷ zs) k d) ≡ false) e h

    first : score_is_before x y ≡ true → InOrder (y ∷ zs) → (h : Score) → In h (y ∷ zs) → score_is_before x h ≡ true
    first e r h (inl q) = subst (λ z. score_is_before x z ≡ true) (sym q) e
    first e r h (inr i) = onward x y h e (r.0 h i)

-- what a sort of scores of distinct documents gives
pub sorted_is : (xs ys : List Score) → IsPermutation xs ys → ScoresAreApart xs → IsSortedBy score_is_before ys → ys ≡ scores_in_order xs
sorted_is xs ys p a s =
    let same = λ (score : Score). list_any-IsPermutation (same_score score) xs ys p in
    same_rising ys (scores_in_order xs) (in_order_all ys (apart_moved xs ys p a) s) (rising_order xs a)
    (λ score i. in_ordered score xs (moved ys xs score (sym (same score)) i)) (λ score i.
    moved xs ys score (same score) (ordered_in score xs i))
