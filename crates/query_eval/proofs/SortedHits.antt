-- Hits that were sorted.
use Rattle.std.proofs.Common.{◌≡◌, ℕ, suc, ◌+◌, ◌≤◌, ◌<◌, Bool, true, false, List, [], ◌∷◌, length, refl, sym, ap, ◌∙◌, subst, inl, inr}
use Rattle.std.proofs.Common.{arith, nat_eq}
use Rattle.std.specs.Prelude.{◌&&◌, slice_index_or}
use Rattle.std.specs.List.{list_any, IsDistinct, AllByRecursion}
use Rattle.std.specs.List.Sorted.{IsPermutation, IsSortedBy}
use Rattle.std.specs.Cmp.{IsStrictWeakOrder}
use Rattle.std.specs.Ordering.{int_eq}
use Rattle.std.proofs.lemmas.List.Sorted.{list_any-IsPermutation}
use Rattle.std.proofs.lemmas.Map.Keys.{IsDistinct-IsPermutation}
use Rattle.std.proofs.lemmas.Int.{ints}
use Rattle.std.proofs.lemmas.Bool.{cases_Bool, true≢false}
use Rattle.tap_rows.specs.declared.results.Hit.{Hit}
use Rattle.tap_rows.specs.Kept.{In}
use Rattle.tap_rows.specs.Results.{is_before}
use Rattle.query_eval.specs.HitLists.{HitsAreApart, InOrder, HaveSame}
use Rattle.query_eval.proofs.HitOrder.{onward}

-- the order

one_way : (x y : Hit) → is_before x y ≡ true → is_before y x ≡ false
one_way x y h = grind (arith, ints)

chain : (x y z : Hit) → is_before x y ≡ false → is_before y z ≡ false → is_before x z ≡ false
chain x y z h k = grind (arith, ints)

pub is_order : IsStrictWeakOrder is_before
is_order = record { one_way = one_way; chain = chain }

-- the same hits

abbrev same_hit : Hit → Hit → Bool
same_hit x y = nat_eq x.doc.0 y.doc.0 && int_eq x.first y.first

same_self : (x : Hit) → same_hit x x ≡ true
same_self x = grind (arith, ints)

same_parts : (x y : Hit) → same_hit x y ≡ true → (x.doc.0 ≡ y.doc.0) × (x.first ≡ y.first)
same_parts x y h = (grind (arith, ints), grind (arith, ints))

same_is : (x y : Hit) → same_hit x y ≡ true → x ≡ y
same_is x y h =
    let p = same_parts x y h in
    ap (λ n. record { doc = record { 0 = n }; first = x.first }) p.0 ∙ ap (λ s. record { doc = y.doc; first = s }) p.1

in_any : (p : Hit → Bool) (xs : List Hit) (x : Hit) → In x xs → p x ≡ true → list_any p xs ≡ true
in_any p [] x i h = absurd i
in_any p (y ∷ ys) x (inl e) h = rw (ap p (sym e) ∙ h) refl
in_any p (y ∷ ys) x (inr i) h =
    let k = in_any p ys x i h in
    elim (cases_Bool (p y)) [ inl b ↦ rw b refl | inr b ↦ rw b k ]

any_in : (p : Hit → Bool) (xs : List Hit) → list_any p xs ≡ true → (x : Hit) × In x xs × (p x ≡ true)
any_in p [] h = absurd (true≢false (sym h))
any_in p (x ∷ xs) h =
    elim (cases_Bool (p x)) [
      | inl b ↦ (x, inl refl, b)
      | inr b ↦ let r = any_in p xs (rw b at h) in (r.0, inr r.1, r.2)
    ]

moved : (xs ys : List Hit) (h : Hit) → list_any (same_hit h) xs ≡ list_any (same_hit h) ys → In h xs → In h ys
moved xs ys h e i =
    let k = any_in (same_hit h) ys (sym e ∙ in_any (same_hit h) xs h i (same_self h)) in
    subst (λ z. In z ys) (sym (same_is h k.0 k.2)) k.1

-- of distinct documents

abbrev same_doc : Hit → Hit → Bool
same_doc x y = nat_eq x.doc.0 y.doc.0

flips : (x y : Hit) → same_doc x y ≡ same_doc y x
flips x y = grind arith

no_eq : (m n : ℕ) → (n ≡ m → ⊥) → nat_eq m n ≡ false
no_eq m n h = grind (arith, h)

eq_no : (m n : ℕ) → nat_eq m n ≡ false → n ≡ m → ⊥
eq_no m n h e = grind (arith, h, e)

all_apart : (x : Hit) (xs : List Hit) → ((y : Hit) → In y xs → y.doc.0 ≡ x.doc.0 → ⊥) → AllByRecursion (λ y. same_doc x y ≡ false) xs
all_apart x [] n = tt
all_apart x (y ∷ ys) n = (no_eq x.doc.0 y.doc.0 (n y (inl refl)), all_apart x ys (λ z i. n z (inr i)))

apart_all : (x : Hit) (xs : List Hit) → AllByRecursion (λ y. same_doc x y ≡ false) xs → (y : Hit) → In y xs → y.doc.0 ≡ x.doc.0 → ⊥
apart_all x [] a y i = absurd i
apart_all x (z ∷ zs) a y (inl e) = λ d. eq_no x.doc.0 z.doc.0 a.0 (sym (ap (λ (h : Hit). h.doc.0) e) ∙ d)
apart_all x (z ∷ zs) a y (inr i) = apart_all x zs a.1 y i

distinct_of : (xs : List Hit) → HitsAreApart xs → IsDistinct same_doc xs
unfolding IsDistinct
distinct_of [] a = tt
distinct_of (x ∷ xs) a = (all_apart x xs a.0, distinct_of xs a.1)

apart_of : (xs : List Hit) → IsDistinct same_doc xs → HitsAreApart xs
unfolding IsDistinct
apart_of [] d = tt
apart_of (x ∷ xs) d = (apart_all x xs d.0, apart_of xs d.1)

apart_moved : (xs ys : List Hit) → IsPermutation xs ys → HitsAreApart xs → HitsAreApart ys
apart_moved xs ys p a = apart_of ys (IsDistinct-IsPermutation same_doc flips xs ys p (distinct_of xs a))

pub same_hits : (xs ys : List Hit) → IsPermutation xs ys → HitsAreApart xs → HaveSame xs ys
same_hits xs ys p a = record {
  to = λ h i. moved xs ys h (same h) i;
  back = λ h i. moved ys xs h (sym (same h)) i;
  apart = apart_moved xs ys p a;
}
  where
    same : (h : Hit) → list_any (same_hit h) xs ≡ list_any (same_hit h) ys
    same h = list_any-IsPermutation (same_hit h) xs ys p

-- in order

strictly : (a b : Hit) → is_before b a ≡ false → (b.doc.0 ≡ a.doc.0 → ⊥) → is_before a b ≡ true
strictly a b h n = grind (arith, ints)

in_order_all : (xs : List Hit) → HitsAreApart xs
    → ((k : ℕ) (d : Hit) → 0 ≤ k → k + 1 < length xs → is_before (slice_index_or xs (k + 1) d) (slice_index_or xs k d) ≡ false) → InOrder xs
in_order_all [] a s = tt
in_order_all (x ∷ []) a s = ((λ y i. absurd i), tt)
in_order_all (x ∷ y ∷ zs) a s =
    let r = in_order_all (y ∷ zs) a.1 (λ k d z l. shift k d (s (suc k) d (omega arith) (omega (arith, l)))) in
    let e : is_before x y ≡ true = strictly x y (s 0 x (omega arith) (omega arith)) (a.0 y (inl refl)) in
    (first e r, r)
  where
    shift : (k : ℕ) (d : Hit) → is_before (slice_index_or (x ∷ y ∷ zs) (suc k + 1) d) (slice_index_or (x ∷ y ∷ zs) (suc k) d) ≡ false
        → is_before (slice_index_or (y ∷ zs) (k + 1) d) (slice_index_or (y ∷ zs) k d) ≡ false
    shift k d h =
        let e : suc k + 1 ≡ suc (k + 1) = omega arith in
        subst (λ n. is_before (slice_index_or (x ∷ y ∷ zs) n d) (slice_index_or (y ∷ zs) k d) ≡ false) e h

    first : is_before x y ≡ true → InOrder (y ∷ zs) → (h : Hit) → In h (y ∷ zs) → is_before x h ≡ true
    first e r h (inl q) = subst (λ z. is_before x z ≡ true) (sym q) e
    first e r h (inr i) = onward x y h e (r.0 h i)

pub sorted_in_order : (xs ys : List Hit) → IsPermutation xs ys → HitsAreApart xs → IsSortedBy is_before ys → InOrder ys
sorted_in_order xs ys p a s = in_order_all ys (apart_moved xs ys p a) s
