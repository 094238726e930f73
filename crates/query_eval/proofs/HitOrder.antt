-- Hits in order, and lists of them with the same members.
use Rattle.std.proofs.Common.{◌≡◌, true, false, List, [], ◌∷◌, refl, sym, ◌∙◌, subst, inl, inr, arith}
use Rattle.std.specs.Prelude.{◌⊎◌}
use Rattle.std.proofs.lemmas.Int.{ints}
use Rattle.std.proofs.lemmas.Bool.{cases_Bool}
use Rattle.tap_rows.specs.declared.results.Hit.{Hit}
use Rattle.tap_rows.specs.Results.{is_before, put_in, hits_in_order}
use Rattle.probe_eval.proofs.Ordered.{out_put, ordered_in}
use Rattle.query_eval.specs.HitLists.{InOrder, HitsAreApart}
use Rattle.tap_rows.specs.Kept.{In}

not_self : (x : Hit) → is_before x x ≡ true → ⊥
not_self x h = grind (arith, ints)

not_both : (x y : Hit) → is_before x y ≡ true → is_before y x ≡ true → ⊥
not_both x y h k = grind (arith, ints)

pub onward : (x y z : Hit) → is_before x y ≡ true → is_before y z ≡ true → is_before x z ≡ true
onward x y z h k = grind (arith, ints)

otherwise : (a b : Hit) → is_before a b ≡ false → (b.doc.0 ≡ a.doc.0 → ⊥) → is_before b a ≡ true
otherwise a b h n = grind (arith, ints)

pub same_rising : (xs ys : List Hit) → InOrder xs → InOrder ys → ((h : Hit) → In h xs → In h ys) → ((h : Hit) → In h ys → In h xs) → xs ≡ ys
same_rising [] [] r s to back = refl
same_rising [] (y ∷ ys) r s to back = absurd (back y (inl refl))
same_rising (x ∷ xs) [] r s to back = absurd (to x (inl refl))
same_rising (x ∷ xs) (y ∷ ys) r s to back =
    let e = heads (to x (inl refl)) (back y (inl refl)) in
    let t = same_rising xs ys r.1 s.1 (λ h i. to_tail e h i (to h (inr i))) (λ h i. back_tail e h i (back h (inr i))) in
    joined e t
  where
    heads : In x (y ∷ ys) → In y (x ∷ xs) → x ≡ y
    heads (inl e) j = e
    heads (inr i) (inl e) = sym e
    heads (inr i) (inr j) = absurd (not_both x y (r.0 y j) (s.0 x i))

    to_tail : x ≡ y → (h : Hit) → In h xs → In h (y ∷ ys) → In h ys
    to_tail e h i (inl q) = absurd (not_self x (subst (λ z. is_before x z ≡ true) (q ∙ sym e) (r.0 h i)))
    to_tail e h i (inr j) = j

    back_tail : x ≡ y → (h : Hit) → In h ys → In h (x ∷ xs) → In h xs
    back_tail e h i (inl q) = absurd (not_self y (subst (λ z. is_before y z ≡ true) (q ∙ e) (s.0 h i)))
    back_tail e h i (inr j) = j

    joined : x ≡ y → xs ≡ ys → x ∷ xs ≡ y ∷ ys
    joined e t = cc

rising_put : (a : Hit) (bs : List Hit) → InOrder bs → ((y : Hit) → In y bs → y.doc.0 ≡ a.doc.0 → ⊥) → InOrder (put_in a bs)
rising_put a [] r n = ((λ y i. absurd i), tt)
rising_put a (b ∷ bs) r n =
    elim (cases_Bool (is_before a b)) [
      | inl e ↦
          rw e (first e, r)
      | inr e ↦ rw e ((λ y i. later e y (out_put a y bs i)), rising_put a bs r.1 (λ y i. n y (inr i)))
    ]
  where
    first : is_before a b ≡ true → (y : Hit) → In y (b ∷ bs) → is_before a y ≡ true
    first s y (inl q) = subst (λ z. is_before a z ≡ true) (sym q) s
    first s y (inr i) = onward a b y s (r.0 y i)

    later : is_before a b ≡ false → (y : Hit) → (y ≡ a) ⊎ In y bs → is_before b y ≡ true
    later e y (inl q) = subst (λ z. is_before b z ≡ true) (sym q) (otherwise a b e (n b (inl refl)))
    later e y (inr i) = r.0 y i

pub rising_order : (hs : List Hit) → HitsAreApart hs → InOrder (hits_in_order hs)
rising_order [] a = tt
rising_order (x ∷ xs) a = rising_put x (hits_in_order xs) (rising_order xs a.1) (λ y i. a.0 y (ordered_in y xs i))
