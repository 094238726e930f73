-- Scores in order, and lists of them with the same members.
use Rattle.std.proofs.Common.{◌≡◌, true, false, List, [], ◌∷◌, refl, sym, ◌∙◌, subst, inl, inr, arith}
use Rattle.std.specs.Prelude.{◌⊎◌}
use Rattle.std.proofs.lemmas.Int.{ints}
use Rattle.std.proofs.lemmas.Bool.{cases_Bool}
use Rattle.tap_rows.specs.Kept.{In}
use Rattle.tap_rows.specs.declared.score.Score.{Score}
use Rattle.tap_rows.specs.Votes.{score_is_before, put_score, scores_in_order}
use Rattle.vote_scores.specs.Counts.{ScoresAreApart}

-- each score is before those behind it
abbrev pub InOrder : List Score → Type 0
InOrder [] = Unit {0}
InOrder (x ∷ xs) = ((y : Score) → In y xs → score_is_before x y ≡ true) × InOrder xs

not_self : (x : Score) → score_is_before x x ≡ true → ⊥
not_self x h = grind (arith, ints)

not_both : (x y : Score) → score_is_before x y ≡ true → score_is_before y x ≡ true → ⊥
not_both x y h k = grind (arith, ints)

onward : (x y z : Score) → score_is_before x y ≡ true → score_is_before y z ≡ true → score_is_before x z ≡ true
onward x y z h k = grind (arith, ints)

otherwise : (a b : Score) → score_is_before a b ≡ false → (b.doc.0 ≡ a.doc.0 → ⊥) → score_is_before b a ≡ true
otherwise a b h n = grind (arith, ints)

pub same_rising : (xs ys : List Score) → InOrder xs → InOrder ys → ((h : Score) → In h xs → In h ys) → ((h : Score) → In h ys → In h xs)
    → xs ≡ ys
same_rising [] [] r s to back = refl
same_rising [] (y ∷ ys) r s to back = absurd (back y (inl refl))
same_rising (x ∷ xs) [] r s to back = absurd (to x (inl refl))
same_rising (x ∷ xs) (y ∷ ys) r s to back =
    let e = heads (to x (inl refl)) (back y (inl refl)) in
    let t = same_rising xs ys r.1 s.1 (λ h i. to_tail e h i (to h (inr i))) (λ h i. back_tail e h i (back h (inr i))) in
    joined e t
  where
    heads : In x (y ∷ ys) → In y (x ∷ xs) → x ≡ y
    heads (inl e) j = e
    heads (inr i) (inl e) = sym e
    heads (inr i) (inr j) = absurd (not_both x y (r.0 y j) (s.0 x i))

    to_tail : x ≡ y → (h : Score) → In h xs → In h (y ∷ ys) → In h ys
    to_tail e h i (inl q) = absurd (not_self x (subst (λ z. score_is_before x z ≡ true) (q ∙ sym e) (r.0 h i)))
    to_tail e h i (inr j) = j

    back_tail : x ≡ y → (h : Score) → In h ys → In h (x ∷ xs) → In h xs
    back_tail e h i (inl q) = absurd (not_self y (subst (λ z. score_is_before y z ≡ true) (q ∙ e) (s.0 h i)))
    back_tail e h i (inr j) = j

    joined : x ≡ y → xs ≡ ys → x ∷ xs ≡ y ∷ ys
    joined e t = cc

out_put : (a h : Score) (bs : List Score) → In h (put_score a bs) → (h ≡ a) ⊎ In h bs
out_put a h [] i = i
out_put a h (b ∷ bs) i =
    elim (cases_Bool (score_is_before a b)) [
      | inl e ↦ rw e at i
      | inr e ↦ other (rw e at i) (λ j. out_put a h bs j)
    ]
  where
    other : (h ≡ b) ⊎ In h (put_score a bs) → (In h (put_score a bs) → (h ≡ a) ⊎ In h bs) → (h ≡ a) ⊎ In h (b ∷ bs)
    other (inl q) f = inr (inl q)
    other (inr j) f = elim (f j) [ inl q ↦ inl q | inr k ↦ inr (inr k) ]

in_put : (a h : Score) (bs : List Score) → (h ≡ a) ⊎ In h bs → In h (put_score a bs)
in_put a h [] i = i
in_put a h (b ∷ bs) i =
    elim (cases_Bool (score_is_before a b)) [
      | inl e ↦ rw e i
      | inr e ↦ rw e (other i (λ j. in_put a h bs j))
    ]
  where
    other : (h ≡ a) ⊎ In h (b ∷ bs) → ((h ≡ a) ⊎ In h bs → In h (put_score a bs)) → (h ≡ b) ⊎ In h (put_score a bs)
    other (inl q) f = inr (f (inl q))
    other (inr (inl q)) f = inl q
    other (inr (inr j)) f = inr (f (inr j))

rising_put : (a : Score) (bs : List Score) → InOrder bs → ((y : Score) → In y bs → y.doc.0 ≡ a.doc.0 → ⊥) → InOrder (put_score a bs)
rising_put a [] r n = ((λ y i. absurd i), tt)
rising_put a (b ∷ bs) r n =
    elim (cases_Bool (score_is_before a b)) [
      | inl e ↦
          rw e (first e, r)
      | inr e ↦ rw e ((λ y i. later e y (out_put a y bs i)), rising_put a bs r.1 (λ y i. n y (inr i)))
    ]
  where
    first : score_is_before a b ≡ true → (y : Score) → In y (b ∷ bs) → score_is_before a y ≡ true
    first s y (inl q) = subst (λ z. score_is_before a z ≡ true) (sym q) s
    first s y (inr i) = onward a b y s (r.0 y i)

    later : score_is_before a b ≡ false → (y : Score) → (y ≡ a) ⊎ In y bs → score_is_before b y ≡ true
    later e y (inl q) = subst (λ z. score_is_before b z ≡ true) (sym q) (otherwise a b e (n b (inl refl)))
    later e y (inr i) = r.0 y i

pub ordered_in : (h : Score) (hs : List Score) → In h (scores_in_order hs) → In h hs
ordered_in h [] i = i
ordered_in h (x ∷ xs) i = elim (out_put x h (scores_in_order xs) i) [ inl q ↦ inl q | inr j ↦ inr (ordered_in h xs j) ]

pub in_ordered : (h : Score) (hs : List Score) → In h hs → In h (scores_in_order hs)
in_ordered h [] i = i
in_ordered h (x ∷ xs) (inl q) = in_put x h (scores_in_order xs) (inl q)
in_ordered h (x ∷ xs) (inr i) = in_put x h (scores_in_order xs) (inr (in_ordered h xs i))

pub rising_order : (hs : List Score) → ScoresAreApart hs → InOrder (scores_in_order hs)
rising_order [] a = tt
rising_order (x ∷ xs) a = rising_put x (scores_in_order xs) (rising_order xs a.1) (λ y i. a.0 y (ordered_in y xs i))

-- two lists with the same scores of distinct documents are one in order
pub same_order : (xs ys : List Score) → ScoresAreApart xs → ScoresAreApart ys → ((s : Score) → In s xs → In s ys)
    → ((s : Score) → In s ys → In s xs) → scores_in_order xs ≡ scores_in_order ys
same_order xs ys a b to back =
    same_rising (scores_in_order xs) (scores_in_order ys) (rising_order xs a) (rising_order ys b)
    (λ s i. in_ordered s ys (to s (ordered_in s xs i))) (λ s i. in_ordered s xs (back s (ordered_in s ys i)))
