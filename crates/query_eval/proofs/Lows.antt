-- One hit a document, with its least second.
use Rattle.std.proofs.Common.{◌≡◌, true, List, [], ◌∷◌, refl, sym, ap, ◌∙◌, subst, inl, inr, nat_eq}
use Rattle.std.specs.Prelude.{◌⊎◌, int_le}
use Rattle.std.proofs.lemmas.Bool.{cases_Bool, eqb-true, eqb-false}
use Rattle.tap_rows.specs.declared.results.Hit.{Hit}
use Rattle.tap_rows.specs.Kept.{In}
use Rattle.tap_rows.proofs.Tests.{le_itself, le_after, le_other}
use Rattle.query_eval.specs.Lowest.{lower, with_lowered, lowest}
use Rattle.query_eval.specs.HitLists.{HitsAreApart, AreLowest}

lower_is : (x h : Hit) → (lower x h ≡ x) ⊎ (lower x h ≡ h)
lower_is x h = elim (cases_Bool (int_le x.first h.first)) [ inl e ↦ inl (rw e refl) | inr e ↦ inr (rw e refl) ]

pub lower_doc : (x h : Hit) → x.doc.0 ≡ h.doc.0 → (lower x h).doc.0 ≡ x.doc.0
lower_doc x h d = elim (lower_is x h) [ inl e ↦ ap (λ (z : Hit). z.doc.0) e | inr e ↦ ap (λ (z : Hit). z.doc.0) e ∙ sym d ]

pub lower_first : (x h : Hit) → int_le (lower x h).first x.first ≡ true
lower_first x h = elim (cases_Bool (int_le x.first h.first)) [
  | inl e ↦ rw e (le_itself x.first)
  | inr e ↦ rw e (le_other x.first h.first e)
]

pub lower_other : (x h : Hit) → int_le (lower x h).first h.first ≡ true
lower_other x h = elim (cases_Bool (int_le x.first h.first)) [ inl e ↦ rw e e | inr e ↦ rw e (le_itself h.first) ]

-- what a hit of the lowered list is: an old one or the new one, at most the new one of its document, and at most each old one of its
-- document
pub record IsLow (xs : List Hit) (h k : Hit) : Type 0 where
  pub from : (k ≡ h) ⊎ In k xs
  pub new : k.doc.0 ≡ h.doc.0 → int_le k.first h.first ≡ true
  pub old : (x : Hit) → In x xs → x.doc.0 ≡ k.doc.0 → int_le k.first x.first ≡ true

apart_le : (xs : List Hit) (k x : Hit) → HitsAreApart xs → In k xs → In x xs → x.doc.0 ≡ k.doc.0 → int_le k.first x.first ≡ true
apart_le [] k x a i j d = absurd i
apart_le (z ∷ zs) k x a (inl p) (inl q) d = subst (λ (y : Hit). int_le k.first y.first ≡ true) (p ∙ sym q) (le_itself k.first)
apart_le (z ∷ zs) k x a (inl p) (inr j) d = absurd (a.0 x j (d ∙ ap (λ (y : Hit). y.doc.0) p))
apart_le (z ∷ zs) k x a (inr i) (inl q) d = absurd (a.0 k i (sym d ∙ ap (λ (y : Hit). y.doc.0) q))
apart_le (z ∷ zs) k x a (inr i) (inr j) d = apart_le zs k x a.1 i j d

pub lowered_is : (xs : List Hit) (h k : Hit) → HitsAreApart xs → In k (with_lowered xs h) → IsLow xs h k
lowered_is [] h k a (inl e) = record {
  from = inl e;
  new = λ d. subst (λ (z : Hit). int_le z.first h.first ≡ true) (sym e) (le_itself h.first);
  old = λ x i d. absurd i;
}
lowered_is [] h k a (inr i) = absurd i
lowered_is (x ∷ xs) h k a i = elim (cases_Bool (nat_eq x.doc.0 h.doc.0)) [
  | inl e ↦ here (eqb-true x.doc.0 h.doc.0 e) (rw e at i)
  | inr e ↦ there (eqb-false x.doc.0 h.doc.0 e) (rw e at i) (λ j. lowered_is xs h k a.1 j)
]
  where
    here : x.doc.0 ≡ h.doc.0 → (k ≡ lower x h) ⊎ In k xs → IsLow (x ∷ xs) h k
    here d (inl e) = record {
      from = elim (lower_is x h) [ inl q ↦ inr (inl (e ∙ q)) | inr q ↦ inl (e ∙ q) ];
      new = λ f. subst (λ (z : Hit). int_le z.first h.first ≡ true) (sym e) (lower_other x h);
      old = λ y j f. old_one y j f;
    }
      where
        old_one : (y : Hit) → In y (x ∷ xs) → y.doc.0 ≡ k.doc.0 → int_le k.first y.first ≡ true
        old_one y (inl q) f = subst (λ (z : Hit). int_le z.first y.first ≡ true) (sym e)
            (subst (λ (z : Hit). int_le (lower x h).first z.first ≡ true) (sym q) (lower_first x h))
        old_one y (inr j) f = absurd (a.0 y j (f ∙ ap (λ (z : Hit). z.doc.0) e ∙ lower_doc x h d))
    here d (inr j) = record {
      from = inr (inr j);
      new = λ f. absurd (a.0 k j (f ∙ sym d));
      old = λ y i f. apart_le (x ∷ xs) k y a (inr j) i f;
    }

    there : (x.doc.0 ≡ h.doc.0 → ⊥) → (k ≡ x) ⊎ In k (with_lowered xs h) → (In k (with_lowered xs h) → IsLow xs h k) → IsLow (x ∷ xs) h k
    there n (inl e) r = record {
      from = inr (inl e);
      new = λ f. absurd (n (sym (ap (λ (z : Hit). z.doc.0) e) ∙ f));
      old = λ y i f. apart_le (x ∷ xs) k y a (inl e) i f;
    }
    there n (inr j) r = further (r j)
      where
        further : IsLow xs h k → IsLow (x ∷ xs) h k
        further l = record {
          from = elim l.from [ inl e ↦ inl e | inr i ↦ inr (inr i) ];
          new = l.new;
          old = λ y i f. old_one y i f;
        }
          where
            old_one : (y : Hit) → In y (x ∷ xs) → y.doc.0 ≡ k.doc.0 → int_le k.first y.first ≡ true
            old_one y (inl q) f = first l.from
              where
                first : (k ≡ h) ⊎ In k xs → int_le k.first y.first ≡ true
                first (inl e) = absurd (n (sym (ap (λ (z : Hit). z.doc.0) q) ∙ f ∙ ap (λ (z : Hit). z.doc.0) e))
                first (inr i) = absurd (a.0 k i (sym f ∙ ap (λ (z : Hit). z.doc.0) q))
            old_one y (inr j) f = l.old y j f

pub lowered_has : (xs : List Hit) (h x : Hit) → (x ≡ h) ⊎ In x xs → (k : Hit) × In k (with_lowered xs h) × (k.doc.0 ≡ x.doc.0)
lowered_has [] h x (inl e) = (h, inl refl, sym (ap (λ (z : Hit). z.doc.0) e))
lowered_has [] h x (inr i) = absurd i
lowered_has (z ∷ zs) h x i = elim (cases_Bool (nat_eq z.doc.0 h.doc.0)) [
  | inl e ↦ rw e (here (eqb-true z.doc.0 h.doc.0 e) i)
  | inr e ↦ rw e (there i (λ j. lowered_has zs h x j))
]
  where
    here : z.doc.0 ≡ h.doc.0 → (x ≡ h) ⊎ In x (z ∷ zs) → (k : Hit) × In k (lower z h ∷ zs) × (k.doc.0 ≡ x.doc.0)
    here d (inl e) = (lower z h, inl refl, lower_doc z h d ∙ d ∙ sym (ap (λ (z : Hit). z.doc.0) e))
    here d (inr (inl q)) = (lower z h, inl refl, lower_doc z h d ∙ sym (ap (λ (z : Hit). z.doc.0) q))
    here d (inr (inr j)) = (x, inr j, refl)

    onto : (k : Hit) × In k (with_lowered zs h) × (k.doc.0 ≡ x.doc.0) → (k : Hit) × In k (z ∷ with_lowered zs h) × (k.doc.0 ≡ x.doc.0)
    onto k = (k.0, inr k.1, k.2)

    there : (x ≡ h) ⊎ In x (z ∷ zs) → ((x ≡ h) ⊎ In x zs → (k : Hit) × In k (with_lowered zs h) × (k.doc.0 ≡ x.doc.0))
        → (k : Hit) × In k (z ∷ with_lowered zs h) × (k.doc.0 ≡ x.doc.0)
    there (inl e) r = onto (r (inl e))
    there (inr (inl q)) r = (z, inl refl, sym (ap (λ (z : Hit). z.doc.0) q))
    there (inr (inr j)) r = onto (r (inr j))

pub lowered_apart : (xs : List Hit) (h : Hit) → HitsAreApart xs → HitsAreApart (with_lowered xs h)
lowered_apart [] h a = ((λ y i f. absurd i), tt)
lowered_apart (z ∷ zs) h a = elim (cases_Bool (nat_eq z.doc.0 h.doc.0)) [
  | inl e ↦ rw e ((λ y i f. a.0 y i (f ∙ lower_doc z h (eqb-true z.doc.0 h.doc.0 e))), a.1)
  | inr e ↦ rw e ((λ y i f. away (eqb-false z.doc.0 h.doc.0 e) y f (lowered_is zs h y a.1 i).from), lowered_apart zs h a.1)
]
  where
    away : (z.doc.0 ≡ h.doc.0 → ⊥) → (y : Hit) → y.doc.0 ≡ z.doc.0 → (y ≡ h) ⊎ In y zs → ⊥
    away n y f (inl e) = n (sym f ∙ ap (λ (z : Hit). z.doc.0) e)
    away n y f (inr i) = a.0 y i f

pub kept_one : (D : Hit → Type 0) (kept : List Hit) (h : Hit) → AreLowest D kept → AreLowest (λ y. (y ≡ h) ⊎ D y) (with_lowered kept h)
kept_one D kept h s = record {
  among = λ k i. from k (lowered_is kept h k s.apart i).from;
  least = λ k y i d f. low k y (lowered_is kept h k s.apart i) d f;
  all = λ y d. has y d;
  apart = lowered_apart kept h s.apart;
}
  where
    from : (k : Hit) → (k ≡ h) ⊎ In k kept → (k ≡ h) ⊎ D k
    from k (inl e) = inl e
    from k (inr i) = inr (s.among k i)

    low : (k y : Hit) → IsLow kept h k → (y ≡ h) ⊎ D y → y.doc.0 ≡ k.doc.0 → int_le k.first y.first ≡ true
    low k y l (inl e) f = subst (λ (z : Hit). int_le k.first z.first ≡ true) (sym e) (l.new (sym f ∙ ap (λ (z : Hit). z.doc.0) e))
    low k y l (inr d) f =
        let x = s.all y d in
        le_after k.first x.0.first y.first (l.old x.0 x.1 (x.2 ∙ f)) (s.least x.0 y x.1 d (sym x.2))

    has : (y : Hit) → (y ≡ h) ⊎ D y → (k : Hit) × In k (with_lowered kept h) × (k.doc.0 ≡ y.doc.0)
    has y (inl e) = lowered_has kept h y (inl e)
    has y (inr d) =
        let x = s.all y d in
        let k = lowered_has kept h x.0 (inr x.1) in
        (k.0, k.1, k.2 ∙ x.2)

pub kept_same : (D E : Hit → Type 0) (kept : List Hit) → ((y : Hit) → D y → E y) → ((y : Hit) → E y → D y) → AreLowest D kept
    → AreLowest E kept
kept_same D E kept to back s = record {
  among = λ k i. to k (s.among k i);
  least = λ k y i d f. s.least k y i (back y d) f;
  all = λ y d. s.all y (back y d);
  apart = s.apart;
}

-- the lowered list of all hits has one of each document, the least one
pub kept_all : (D : Hit → Type 0) (kept hs : List Hit) → AreLowest D kept → AreLowest (λ y. D y ⊎ In y hs) (lowest kept hs)
kept_all D kept [] s = kept_same D (λ y. D y ⊎ In y []) kept (λ y d. inl d) (λ y d. only y d) s
  where
    only : (y : Hit) → D y ⊎ In y [] → D y
    only y (inl d) = d
    only y (inr i) = absurd i
kept_all D kept (h ∷ hs) s = kept_same (λ y. ((y ≡ h) ⊎ D y) ⊎ In y hs) (λ y. D y ⊎ In y (h ∷ hs)) (lowest (with_lowered kept h) hs)
    (λ y d. to y d) (λ y d. back y d) (kept_all (λ y. (y ≡ h) ⊎ D y) (with_lowered kept h) hs (kept_one D kept h s))
  where
    to : (y : Hit) → ((y ≡ h) ⊎ D y) ⊎ In y hs → D y ⊎ In y (h ∷ hs)
    to y (inl (inl e)) = inr (inl e)
    to y (inl (inr d)) = inl d
    to y (inr i) = inr (inr i)

    back : (y : Hit) → D y ⊎ In y (h ∷ hs) → ((y ≡ h) ⊎ D y) ⊎ In y hs
    back y (inl d) = inl (inr d)
    back y (inr (inl e)) = inl (inl e)
    back y (inr (inr i)) = inr i
