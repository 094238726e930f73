-- Hits with the places of their documents among them, with one hit more.
use Rattle.std.proofs.Common.{◌≡◌, ℕ, zero, suc, ◌+◌, ◌-◌, ◌<◌, ◌≤◌, true, false, List, [], ◌∷◌, ◌++◌, Option, Some, None, length, map}
use Rattle.std.proofs.Common.{refl, sym, ap, ◌∙◌, subst, inl, inr, arith, nat_eq}
use Rattle.std.specs.Prelude.{◌⊎◌, slice_get, slice_set, slice_index_or}
use Rattle.std.specs.List.{list_any, IsDistinct, AllByRecursion}
use Rattle.std.proofs.lemmas.Bool.{cases_Bool, true≢false, both_ways, eqb-true, eq-eqb, ne_eqb}
use Rattle.std.proofs.lemmas.Map.Steps.{length-le_from_distinct_below}
use Rattle.tap_rows.specs.declared.results.Hit.{Hit}
use Rattle.tap_rows.specs.Kept.{In}
use Rattle.tap_rows.proofs.Tests.{some_same, none_some}
use Rattle.query_eval.specs.HitLists.{HitsAreApart}
use Rattle.query_eval.specs.Lowest.{lower, with_lowered}
use Rattle.query_eval.specs.Placed.{IsPlaced, has_hit_at, is_of}
use Rattle.query_eval.proofs.Lows.{lower_doc}

module _ {A : Type 0} where
  get_below : (xs : List A) (k : ℕ) (x : A) → slice_get xs k ≡ Some x → k < length xs
  get_below [] k x e = absurd (none_some e)
  get_below (y ∷ ys) zero x e = omega arith
  get_below (y ∷ ys) (suc k) x e = let i = get_below ys k x e in omega (arith, i)

  get_or_is : (xs : List A) (k : ℕ) (x d : A) → slice_get xs k ≡ Some x → slice_index_or xs k d ≡ x
  get_or_is [] k x d e = absurd (none_some e)
  get_or_is (y ∷ ys) zero x d e = some_same e
  get_or_is (y ∷ ys) (suc k) x d e = get_or_is ys k x d e

  get_there : (xs : List A) (k : ℕ) (d : A) → k < length xs → slice_get xs k ≡ Some (slice_index_or xs k d)
  get_there [] k d h = absurd (omega (arith, h))
  get_there (y ∷ ys) zero d h = refl
  get_there (y ∷ ys) (suc k) d h = get_there ys k d (omega (arith, h))

  set_same : (xs : List A) (k : ℕ) (a : A) → k < length xs → slice_get (slice_set xs k a) k ≡ Some a
  set_same [] k a h = absurd (omega (arith, h))
  set_same (y ∷ ys) zero a h = refl
  set_same (y ∷ ys) (suc k) a h = set_same ys k a (omega (arith, h))

  set_other : (xs : List A) (i k : ℕ) (a : A) → (i ≡ k → ⊥) → slice_get (slice_set xs i a) k ≡ slice_get xs k
  set_other [] zero k a n = refl
  set_other [] (suc i) k a n = refl
  set_other (y ∷ ys) zero zero a n = absurd (n refl)
  set_other (y ∷ ys) zero (suc k) a n = refl
  set_other (y ∷ ys) (suc i) zero a n = refl
  set_other (y ∷ ys) (suc i) (suc k) a n = set_other ys i k a (λ e. n (ap suc e))

  set_length : (xs : List A) (i : ℕ) (a : A) → length (slice_set xs i a) ≡ length xs
  set_length [] zero a = refl
  set_length [] (suc i) a = refl
  set_length (y ∷ ys) zero a = refl
  set_length (y ∷ ys) (suc i) a = ap suc (set_length ys i a)

  get_onto : (xs : List A) (x y : A) (k : ℕ) → slice_get (xs ++ x ∷ []) k ≡ Some y → (slice_get xs k ≡ Some y) ⊎ ((k ≡ length xs) × (y ≡ x))
  get_onto [] x y zero e = inr (refl, sym (some_same e))
  get_onto [] x y (suc k) e = absurd (none_some e)
  get_onto (z ∷ zs) x y zero e = inl e
  get_onto (z ∷ zs) x y (suc k) e = elim (get_onto zs x y k e) [ inl i ↦ inl i | inr p ↦ inr (ap suc p.0, p.1) ]

-- the stored hits with one more

lowered_absent : (hs : List Hit) (h : Hit) → ((k : ℕ) (x : Hit) → slice_get hs k ≡ Some x → x.doc.0 ≡ h.doc.0 → ⊥)
    → with_lowered hs h ≡ hs ++ h ∷ []
lowered_absent [] h n = refl
lowered_absent (x ∷ hs) h n =
    let e = ne_eqb x.doc.0 h.doc.0 (n 0 x refl) in
    rw e (ap (λ z. x ∷ z) (lowered_absent hs h (λ k y g. n (suc k) y g)))

lowered_present : (hs : List Hit) (k : ℕ) (x h : Hit) → slice_get hs k ≡ Some x → x.doc.0 ≡ h.doc.0
    → ((j : ℕ) (y : Hit) → j < k → slice_get hs j ≡ Some y → y.doc.0 ≡ h.doc.0 → ⊥) → with_lowered hs h ≡ slice_set hs k (lower x h)
lowered_present [] k x h g d n = absurd (none_some g)
lowered_present (z ∷ hs) zero x h g d n =
    let q : z ≡ x = some_same g in
    let e = eq-eqb z.doc.0 h.doc.0 (ap (λ (y : Hit). y.doc.0) q ∙ d) in
    rw e (ap (λ y. lower y h ∷ hs) q)
lowered_present (z ∷ hs) (suc k) x h g d n =
    let e = ne_eqb z.doc.0 h.doc.0 (n 0 z (omega arith) refl) in
    rw e (ap (λ y. z ∷ y) (lowered_present hs k x h g d (λ j y w i. n (suc j) y (omega (arith, w)) i)))

abbrev NoneOf : List Hit → ℕ → Type 0
NoneOf hs doc = (k : ℕ) (x : Hit) → slice_get hs k ≡ Some x → x.doc.0 ≡ doc → ⊥

less_not : (j k : ℕ) → j < k → k ≡ j → ⊥
less_not j k w e = omega (arith, w, e)

module _ (hs : List Hit) (ps : List ℕ) (placed : IsPlaced hs ps) (doc place : ℕ) (known : slice_get ps (doc - 1) ≡ Some place) where
  -- a document has at most one hit, at the place under its number
  at_place : (k : ℕ) (x : Hit) → slice_get hs k ≡ Some x → x.doc.0 ≡ doc → place ≡ k
  at_place k x g e =
      let p : slice_get ps (doc - 1) ≡ Some k = subst (λ n. slice_get ps (n - 1) ≡ Some k) e (placed k x g).2 in
      some_same (sym known ∙ p)

  pub none_of : has_hit_at hs place doc ≡ false → NoneOf hs doc
  none_of h k x g e =
      let q : slice_get hs place ≡ Some x = ap (λ n. slice_get hs n) (at_place k x g e) ∙ g in
      both_ways (has_hit_at hs place doc) h (ap (λ o. is_of doc o) q ∙ eq-eqb x.doc.0 doc e)

  pub there : has_hit_at hs place doc ≡ true → (x : Hit) × (slice_get hs place ≡ Some x) × (x.doc.0 ≡ doc)
  there h = go (slice_get hs place) refl
    where
      go : (o : Option Hit) → slice_get hs place ≡ o → (x : Hit) × (slice_get hs place ≡ Some x) × (x.doc.0 ≡ doc)
      go None e = absurd (both_ways (has_hit_at hs place doc) (ap (λ o. is_of doc o) e) h)
      go (Some x) e = (x, e, eqb-true x.doc.0 doc (sym (ap (λ o. is_of doc o) e) ∙ h))

  none_before : (j : ℕ) (y : Hit) → j < place → slice_get hs j ≡ Some y → y.doc.0 ≡ doc → ⊥
  none_before j y w g e = less_not j place w (at_place j y g e)

-- a hit lowered at its place
pub kept_lower : (hs : List Hit) (ps : List ℕ) (h : Hit) (place : ℕ) (d : Hit) → IsPlaced hs ps → slice_get ps (h.doc.0 - 1) ≡ Some place
    → has_hit_at hs place h.doc.0 ≡ true → with_lowered hs h ≡ slice_set hs place (lower (slice_index_or hs place d) h)
kept_lower hs ps h place d p k t =
    let x = there hs ps p h.doc.0 place k t in
    lowered_present hs place x.0 h x.1 x.2 (none_before hs ps p h.doc.0 place k)
    ∙ ap (λ y. slice_set hs place (lower y h)) (sym (get_or_is hs place x.0 d x.1))

pub placed_lower : (hs : List Hit) (ps : List ℕ) (h : Hit) (place : ℕ) (d : Hit) → IsPlaced hs ps → slice_get ps (h.doc.0 - 1) ≡ Some place
    → has_hit_at hs place h.doc.0 ≡ true → IsPlaced (slice_set hs place (lower (slice_index_or hs place d) h)) ps
placed_lower hs ps h place d p k t = λ j y g. go j y g (there hs ps p h.doc.0 place k t)
  where
    moved : (j : ℕ) (x y : Hit) → slice_get hs j ≡ Some x → y.doc.0 ≡ x.doc.0
        → (0 < y.doc.0) × (y.doc.0 ≤ length ps) × (slice_get ps (y.doc.0 - 1) ≡ Some j)
    moved j x y g e = subst (λ n. (0 < n) × (n ≤ length ps) × (slice_get ps (n - 1) ≡ Some j)) (sym e) (p j x g)

    go : (j : ℕ) (y : Hit) → slice_get (slice_set hs place (lower (slice_index_or hs place d) h)) j ≡ Some y
        → (x : Hit) × (slice_get hs place ≡ Some x) × (x.doc.0 ≡ h.doc.0)
        → (0 < y.doc.0) × (y.doc.0 ≤ length ps) × (slice_get ps (y.doc.0 - 1) ≡ Some j)
    go j y g x =
        let o : slice_index_or hs place d ≡ x.0 = get_or_is hs place x.0 d x.1 in
        elim (cases_Bool (nat_eq place j)) [
          | inl b ↦
              let e : place ≡ j = eqb-true place j b in
              let s : slice_get (slice_set hs place (lower (slice_index_or hs place d) h)) place
              ≡ Some (lower (slice_index_or hs place d) h) = set_same hs place _ (get_below hs place x.0 x.1) in
              let q : y ≡ lower x.0 h =
              some_same (sym g ∙ ap (λ n. slice_get (slice_set hs place (lower (slice_index_or hs place d) h)) n) (sym e) ∙ s)
              ∙ ap (λ z. lower z h) o in
              moved j x.0 y (ap (λ n. slice_get hs n) (sym e) ∙ x.1) (ap (λ (z : Hit). z.doc.0) q ∙ lower_doc x.0 h x.2)
          | inr b ↦
              let n : place ≡ j → ⊥ = λ e. both_ways (nat_eq place j) b (eq-eqb place j e) in
              p j y (sym (set_other hs place j (lower (slice_index_or hs place d) h) n) ∙ g)
        ]

-- a hit of a new document

apart_places : (a b : ℕ) → 0 < a → 0 < b → (a ≡ b → ⊥) → b - 1 ≡ a - 1 → ⊥
apart_places a b h k n e = n (omega (arith, h, k, e))

pub placed_append : (hs : List Hit) (ps : List ℕ) (h : Hit) → IsPlaced hs ps → NoneOf hs h.doc.0 → 0 < h.doc.0 → h.doc.0 ≤ length ps
    → IsPlaced (hs ++ h ∷ []) (slice_set ps (h.doc.0 - 1) (length hs))
placed_append hs ps h p n a w = λ k x g. go k x (get_onto hs h x k g)
  where
    len : length (slice_set ps (h.doc.0 - 1) (length hs)) ≡ length ps
    len = set_length ps (h.doc.0 - 1) (length hs)

    go : (k : ℕ) (x : Hit) → (slice_get hs k ≡ Some x) ⊎ ((k ≡ length hs) × (x ≡ h))
        → (0 < x.doc.0) × (x.doc.0 ≤ length (slice_set ps (h.doc.0 - 1) (length hs)))
        × (slice_get (slice_set ps (h.doc.0 - 1) (length hs)) (x.doc.0 - 1) ≡ Some k)
    go k x (inl g) =
        let q = p k x g in
        let o : h.doc.0 - 1 ≡ x.doc.0 - 1 → ⊥ = apart_places x.doc.0 h.doc.0 q.0 a (n k x g) in
        (q.0, subst (λ z. x.doc.0 ≤ z) (sym len) q.1, set_other ps (h.doc.0 - 1) (x.doc.0 - 1) (length hs) o ∙ q.2)
    go k x (inr e) =
        let d : h.doc.0 ≡ x.doc.0 = ap (λ (z : Hit). z.doc.0) (sym e.1) in
        let s : slice_get (slice_set ps (h.doc.0 - 1) (length hs)) (h.doc.0 - 1) ≡ Some (length hs) =
        set_same ps (h.doc.0 - 1) (length hs) (omega (arith, a, w)) in (
          subst (λ z. 0 < z) d a,
          subst (λ z. z ≤ length (slice_set ps (h.doc.0 - 1) (length hs))) d (subst (λ z. h.doc.0 ≤ z) (sym len) w),
          subst (λ z. slice_get (slice_set ps (h.doc.0 - 1) (length hs)) (z - 1) ≡ Some k) d (s ∙ ap (λ z. Some z) (sym e.0)),
        )

pub kept_append : (hs : List Hit) (ps : List ℕ) (h : Hit) (place : ℕ) → IsPlaced hs ps → slice_get ps (h.doc.0 - 1) ≡ Some place
    → has_hit_at hs place h.doc.0 ≡ false → with_lowered hs h ≡ hs ++ h ∷ []
kept_append hs ps h place p k t = lowered_absent hs h (none_of hs ps p h.doc.0 place k t)

-- there are no more hits than documents

abbrev keys : List Hit → List ℕ
keys hs = map (λ (x : Hit). x.doc.0 - 1) hs

abbrev FromPlace : ℕ → List Hit → List ℕ → Type 0
FromPlace n hs ps = (k : ℕ) (x : Hit) → slice_get hs k ≡ Some x → slice_get ps (x.doc.0 - 1) ≡ Some (n + k)

further : (n k : ℕ) → n + 0 ≡ n + suc k → ⊥
further n k e = omega (arith, e)

-- a key that none of these hits has
key_apart : (key : ℕ) (zs : List Hit) → ((k : ℕ) (y : Hit) → slice_get zs k ≡ Some y → key ≡ y.doc.0 - 1 → ⊥)
    → AllByRecursion (λ y. nat_eq key y ≡ false) (keys zs)
key_apart key [] n = tt
key_apart key (z ∷ zs) n = (ne_eqb key (z.doc.0 - 1) (n 0 z refl), key_apart key zs (λ k y g. n (suc k) y g))

head_apart : (n k : ℕ) (x y : Hit) (ps : List ℕ) → slice_get ps (x.doc.0 - 1) ≡ Some (n + 0) → slice_get ps (y.doc.0 - 1) ≡ Some (n + suc k)
    → x.doc.0 - 1 ≡ y.doc.0 - 1 → ⊥
head_apart n k x y ps a b e = further n k (some_same (sym a ∙ ap (λ z. slice_get ps z) e ∙ b))

distinct_keys : (n : ℕ) (hs : List Hit) (ps : List ℕ) → FromPlace n hs ps → IsDistinct nat_eq (keys hs)
unfolding IsDistinct
distinct_keys n [] ps f = tt
distinct_keys n (x ∷ hs) ps f = (
  key_apart (x.doc.0 - 1) hs (λ k y g e. head_apart n k x y ps (f 0 x refl) (f (suc k) y g) e),
  distinct_keys (n + 1) hs ps (λ k y g.
      let e : n + suc k ≡ n + 1 + k = omega arith in subst (λ z. slice_get ps (y.doc.0 - 1) ≡ Some z) e (f (suc k) y g)),
)

keys_below : (n : ℕ) (hs : List Hit) → ((k : ℕ) (x : Hit) → slice_get hs k ≡ Some x → x.doc.0 - 1 < n) → (q : ℕ)
    → list_any (nat_eq q) (keys hs) ≡ true → q < n
keys_below n [] f q h = absurd (true≢false (sym h))
keys_below n (x ∷ hs) f q h =
    elim (cases_Bool (nat_eq q (x.doc.0 - 1))) [
      | inl b ↦ subst (λ z. z < n) (sym (eqb-true q (x.doc.0 - 1) b)) (f 0 x refl)
      | inr b ↦ keys_below n hs (λ k y g. f (suc k) y g) q (rw b at h)
    ]

keys_length : (hs : List Hit) → length (keys hs) ≡ length hs
keys_length [] = refl
keys_length (x ∷ hs) = ap suc (keys_length hs)

-- a hit of a new document finds room
pub fewer_hits : (hs : List Hit) (ps : List ℕ) (h : Hit) → IsPlaced hs ps → NoneOf hs h.doc.0 → 0 < h.doc.0 → h.doc.0 ≤ length ps
    → length hs < length ps
unfolding IsDistinct
fewer_hits hs ps h p n a w =
    let below : (k : ℕ) (x : Hit) → slice_get (h ∷ hs) k ≡ Some x → x.doc.0 - 1 < length ps = each in
    let l = length-le_from_distinct_below (keys (h ∷ hs)) (length ps) distinct (keys_below (length ps) (h ∷ hs) below) in
    let e : length (keys hs) ≡ length hs = keys_length hs in
    omega (arith, l, e)
  where
    each : (k : ℕ) (x : Hit) → slice_get (h ∷ hs) k ≡ Some x → x.doc.0 - 1 < length ps
    each zero x g = subst (λ (z : Hit). z.doc.0 - 1 < length ps) (some_same g) (omega (arith, a, w))
    each (suc k) x g = let q = p k x g in let q0 = q.0 in let q1 = q.1 in omega (arith, q0, q1)

    distinct : IsDistinct nat_eq (keys (h ∷ hs))
    distinct = (
      key_apart (h.doc.0 - 1) hs (λ k y g e. apart_places y.doc.0 h.doc.0 (p k y g).0 a (n k y g) e),
      distinct_keys 0 hs ps (λ k y g. (p k y g).2 ∙ ap (λ z. Some z) (zero_plus k)),
    )
      where
        zero_plus : (k : ℕ) → k ≡ 0 + k
        zero_plus k = omega arith

-- what is read under a document's number
pub known_at : (ps : List ℕ) (doc p : ℕ) → 0 < doc → doc ≤ length ps → p ≡ slice_index_or ps (doc - 1) p → slice_get ps (doc - 1) ≡ Some p
known_at ps doc p a w e = get_there ps (doc - 1) p (omega (arith, a, w)) ∙ ap (λ z. Some z) (sym e)

-- the place under the number of a document that has a hit is below the number of hits
pub place_below : (hs : List Hit) (place doc : ℕ) → has_hit_at hs place doc ≡ true → place < length hs
place_below hs place doc h = go (slice_get hs place) refl
  where
    go : (o : Option Hit) → slice_get hs place ≡ o → place < length hs
    go None e = absurd (true≢false (sym h ∙ ap (λ o. is_of doc o) e))
    go (Some x) e = get_below hs place x e

pub placed_as : (hs gs : List Hit) (ps qs : List ℕ) → gs ≡ hs → qs ≡ ps → IsPlaced hs ps → IsPlaced gs qs
placed_as hs gs ps qs e f p = subst (λ z. IsPlaced z qs) (sym e) (subst (λ z. IsPlaced hs z) (sym f) p)

-- hits in their places are of distinct documents

in_at : (hs : List Hit) (x : Hit) → In x hs → (k : ℕ) × (slice_get hs k ≡ Some x)
in_at [] x i = absurd i
in_at (z ∷ zs) x (inl e) = (0, ap (λ y. Some y) (sym e))
in_at (z ∷ zs) x (inr i) = let r = in_at zs x i in (suc r.0, r.1)

apart_from : (n : ℕ) (hs : List Hit) (ps : List ℕ) → FromPlace n hs ps → HitsAreApart hs
apart_from n [] ps f = tt
apart_from n (x ∷ hs) ps f = (
  apart,
  apart_from (n + 1) hs ps (λ k y g. let e : n + suc k ≡ n + 1 + k = omega arith in
      subst (λ z. slice_get ps (y.doc.0 - 1) ≡ Some z) e (f (suc k) y g)),
)
  where
    apart : (y : Hit) → In y hs → y.doc.0 ≡ x.doc.0 → ⊥
    apart y i d = let r = in_at hs y i in head_apart n r.0 x y ps (f 0 x refl) (f (suc r.0) y r.1) (ap (λ z. z - 1) (sym d))

pub apart_placed : (hs : List Hit) (ps : List ℕ) → IsPlaced hs ps → HitsAreApart hs
apart_placed hs ps p = apart_from 0 hs ps (λ k y g. let e : k ≡ 0 + k = omega arith in (p k y g).2 ∙ ap (λ z. Some z) e)
