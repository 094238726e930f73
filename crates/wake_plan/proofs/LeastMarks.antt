-- Least marks of lists of hits.
use Rattle.std.proofs.Common.{◌≡◌, ℤ, Bool, false, List, [], ◌∷◌, Option, Some, None, refl, sym, ap, ◌∙◌, subst, inl, inr, arith}
use Rattle.std.specs.Prelude.{◌⊎◌, int_le, ◌≤ℤ◌}
use Rattle.std.proofs.lemmas.Int.{ints}
use Rattle.std.proofs.lemmas.Bool.{cases_Bool}
use Rattle.tap_rows.specs.declared.rows.Doc.{Doc}
use Rattle.tap_rows.specs.declared.tables.Tables.{Tables}
use Rattle.tap_rows.specs.declared.results.Hit.{Hit}
use Rattle.tap_rows.specs.Kept.{In}
use Rattle.tap_rows.proofs.Tests.{some_same, le_from}
use Rattle.time_marks.specs.declared.window.Window.{Window}
use Rattle.time_marks.specs.Probes.{Probe, meaning_without}
use Rattle.probe_eval.specs.Found.{AreFound}
use Rattle.probe_eval.proofs.Meant.{least_is, meaning_in, in_meaning, found_least}
use Rattle.time_marks.specs.NextWake.{lesser, lesser_or, least_mark}

antisym : (x y : ℤ) → x ≤ℤ y → y ≤ℤ x → x ≡ y
antisym x y h k = omega (arith, ints)

pub reflexive : (x y : ℤ) → x ≡ y → x ≤ℤ y
reflexive x y e = omega (arith, ints)

pub onward : (x y z : ℤ) → x ≤ℤ y → y ≤ℤ z → x ≤ℤ z
onward x y z h k = omega (arith, ints)

le_false : (x y : ℤ) → int_le x y ≡ false → y ≤ℤ x
le_false x y h = grind (arith, ints)

-- the lesser is one of the two, and no greater than either
lesser_is : (a b : ℤ) → (lesser a b ≡ a) ⊎ (lesser a b ≡ b)
lesser_is a b = elim (cases_Bool (int_le a b)) [ inl e ↦ inl (rw e refl) | inr e ↦ inr (rw e refl) ]

lesser_left : (a b : ℤ) → lesser a b ≤ℤ a
lesser_left a b = elim (cases_Bool (int_le a b)) [ inl e ↦ rw e (reflexive a a refl) | inr e ↦ rw e (le_false a b e) ]

lesser_right : (a b : ℤ) → lesser a b ≤ℤ b
lesser_right a b = elim (cases_Bool (int_le a b)) [ inl e ↦ rw e (le_from a b e) | inr e ↦ rw e (reflexive b b refl) ]

-- without a least mark there is no hit
pub no_mark : (hs : List Hit) → least_mark hs ≡ None → hs ≡ []
no_mark [] e = refl
no_mark (x ∷ xs) e = absurd (never (least_mark xs) e)
  where
    never : (o : Option ℤ) → lesser_or x.first o ≡ None → ⊥
    never None e = cc
    never (Some b) e = cc

-- some hit has the least mark, and none a lesser one
pub mark_least : (hs : List Hit) (b : ℤ) → least_mark hs ≡ Some b
    → ((h : Hit) × In h hs × (h.first ≡ b)) × ((h : Hit) → In h hs → b ≤ℤ h.first)
mark_least [] b e = absurd (none e)
  where
    none : None ≡ Some b → ⊥
    none e = cc
mark_least (x ∷ xs) b e = go (least_mark xs) refl e (λ c n. mark_least xs c n)
  where
    alone : xs ≡ [] → x.first ≡ b → (h : Hit) → (h ≡ x) ⊎ In h xs → b ≤ℤ h.first
    alone n q h (inl i) = reflexive b h.first (sym (ap (λ (z : Hit). z.first) i ∙ q))
    alone n q h (inr i) = absurd (subst (λ z. In h z) n i)

    later : (c : ℤ) → lesser x.first c ≡ b → ((h : Hit) → In h xs → c ≤ℤ h.first) → (h : Hit) → (h ≡ x) ⊎ In h xs → b ≤ℤ h.first
    later c q r h (inl i) = onward b x.first h.first (subst (λ z. z ≤ℤ x.first) q (lesser_left x.first c))
        (reflexive x.first h.first (sym (ap (λ (z : Hit). z.first) i)))
    later c q r h (inr i) = onward b c h.first (subst (λ z. z ≤ℤ c) q (lesser_right x.first c)) (r h i)

    there : (c : ℤ) → lesser x.first c ≡ b → (h : Hit) × In h xs × (h.first ≡ c) → (lesser x.first c ≡ x.first) ⊎ (lesser x.first c ≡ c)
        → (h : Hit) × In h (x ∷ xs) × (h.first ≡ b)
    there c q r (inl i) = (x, inl refl, sym i ∙ q)
    there c q r (inr i) = (r.0, inr r.1, r.2 ∙ sym i ∙ q)

    go : (o : Option ℤ) → least_mark xs ≡ o → lesser_or x.first (least_mark xs) ≡ Some b
        → ((c : ℤ) → least_mark xs ≡ Some c → ((h : Hit) × In h xs × (h.first ≡ c)) × ((h : Hit) → In h xs → c ≤ℤ h.first))
        → ((h : Hit) × In h (x ∷ xs) × (h.first ≡ b)) × ((h : Hit) → In h (x ∷ xs) → b ≤ℤ h.first)
    go None n e f =
        let q : x.first ≡ b = some_same (sym (ap (lesser_or x.first) n) ∙ e) in
        ((x, inl refl, q), alone (no_mark xs n) q)
    go (Some c) n e f =
        let q : lesser x.first c ≡ b = some_same (sym (ap (lesser_or x.first) n) ∙ e) in
        let r = f c n in
        (there c q r.0 (lesser_is x.first c), later c q r.1)

-- a mark that a hit has, and below which there is none, is the least
pub mark_is : (hs : List Hit) (b : ℤ) (h : Hit) → In h hs → h.first ≡ b → ((k : Hit) → In k hs → b ≤ℤ k.first) → least_mark hs ≡ Some b
mark_is hs b h i q low = go (least_mark hs) refl
  where
    go : (o : Option ℤ) → least_mark hs ≡ o → least_mark hs ≡ Some b
    go None e = absurd (subst (λ z. In h z) (no_mark hs e) i)
    go (Some c) e =
        let r = mark_least hs c e in
        let up : b ≤ℤ c = onward b r.0.0.first c (low r.0.0 r.0.1) (reflexive r.0.0.first c r.0.2) in
        let down : c ≤ℤ b = onward c h.first b (r.1 h i) (reflexive h.first b q) in
        e ∙ ap Some (antisym c b down up)

-- lists of which each has no hit before all of the other have the same least mark
pub same_mark : (xs ys : List Hit) → ((h : Hit) → In h xs → (k : Hit) × In k ys × (k.first ≤ℤ h.first))
    → ((h : Hit) → In h ys → (k : Hit) × In k xs × (k.first ≤ℤ h.first)) → least_mark xs ≡ least_mark ys
same_mark xs ys to back = go (least_mark ys) refl
  where
    empty : (zs : List Hit) → ((h : Hit) → In h zs → ⊥) → least_mark zs ≡ None
    empty [] f = refl
    empty (z ∷ zs) f = absurd (f z (inl refl))

    go : (o : Option ℤ) → least_mark ys ≡ o → least_mark xs ≡ least_mark ys
    go None e = empty xs (λ h i. let k = to h i in subst (λ z. In k.0 z) (no_mark ys e) k.1) ∙ sym e
    go (Some b) e =
        let r = mark_least ys b e in
        let k = back r.0.0 r.0.1 in
        let low : (h : Hit) → In h xs → b ≤ℤ h.first = λ h i. let j = to h i in onward b j.0.first h.first (r.1 j.0 j.1) j.2 in
        let q : k.0.first ≡ b = antisym k.0.first b (onward k.0.first r.0.0.first b k.2 (reflexive r.0.0.first b r.0.2)) (low k.0 k.1) in
        mark_is xs b k.0 k.1 q low ∙ sym e

-- what is found has the least mark of the meaning
pub least_meant : (seen : Doc → Bool) (X : List Probe) (T : Tables) (w : Window) (hits : List Hit) → AreFound seen X T w hits
    → least_mark hits ≡ least_mark (meaning_without seen X T w)
least_meant seen X T w hits all = same_mark hits (meaning_without seen X T w) to back
  where
    to : (h : Hit) → In h hits → (k : Hit) × In k (meaning_without seen X T w) × (k.first ≤ℤ h.first)
    to h i =
        let f = all.sound h i in
        let m = least_is seen X T w f.doc h.first f.at f.low f.high in
        let k : Hit = record { doc = f.doc.num; first = m.0 } in
        (k, in_meaning seen X T w k f.doc f.is_row f.unseen refl m.1, m.2)

    back : (h : Hit) → In h (meaning_without seen X T w) → (k : Hit) × In k hits × (k.first ≤ℤ h.first)
    back h i =
        let m = meaning_in seen X T w h i in
        (h, all.complete h (found_least seen X T w h m.0 m.1 m.2 m.3 m.4), reflexive h.first h.first refl)
