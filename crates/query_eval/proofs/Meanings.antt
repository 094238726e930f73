-- The least hits of a run are the meaning of its query.
use Rattle.std.proofs.Common.{◌≡◌, ℕ, suc, ◌+◌, ◌≤◌, ℤ, pos, Bool, true, not, List, [], ◌∷◌, Option, Some, None, refl, sym, ap, ◌∙◌, subst}
use Rattle.std.proofs.Common.{inl, inr, arith}
use Rattle.std.specs.Prelude.{◌⊎◌, ◌≤ℤ◌}
use Rattle.std.specs.List.{filter, filter_map}
use Rattle.std.proofs.lemmas.Int.{ints}
use Rattle.std.proofs.lemmas.Bool.{cases_Bool}
use Rattle.tap_base.specs.declared.numbers.DocNum.{DocNum}
use Rattle.tap_rows.specs.declared.rows.Doc.{Doc}
use Rattle.tap_rows.specs.declared.tables.Tables.{Tables}
use Rattle.tap_rows.specs.declared.results.Hit.{Hit}
use Rattle.tap_rows.specs.Arrivals.{Arrived}
use Rattle.tap_rows.specs.Kept.{In}
use Rattle.tap_rows.specs.Results.{hit_of}
use Rattle.tap_rows.proofs.Tests.{le_from}
use Rattle.time_marks.specs.declared.window.Window.{Window}
use Rattle.time_marks.specs.Probes.{Probe, found, least, meaning_without}
use Rattle.probe_eval.specs.Found.{AreFound}
use Rattle.query_eval.specs.HitLists.{HitsAreApart, AreLowest, InOrder, HaveSame}
use Rattle.query_eval.specs.Lowest.{lowest}
use Rattle.query_eval.proofs.Lows.{kept_all, kept_same}
use Rattle.query_eval.specs.Laws.{LowestHitsAreTheMeaning}
use Rattle.query_eval.proofs.HitOrder.{same_rising, rising_order}
use Rattle.probe_eval.proofs.LeastSeconds.{least_least}
use Rattle.probe_eval.proofs.Meant.{kept_from, hit_parts, least_is, meaning_in, in_meaning, found_least}
use Rattle.probe_eval.proofs.Members.{in_filter}

num_same : (a b : DocNum) → a.0 ≡ b.0 → a ≡ b
num_same a b e = ap (λ n. record { 0 = n }) e

-- the numbers are the places, from n
abbrev Numbered : ℕ → List Doc → Type 0
Numbered n [] = Unit {0}
Numbered n (doc ∷ docs) = (doc.num.0 ≡ n) × Numbered (n + 1) docs

numbered_of : (n : ℕ) (low : ℤ) (docs : List Doc) → Arrived n low docs → Numbered n docs
numbered_of n low [] h = tt
numbered_of n low (doc ∷ docs) h =
    let e : suc n ≡ n + 1 = omega arith in
    (h.1, subst (λ m. Numbered m docs) e (numbered_of (suc n) doc.arrival docs h.2))

numbered_from : (n : ℕ) (ds : List Doc) (d : Doc) → Numbered n ds → In d ds → n ≤ d.num.0
numbered_from n [] d u i = absurd i
numbered_from n (x ∷ xs) d u (inl q) = subst (λ (z : Doc). n ≤ z.num.0) (sym q) (let e = u.0 in omega (arith, e))
numbered_from n (x ∷ xs) d u (inr j) = let k = numbered_from (n + 1) xs d u.1 j in omega (arith, k)

same_doc : (n : ℕ) (ds : List Doc) (d e : Doc) → Numbered n ds → In d ds → In e ds → d.num.0 ≡ e.num.0 → d ≡ e
same_doc n [] d e u i j h = absurd i
same_doc n (x ∷ xs) d e u (inl p) (inl q) h = p ∙ sym q
same_doc n (x ∷ xs) d e u (inl p) (inr j) h =
    let k = numbered_from (n + 1) xs e u.1 j in
    let a : d.num.0 ≡ x.num.0 = ap (λ (z : Doc). z.num.0) p in
    let b = u.0 in
    absurd (omega (arith, k, a, b, h))
same_doc n (x ∷ xs) d e u (inr i) (inl q) h =
    let k = numbered_from (n + 1) xs d u.1 i in
    let a : e.num.0 ≡ x.num.0 = ap (λ (z : Doc). z.num.0) q in
    let b = u.0 in
    absurd (omega (arith, k, a, b, h))
same_doc n (x ∷ xs) d e u (inr i) (inr j) h = same_doc (n + 1) xs d e u.1 i j h

antisym : (x y : ℤ) → x ≤ℤ y → y ≤ℤ x → x ≡ y
antisym x y h k = omega (arith, ints)

hit_same : (f h : Hit) → f.doc ≡ h.doc → f.first ≡ h.first → f ≡ h
hit_same f h d e = ap (λ n. record { doc = n; first = f.first }) d ∙ ap (λ s. record { doc = h.doc; first = s }) e

module _ (seen : Doc → Bool) (X : List Probe) (T : Tables) (w : Window) (numbered : Numbered 1 T.docs) where
  apart_from : (n : ℕ) (ds : List Doc) → Numbered n ds
      → HitsAreApart (filter_map (λ d. hit_of d (least X T d w)) (filter (λ d. not (seen d)) ds))
  apart_from n [] u = tt
  apart_from n (x ∷ xs) u = elim (cases_Bool (not (seen x))) [
    | inl e ↦ rw e (go (least X T x w) refl (apart_from (n + 1) xs u.1))
    | inr e ↦ rw e (apart_from (n + 1) xs u.1)
  ]
    where
      above : (y : Hit) → In y (filter_map (λ d. hit_of d (least X T d w)) (filter (λ d. not (seen d)) xs)) → y.doc.0 ≡ x.num.0 → ⊥
      above y i q =
          let k = kept_from (λ d. hit_of d (least X T d w)) (filter (λ d. not (seen d)) xs) y i in
          let a = (in_filter (λ d. not (seen d)) xs k.0 k.1).0 in
          let b = numbered_from (n + 1) xs k.0 u.1 a in
          let c : y.doc.0 ≡ k.0.num.0 = ap (λ (z : DocNum). z.0) (hit_parts k.0 (least X T k.0 w) y k.2).0 in
          let v = u.0 in
          omega (arith, b, c, q, v)

      go : (o : Option ℤ) → least X T x w ≡ o → HitsAreApart (filter_map (λ d. hit_of d (least X T d w)) (filter (λ d. not (seen d)) xs))
          → HitsAreApart (filter_map (λ d. hit_of d (least X T d w)) (x ∷ filter (λ d. not (seen d)) xs))
      go None e r = rw e r
      go (Some s) e r = rw e ((λ y i q. above y i q), r)

  -- the same of a list in order with one hit of each document, the least of those that are found
  pub lowest_meaning : (C zs : List Hit) → AreFound seen X T w C → AreLowest (λ y. In y C) zs → InOrder zs → zs ≡ meaning_without seen X T w
  lowest_meaning C zs all kept rising =
      same_rising zs (meaning_without seen X T w) rising (rising_order _ (apart_from 1 T.docs numbered)) to back
    where
      to : (h : Hit) → In h zs → In h (meaning_without seen X T w)
      to h i =
          let g = all.sound h (kept.among h i) in
          let m = least_is seen X T w g.doc h.first g.at g.low g.high in
          let other : Hit = record { doc = g.doc.num; first = m.0 } in
          let o = all.complete other (found_least seen X T w other g.doc g.is_row g.unseen refl m.1) in
          let e : h.first ≡ m.0 =
          antisym h.first m.0 (le_from h.first m.0 (kept.least h other i o (sym (ap (λ (z : DocNum). z.0) g.num)))) m.2 in
          in_meaning seen X T w h g.doc g.is_row g.unseen g.num (m.1 ∙ ap Some (sym e))

      back : (h : Hit) → In h (meaning_without seen X T w) → In h zs
      back h i =
          let m = meaning_in seen X T w h i in
          let here = all.complete h (found_least seen X T w h m.0 m.1 m.2 m.3 m.4) in
          let k = kept.all h here in
          let g = all.sound k.0 (kept.among k.0 k.1) in
          let d : g.doc ≡ m.0 = same_doc 1 T.docs g.doc m.0 numbered
          g.is_row m.1 (sym (ap (λ (z : DocNum). z.0) g.num) ∙ k.2 ∙ ap (λ (z : DocNum). z.0) m.3) in
          let at : found X T m.0 k.0.first ≡ true = subst (λ d. found X T d k.0.first ≡ true) d g.at in
          let up = least_least (found X T m.0) w.low w.high h.first k.0.first m.4 g.low at in
          let down = le_from k.0.first h.first (kept.least k.0 h k.1 here (sym k.2)) in
          subst (λ z. In z zs) (hit_same k.0 h (num_same k.0.doc h.doc k.2) (antisym k.0.first h.first down up)) k.1

pub lowest_law : LowestHitsAreTheMeaning
lowest_law seen X T w hits kept arrived found lowest ordered =
    lowest_meaning seen X T w (numbered_of 1 (pos 0) T.docs arrived) hits kept found lowest ordered

-- stored hits in another order are the least, too
lowest_moved : (Among : Hit → Type 0) (kept sorted : List Hit) → HaveSame kept sorted → AreLowest Among kept → AreLowest Among sorted
lowest_moved Among kept sorted same l = record {
  among = λ k i. l.among k (same.back k i);
  least = λ k y i d e. l.least k y (same.back k i) d e;
  all = λ y d. let k = l.all y d in (k.0, same.to k.0 k.1, k.2);
  apart = same.apart;
}

none_kept : AreLowest (λ y. ⊥) []
none_kept = record { among = λ k i. i; least = λ k y i d e. absurd i; all = λ y d. absurd d; apart = tt }

-- hits that were stored and then put in order
pub finished : (seen : Doc → Bool) (X : List Probe) (T : Tables) (w : Window) (hits kept sorted : List Hit) → HaveSame kept sorted
    → InOrder sorted → kept ≡ lowest [] hits → Arrived 1 (pos 0) T.docs → AreFound seen X T w hits → sorted ≡ meaning_without seen X T w
finished seen X T w hits kept sorted same order k arrived found =
    let all = kept_all (λ y. ⊥) [] hits none_kept in
    let l : AreLowest (λ y. In y hits) (lowest [] hits) =
    kept_same (λ y. ⊥ ⊎ In y hits) (λ y. In y hits) (lowest [] hits) (λ y d. right y d) (λ y i. inr i) all in
    lowest_law seen X T w hits sorted arrived found
    (lowest_moved (λ y. In y hits) kept sorted same (subst (λ z. AreLowest (λ y. In y hits) z) (sym k) l)) order
  where
    right : (y : Hit) → ⊥ ⊎ In y hits → In y hits
    right y (inl d) = absurd d
    right y (inr i) = i
