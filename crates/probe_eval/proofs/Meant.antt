-- The hits of a window query's meaning.
use Rattle.std.proofs.Common.{◌≡◌, ℤ, Bool, true, false, not, List, [], ◌∷◌, Option, Some, None, refl, sym, ap, ◌∙◌, inl, inr}
use Rattle.std.specs.Prelude.{◌⊎◌, ◌≤ℤ◌, ◌<ℤ◌}
use Rattle.std.specs.List.{filter, filter_map}
use Rattle.std.proofs.lemmas.Bool.{false≢true, both_ways}
use Rattle.tap_rows.specs.declared.rows.Doc.{Doc}
use Rattle.tap_rows.specs.declared.tables.Tables.{Tables}
use Rattle.tap_rows.specs.declared.results.Hit.{Hit}
use Rattle.tap_rows.specs.Kept.{In}
use Rattle.tap_rows.specs.Results.{hit_of}
use Rattle.time_marks.specs.declared.window.Window.{Window}
use Rattle.time_marks.specs.Probes.{Probe, found, least, meaning_without}
use Rattle.tap_rows.proofs.SecondsLaws.{least_second-within}
use Rattle.tap_rows.proofs.Tests.{some_same}
use Rattle.probe_eval.specs.Found.{IsFound}
use Rattle.probe_eval.proofs.Members.{in_filter, to_filter}
use Rattle.probe_eval.proofs.Ordered.{ordered_in, in_ordered}
use Rattle.probe_eval.proofs.LeastSeconds.{least_none, least_passes, least_least}

-- what filter_map keeps
module _ {A B : Type 0} where
  pub kept_from : (f : A → Option B) (xs : List A) (y : B) → In y (filter_map f xs) → (x : A) × In x xs × (f x ≡ Some y)
  kept_from f [] y i = absurd i
  kept_from f (x ∷ xs) y i = go (f x) refl i (λ j. kept_from f xs y j)
    where
      go : (o : Option B) → f x ≡ o → In y (filter_map f (x ∷ xs)) → (In y (filter_map f xs) → (x : A) × In x xs × (f x ≡ Some y))
          → (z : A) × In z (x ∷ xs) × (f z ≡ Some y)
      go None e i r = let k = r (rw e at i) in (k.0, inr k.1, k.2)
      go (Some b) e i r = other e (rw e at i) r
        where
          other : f x ≡ Some b → (y ≡ b) ⊎ In y (filter_map f xs) → (In y (filter_map f xs) → (x : A) × In x xs × (f x ≡ Some y))
              → (z : A) × In z (x ∷ xs) × (f z ≡ Some y)
          other e (inl q) r = (x, inl refl, e ∙ ap Some (sym q))
          other e (inr j) r = let k = r j in (k.0, inr k.1, k.2)

  pub from_kept : (f : A → Option B) (xs : List A) (x : A) (y : B) → In x xs → f x ≡ Some y → In y (filter_map f xs)
  from_kept f [] x y i e = absurd i
  from_kept f (z ∷ zs) x y (inl q) e =
      let e' : f z ≡ Some y = sym (ap f q) ∙ e in
      rw e' (inl refl)
  from_kept f (z ∷ zs) x y (inr j) e = go (f z) refl (from_kept f zs x y j e)
    where
      go : (o : Option B) → f z ≡ o → In y (filter_map f zs) → In y (filter_map f (z ∷ zs))
      go None q k = rw q k
      go (Some b) q k = rw q (inr k)

pub hit_parts : (d : Doc) (o : Option ℤ) (h : Hit) → hit_of d o ≡ Some h → (h.doc ≡ d.num) × (o ≡ Some h.first)
hit_parts d None h e = absurd cc
hit_parts d (Some s) h e =
    let q = some_same e in
    (ap (λ (z : Hit). z.doc) (sym q), ap (λ (z : Hit). Some z.first) q)

pub hit_back : (d : Doc) (o : Option ℤ) (h : Hit) → h.doc ≡ d.num → o ≡ Some h.first → hit_of d o ≡ Some h
hit_back d o h e q = ap (λ k. hit_of d k) q ∙ ap (λ n. Some (record { doc = n; first = h.first })) (sym e)

module _ (seen : Doc → Bool) (X : List Probe) (T : Tables) (w : Window) where
  abbrev unseen_docs : List Doc
  unseen_docs = filter (λ d. not (seen d)) T.docs

  not_false : (b : Bool) → not b ≡ true → b ≡ false
  not_false true h = absurd (false≢true h)
  not_false false h = refl

  -- the least mark, if one is found
  pub least_is : (d : Doc) (b : ℤ) → found X T d b ≡ true → w.low ≤ℤ b → b <ℤ w.high
      → (least_b : ℤ) × (least X T d w ≡ Some least_b) × (least_b ≤ℤ b)
  least_is d b f l h = go (least X T d w) refl
    where
      go : (o : Option ℤ) → least X T d w ≡ o → (least_b : ℤ) × (least X T d w ≡ Some least_b) × (least_b ≤ℤ b)
      go None e = absurd (both_ways (found X T d b) (least_none (found X T d) w.low w.high b e l h) f)
      go (Some s) e = (s, e, least_least (found X T d) w.low w.high s b e l f)

  pub meaning_in : (h : Hit) → In h (meaning_without seen X T w)
      → (d : Doc) × In d T.docs × (seen d ≡ false) × (h.doc ≡ d.num) × (least X T d w ≡ Some h.first)
  meaning_in h i =
      let k = kept_from (λ d. hit_of d (least X T d w)) unseen_docs h (ordered_in h _ i) in
      let a = in_filter (λ d. not (seen d)) T.docs k.0 k.1 in
      let b = hit_parts k.0 (least X T k.0 w) h k.2 in
      (k.0, a.0, not_false (seen k.0) a.1, b.0, b.1)

  pub in_meaning : (h : Hit) (d : Doc) → In d T.docs → seen d ≡ false → h.doc ≡ d.num → least X T d w ≡ Some h.first
      → In h (meaning_without seen X T w)
  in_meaning h d i u n e =
      in_ordered h _ (from_kept (λ d. hit_of d (least X T d w)) unseen_docs d h (to_filter (λ d. not (seen d)) T.docs d i (ap not u))
      (hit_back d (least X T d w) h n e))

  pub found_least : (h : Hit) (d : Doc) → In d T.docs → seen d ≡ false → h.doc ≡ d.num → least X T d w ≡ Some h.first → IsFound seen X T w h
  found_least h d i u n e =
      let r = least_second-within (found X T d) w.low w.high h.first e in
      record { doc = d; is_row = i; unseen = u; num = n; at = least_passes (found X T d) w.low w.high h.first e; low = r.0; high = r.1 }
