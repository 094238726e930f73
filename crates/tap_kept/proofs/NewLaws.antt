-- A run delivers documents that weren't delivered before.
use Rattle.std.proofs.Common.{◌≡◌, ◌∙◌, sym, refl, ap, subst, arith, ℕ, zero, suc, ◌+◌, ◌≤◌, ◌<◌, ℤ, pos, Bool, true, false, not, List, []}
use Rattle.std.proofs.Common.{◌∷◌, ◌++◌, map, take, length, Option, Some, None, inl, inr, nat_eq, append_assoc, if◌then◌else◌}
use Rattle.std.specs.Prelude.{drop, ◌⊎◌, ◌==◌, ◌||◌, slice_index_or, filter}
use Rattle.std.specs.List.{list_any, filter_map}
use Rattle.std.proofs.lemmas.Bool.{false≢true, ne_eqb}
use Rattle.std.proofs.lemmas.List.{append-nil, length-append}
use Rattle.tap_rows.specs.declared.rows.Doc.{Doc}
use Rattle.tap_rows.specs.declared.rows.RunRow.{RunRow}
use Rattle.tap_rows.specs.declared.rows.Pick.{Pick}
use Rattle.tap_rows.specs.declared.results.Hit.{Hit}
use Rattle.tap_rows.specs.declared.results.Entry.{Entry}
use Rattle.tap_rows.specs.Arrivals.{Arrived}
use Rattle.tap_rows.specs.Deliveries.{picked, picks_of}
use Rattle.tap_rows.specs.Kept.{In}
use Rattle.tap_rows.specs.Results.{entry_at, hit_of, put_in, hits_in_order, is_before, hits_by}
use Rattle.little_box.specs.Boxes.{is_in}
use Rattle.tap_kept.specs.Keeping.{AreNew}
use Rattle.tap_kept.specs.Starting.{PicksAreDistinct}
use Rattle.probe_eval.specs.Nested.{was_seen}
use Rattle.probe_eval.proofs.Ordered.{ordered_in, out_put}
use Rattle.tap_rows.specs.WellFormed.{picks_same}

-- one entry more, of another document
in-more : (doc : ℕ) (entries : List Entry) (entry : Entry) → is_in doc entries ≡ false → (doc ≡ entry.doc.0 → ⊥)
    → is_in doc (entries ++ entry ∷ []) ≡ false
in-more doc [] entry none other = rw (ne_eqb doc entry.doc.0 other) refl
in-more doc (e ∷ entries) entry none other = go (nat_eq doc e.doc.0) refl (λ rest. in-more doc entries entry rest other) where
  go : (b : Bool) → nat_eq doc e.doc.0 ≡ b → (is_in doc entries ≡ false → is_in doc (entries ++ entry ∷ []) ≡ false)
      → is_in doc (e ∷ entries ++ entry ∷ []) ≡ false
  go true is rest = absurd (false≢true (sym none ∙ ap (λ b. b || is_in doc entries) is))
  go false is rest = ap (λ b. b || is_in doc (entries ++ entry ∷ [])) is ∙ rest (sym (ap (λ b. b || is_in doc entries) is) ∙ none)

-- the hits that are left are new beside the one that was added
pub new-next : (entries : List Entry) (run : ℕ) (hit : Hit) (hits : List Hit) → AreNew entries (hit ∷ hits)
    → AreNew (entries ++ entry_at run hit ∷ []) hits
new-next entries run hit hits new = go hits new.1 new.2 where
  go : (hits : List Hit) → ((other : Hit) → In other hits → other.doc.0 ≡ hit.doc.0 → ⊥) → AreNew entries hits
      → AreNew (entries ++ entry_at run hit ∷ []) hits
  go [] apart new = tt
  go (other ∷ hits) apart new =
      (in-more other.doc.0 entries (entry_at run hit) new.0 (apart other (inl refl)), new.1, go hits (λ h has. apart h (inr has)) new.2)

put-new : (entries : List Entry) (a : Hit) (hits : List Hit) → is_in a.doc.0 entries ≡ false
    → ((other : Hit) → In other hits → other.doc.0 ≡ a.doc.0 → ⊥) → AreNew entries hits → AreNew entries (put_in a hits)
put-new entries a [] unseen apart new = (unseen, apart, tt)
put-new entries a (b ∷ hits) unseen apart new =
    go (is_before a b) refl (put-new entries a hits unseen (λ h has. apart h (inr has)) new.2) where
      away : (other : Hit) → (other ≡ a) ⊎ In other hits → other.doc.0 ≡ b.doc.0 → ⊥
      away other (inl e) same = apart b (inl refl) (sym same ∙ ap (λ (h : Hit). h.doc.0) e)
      away other (inr i) same = new.1 other i same

      go : (t : Bool) → is_before a b ≡ t → AreNew entries (put_in a hits) → AreNew entries (if t then a ∷ b ∷ hits else b ∷ put_in a hits)
      go true is rest = (unseen, apart, new)
      go false is rest = (new.0, (λ other has. away other (out_put a other hits has)), rest)

order-new : (entries : List Entry) (hits : List Hit) → AreNew entries hits → AreNew entries (hits_in_order hits)
order-new entries [] new = tt
order-new entries (hit ∷ hits) new =
    put-new entries hit (hits_in_order hits) new.0 (λ other has. new.1 other (ordered_in other hits has)) (order-new entries hits new.2)

-- the hits of unseen documents
module _ (entries : List Entry) (seen : Doc → Bool) (unseen : (doc : Doc) → seen doc ≡ false → is_in doc.num.0 entries ≡ false)
    (second : Doc → Option ℤ) where
  abbrev hits-in : List Doc → List Hit
  hits-in docs = filter_map (λ doc. hit_of doc (second doc)) (filter (λ doc. not (seen doc)) docs)

  abbrev AreFrom : ℕ → List Hit → Type 0
  AreFrom n hits = AreNew entries hits × ((hit : Hit) → In hit hits → n ≤ hit.doc.0)

  later : (n : ℕ) (hits : List Hit) → AreFrom (suc n) hits → AreFrom n hits
  later n hits from = (from.0, λ hit has. let le = from.1 hit has in omega (arith, le))

  hits-from : (n : ℕ) (low : ℤ) (docs : List Doc) → Arrived n low docs → AreFrom n (hits-in docs)
  hits-from n low [] arrived = (tt, λ hit has. absurd has)
  hits-from n low (doc ∷ docs) arrived = go (seen doc) refl (second doc) refl (hits-from (suc n) doc.arrival docs arrived.2) where
    first : (m : ℤ) → is_in doc.num.0 entries ≡ false → AreFrom (suc n) (hits-in docs)
        → AreFrom n (record { doc = doc.num; first = m } ∷ hits-in docs)
    first m new from = (
      (new, (λ other has same. let le = from.1 other has in let at = arrived.1 in omega (arith, le, at, same)), from.0),
      λ hit has. number hit has,
    ) where
      number : (hit : Hit) → (hit ≡ record { doc = doc.num; first = m }) ⊎ In hit (hits-in docs) → n ≤ hit.doc.0
      number hit (inl e) = let is : hit.doc.0 ≡ doc.num.0 = ap (λ (h : Hit). h.doc.0) e in let at = arrived.1 in omega (arith, is, at)
      number hit (inr has) = let le = from.1 hit has in omega (arith, le)

    go : (b : Bool) → seen doc ≡ b → (o : Option ℤ) → second doc ≡ o → AreFrom (suc n) (hits-in docs) → AreFrom n (hits-in (doc ∷ docs))
    go true is o at from = rw is (later n (hits-in docs) from)
    go false is None at from = rw (is, at) (later n (hits-in docs) from)
    go false is (Some m) at from = let new = unseen doc is in rw (is, at) (first m new from)

-- what a window query finds without the documents of a box is new beside the box
pub found-new : (entries : List Entry) (second : Doc → Option ℤ) (docs : List Doc) → Arrived 1 (pos 0) docs
    → AreNew entries (hits_by second (filter (λ doc. not (was_seen entries doc)) docs))
found-new entries second docs arrived =
    order-new entries _ (hits-from entries (was_seen entries) (λ doc is. is) second 1 (pos 0) docs arrived).0

-- a query that picks no document twice doesn't pick one again
once-from : (earlier picks : List Pick) (i : ℕ) (d : Pick) → PicksAreDistinct earlier picks → i < length picks
    → list_any (picks_same (slice_index_or picks i d)) (earlier ++ take i picks) ≡ false
once-from earlier [] i d once lt = absurd (omega (arith, lt))
once-from earlier (pick ∷ picks) zero d once lt = subst (λ l. list_any (picks_same pick) l ≡ false) (sym (append-nil earlier)) once.0
once-from earlier (pick ∷ picks) (suc i) d once lt =
    subst (λ l. list_any (picks_same (slice_index_or picks i d)) l ≡ false) (append_assoc earlier (pick ∷ []) (take i picks))
    (once-from (earlier ++ pick ∷ []) picks i d once.1 (omega (arith, lt)))

pub once-at : (picks : List Pick) (i : ℕ) (d : Pick) → PicksAreDistinct [] picks → i < length picks
    → list_any (picks_same (slice_index_or picks i d)) (take i picks) ≡ false
once-at picks i d once lt = once-from [] picks i d once lt

same-numbers : (m n : ℕ) → nat_eq m n ≡ (n == m)
same-numbers m n = grind arith

-- the documents that a query picked
pub picked-in : (runs : List RunRow) (pick : Pick) (picks : List Pick)
    → is_in pick.doc.0 (map (picked runs) (picks_of pick.query.0 picks)) ≡ list_any (picks_same pick) picks
picked-in runs pick [] = refl
picked-in runs pick (other ∷ picks) = go (other.query.0 == pick.query.0) refl (picked-in runs pick picks) where
  go : (b : Bool) → (other.query.0 == pick.query.0) ≡ b
      → is_in pick.doc.0 (map (picked runs) (picks_of pick.query.0 picks)) ≡ list_any (picks_same pick) picks
      → is_in pick.doc.0 (map (picked runs) (picks_of pick.query.0 (other ∷ picks))) ≡ list_any (picks_same pick) (other ∷ picks)
  go true is rest = rw is (ap (λ b. b || is_in pick.doc.0 (map (picked runs) (picks_of pick.query.0 picks)))
      (same-numbers pick.doc.0 other.doc.0) ∙ ap (λ b. (other.doc.0 == pick.doc.0) || b) rest)
  go false is rest = rw is rest

-- the hit at a place, and those that are left
left-at : (i : ℕ) (hits : List Hit) (d : Hit) → i < length hits → drop i hits ≡ slice_index_or hits i d ∷ drop (i + 1) hits
left-at i [] d lt = absurd (omega (arith, lt))
left-at zero (hit ∷ hits) d lt = refl
left-at (suc i) (hit ∷ hits) d lt = let up : suc i + 1 ≡ suc (i + 1) = omega arith in rw up (left-at i hits d (omega (arith, lt)))

-- one of the hits that are left is added
pub record IsAdded (before after : List Entry) (run : ℕ) (hits left : List Hit) : Type 0 where
  pub all : before ++ map (entry_at run) hits ≡ after ++ map (entry_at run) left
  pub back : take (length before) after ≡ before
  pub more : length before ≤ length after
  pub new : AreNew after left

-- the front of a list is that of a longer one
pub back-more : {A : Type 0} (n : ℕ) (xs ys : List A) → n ≤ length xs → take n (xs ++ ys) ≡ take n xs
back-more zero xs ys le = refl
back-more (suc n) [] ys le = absurd (omega (arith, le))
back-more (suc n) (x ∷ xs) ys le = ap (λ l. x ∷ l) (back-more n xs ys (omega (arith, le)))

pub one-added : (old now new : List Entry) (run i : ℕ) (hits : List Hit) (d : Hit) → i < length hits
    → new ≡ now ++ entry_at run (slice_index_or hits i d) ∷ []
    → old ++ map (entry_at run) hits ≡ now ++ map (entry_at run) (drop i hits) → take (length old) now ≡ old → length old ≤ length now
    → AreNew now (drop i hits) → IsAdded old new run hits (drop (i + 1) hits)
one-added old now new run i hits d lt is all back more fresh =
    let hit = slice_index_or hits i d in
    let left = left-at i hits d lt in
    record {
      all = all ∙ ap (λ l. now ++ map (entry_at run) l) left
          ∙ sym (append_assoc now (entry_at run hit ∷ []) (map (entry_at run) (drop (i + 1) hits)))
          ∙ ap (λ l. l ++ map (entry_at run) (drop (i + 1) hits)) (sym is);
      back = ap (λ l. take (length old) l) is ∙ back-more (length old) now (entry_at run hit ∷ []) more ∙ back;
      more = let len : length new ≡ length now + 1 = ap length is ∙ length-append now (entry_at run hit ∷ []) in omega (arith, len, more);
      new = subst (λ l. AreNew l (drop (i + 1) hits)) (sym is) (new-next now run hit (drop (i + 1) hits) (subst (AreNew now) left fresh));
    }
