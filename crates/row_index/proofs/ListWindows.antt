-- The part of a posting list that is within a window of arrivals or numbers.
use Rattle.std.proofs.Common.{◌≡◌, ℕ, ◌+◌, ◌-◌, ◌<◌, ◌^◌, ℤ, true, List, [], ◌∷◌, Option, Some, None, Bool, false, filter, arith, length}
use Rattle.std.proofs.Common.{map, refl, sym, ap, ◌∙◌, subst, inl, inr, suc, ◌&&◌}
use Rattle.std.specs.Prelude.{int_le, int_lt, slice_get}
use Rattle.std.specs.List.{list_all}
use Rattle.std.specs.Str.{bytes_eq}
use Rattle.std.proofs.lemmas.Bool.{cases_Bool, and_parts}
use Rattle.tap_base.specs.declared.numbers.DocNum.{DocNum}
use Rattle.tap_rows.specs.declared.rows.Doc.{Doc}
use Rattle.tap_rows.specs.Kept.{Each}
use Rattle.row_index.specs.Walks.{ArePlaces, HasRows, at_places, put_before}
use Rattle.row_index.specs.Orders.{IsRisingBy, InPlace, in_window, doc_number, doc_rank, doc_arrival, doc_num, arrival_of, place_arrival}
use Rattle.row_index.specs.Posts.{places_of, is_one_of, with_key}
use Rattle.row_index.specs.Texts.{with_text}
use Rattle.row_index.proofs.Halves.{rising_kept}
use Rattle.row_index.proofs.InPlaces.{numbers_rise}
use Rattle.row_index.proofs.PlaceLists.{own_picked, each_kept, all_own, full_rest, number_at_place, row_at_place}

module _ {A B : Type 0} (f : A → ℤ) (g : B → ℤ) (h : A → B) where
  all_mapped : (low : ℤ) (xs : List A) → Each (λ x. g (h x) ≡ f x) xs → list_all (λ x. int_le low (f x)) xs ≡ true
      → list_all (λ y. int_le low (g y)) (map h xs) ≡ true
  all_mapped low [] e k = refl
  all_mapped low (x ∷ xs) e k =
      let a = and_parts (int_le low (f x)) (list_all (λ y. int_le low (f y)) xs) k in
      rw (e.0, a.0) (all_mapped low xs e.1 a.1)

  -- seconds that never fall, of what represents the rows
  pub rising_mapped : (xs : List A) → Each (λ x. g (h x) ≡ f x) xs → IsRisingBy f xs → IsRisingBy g (map h xs)
  rising_mapped [] e r = tt
  rising_mapped (x ∷ xs) e r = (rw e.0 (all_mapped (f x) xs e.1 r.0), rising_mapped xs e.1 r.1)

  -- and the window of it
  pub window_mapped : (low high : ℤ) (xs : List A) → Each (λ x. g (h x) ≡ f x) xs
      → in_window g low high (map h xs) ≡ map h (in_window f low high xs)
  window_mapped low high [] e = refl
  window_mapped low high (x ∷ xs) e =
      let r = window_mapped low high xs e.1 in
      elim (cases_Bool (int_le low (f x))) [
        | inl l ↦
            elim (cases_Bool (int_lt (f x) high)) [
              | inl b ↦ rw (e.0, l, b) (ap (λ z. h x ∷ z) r)
              | inr b ↦ rw (e.0, l, b) r
            ]
        | inr l ↦ rw (e.0, l) r
      ]

  pub length_mapped : (xs : List A) → length (map h xs) ≡ length xs
  length_mapped [] = refl
  length_mapped (x ∷ xs) = ap (λ n. suc n) (length_mapped xs)

-- as many as there are
pub mapped_length : {A B : Type 0} (h : A → B) (xs : List A) → length (map h xs) ≡ length xs
mapped_length h [] = refl
mapped_length h (x ∷ xs) = ap (λ n. suc n) (mapped_length h xs)

-- a document stands at its own place
abbrev pub IsOwn : List Doc → Doc → Type 0
IsOwn all doc = slice_get all (doc_number doc - 1) ≡ Some doc

own_arrivals : (all docs : List Doc) → Each (IsOwn all) docs → Each (λ doc. place_arrival all (doc_number doc - 1) ≡ doc_arrival doc) docs
own_arrivals all [] e = tt
own_arrivals all (doc ∷ docs) e = (ap arrival_of e.0, own_arrivals all docs e.1)

-- documents that have a key
module _ {K : Type 0} (eq : K → K → Bool) (keys : Doc → List K) (key : K) (docs : List Doc)
    (stand : InPlace doc_number doc_arrival docs) where
  own_found : Each (IsOwn docs) (with_key eq keys key docs)
  own_found = each_kept (IsOwn docs) (λ doc. is_one_of eq key (keys doc)) docs (all_own doc_number docs stand.numbered)

  -- their places pick them
  pub found_picked : (places : List ℕ) → places ≡ places_of doc_number (with_key eq keys key docs)
      → at_places docs places ≡ with_key eq keys key docs
  found_picked places e = ap (λ z. at_places docs z) e ∙ own_picked doc_number docs (with_key eq keys key docs) own_found

  -- and at each of their places there is one
  pub found_has_rows : (places : List ℕ) → places ≡ places_of doc_number (with_key eq keys key docs) → HasRows docs places
  found_has_rows places e = ap length (found_picked places e)
      ∙ sym (ap length e ∙ length_mapped doc_arrival (place_arrival docs) (λ doc. doc_number doc - 1) (with_key eq keys key docs))

module _ (texts : Doc → List (List ℕ)) (text : List ℕ) (docs : List Doc) (stand : InPlace doc_number doc_arrival docs) where
  -- the documents of a posting list arrived one after another
  pub listed_arrive : IsRisingBy doc_arrival (with_text texts text docs)
  listed_arrive = rising_kept doc_arrival (λ doc. is_one_of bytes_eq text (texts doc)) docs stand.rising

  -- and their numbers rise
  pub listed_numbers : IsRisingBy doc_rank (with_text texts text docs)
  listed_numbers = rising_kept doc_rank (λ doc. is_one_of bytes_eq text (texts doc)) docs (numbers_rise doc_number 1 docs stand.numbered)

  pub own_listed : Each (IsOwn docs) (with_text texts text docs)
  own_listed = own_found bytes_eq texts text docs stand

  -- the documents of a posting list never fall in arrival
  pub listed_rise : (places : List ℕ) → places ≡ places_of doc_number (with_text texts text docs) → IsRisingBy (place_arrival docs) places
  listed_rise places e =
      subst (IsRisingBy (place_arrival docs)) (sym e) (rising_mapped doc_arrival (place_arrival docs) (λ doc. doc_number doc - 1)
      (with_text texts text docs) (own_arrivals docs (with_text texts text docs) own_listed) listed_arrive)

  -- the places of a posting list pick its documents
  pub listed_picked : (places : List ℕ) → places ≡ places_of doc_number (with_text texts text docs)
      → at_places docs places ≡ with_text texts text docs
  listed_picked places e = found_picked bytes_eq texts text docs stand places e

  -- and at each of its places there is one
  pub listed_has_rows : (places : List ℕ) → places ≡ places_of doc_number (with_text texts text docs) → HasRows docs places
  listed_has_rows places e = found_has_rows bytes_eq texts text docs stand places e

  module _ (low high : ℤ) (places within : List ℕ) (all : places ≡ places_of doc_number (with_text texts text docs))
      (cut : within ≡ in_window (place_arrival docs) low high places) where
    abbrev rows : List Doc
    rows = in_window doc_arrival low high (with_text texts text docs)

    places_cut : within ≡ places_of doc_number rows
    places_cut = cut ∙ ap (λ z. in_window (place_arrival docs) low high z) all ∙ window_mapped doc_arrival (place_arrival docs)
        (λ doc. doc_number doc - 1) low high (with_text texts text docs) (own_arrivals docs (with_text texts text docs) own_listed)

    -- the part within the window is the documents of the window
    pub window_picked : at_places docs within ≡ rows
    window_picked = ap (λ z. at_places docs z) places_cut ∙ own_picked doc_number docs rows (each_kept (IsOwn docs)
        (λ doc. int_le low (doc_arrival doc) && int_lt (doc_arrival doc) high) (with_text texts text docs) own_listed)

    -- and at each of its places there is one
    pub window_has_rows : HasRows docs within
    window_has_rows = ap length window_picked
        ∙ sym (ap length places_cut ∙ length_mapped doc_arrival (place_arrival docs) (λ doc. doc_number doc - 1) rows)

-- places at each of which there is a document
module _ (docs : List Doc) where
  -- f of a document is g of what stands at its place
  module _ (f : Doc → ℤ) (g : Option Doc → ℤ) (is : (doc : Doc) → g (Some doc) ≡ f doc) where
    all_first : (low : ℤ) (o : Option Doc) (rest : List Doc) (n : ℕ) (b : Bool) → length (put_before o rest) ≡ suc n
        → (list_all (λ doc. int_le low (f doc)) rest ≡ true → b ≡ true)
        → list_all (λ doc. int_le low (f doc)) (put_before o rest) ≡ true → (int_le low (g o) && b) ≡ true
    all_first low None rest n b h more k = absurd (omega (arith, h))
    all_first low (Some doc) rest n b h more k =
        let a = and_parts (int_le low (f doc)) (list_all (λ d. int_le low (f d)) rest) k in
        rw (is doc, a.0, more a.1) refl

    all_placed : (low : ℤ) (places : List ℕ) → HasRows docs places → list_all (λ doc. int_le low (f doc)) (at_places docs places) ≡ true
        → list_all (λ place. int_le low (g (slice_get docs place))) places ≡ true
    all_placed low [] h k = refl
    all_placed low (p ∷ ps) h k =
        let w = full_rest (slice_get docs p) (at_places docs ps) (length ps) h in
        all_first low (slice_get docs p) (at_places docs ps) (length ps) (list_all (λ place. int_le low (g (slice_get docs place))) ps) h
        (all_placed low ps w) k

    rising_first : (o : Option Doc) (ps : List ℕ) → HasRows docs ps → length (put_before o (at_places docs ps)) ≡ suc (length ps)
        → IsRisingBy f (put_before o (at_places docs ps))
        → (list_all (λ place. int_le (g o) (g (slice_get docs place))) ps ≡ true) × IsRisingBy f (at_places docs ps)
    rising_first None ps w h r = absurd (omega (arith, h))
    rising_first (Some doc) ps w h r = (rw (is doc) (all_placed (f doc) ps w r.0), r.1)

    -- they rise as the documents do
    pub rising_placed : (places : List ℕ) → HasRows docs places → IsRisingBy f (at_places docs places)
        → IsRisingBy (λ place. g (slice_get docs place)) places
    rising_placed [] h r = tt
    rising_placed (p ∷ ps) h r =
        let w = full_rest (slice_get docs p) (at_places docs ps) (length ps) h in
        let s = rising_first (slice_get docs p) ps w h r in
        (s.0, rising_placed ps w s.1)

  -- a test of a document is one of what stands at its place
  module _ (t : Doc → Bool) (s : Option Doc → Bool) (is : (doc : Doc) → s (Some doc) ≡ t doc) where
    kept_first : (o : Option Doc) (rest kept : List Doc) (n : ℕ) → length (put_before o rest) ≡ suc n → s o ≡ true → kept ≡ filter t rest
        → put_before o kept ≡ filter t (put_before o rest)
    kept_first None rest kept n h e k = absurd (omega (arith, h))
    kept_first (Some doc) rest kept n h e k = rw (sym (is doc) ∙ e) (ap (λ z. doc ∷ z) k)

    left_first : (o : Option Doc) (rest kept : List Doc) (n : ℕ) → length (put_before o rest) ≡ suc n → s o ≡ false → kept ≡ filter t rest
        → kept ≡ filter t (put_before o rest)
    left_first None rest kept n h e k = absurd (omega (arith, h))
    left_first (Some doc) rest kept n h e k = rw (sym (is doc) ∙ e) k

    -- places that the test keeps pick the documents that it keeps
    pub kept_picked : (places : List ℕ) → HasRows docs places
        → at_places docs (filter (λ place. s (slice_get docs place)) places) ≡ filter t (at_places docs places)
    kept_picked [] h = refl
    kept_picked (p ∷ ps) h =
        let r = kept_picked ps (full_rest (slice_get docs p) (at_places docs ps) (length ps) h) in
        elim (cases_Bool (s (slice_get docs p))) [
          | inl e ↦ rw e (kept_first (slice_get docs p) (at_places docs ps) (at_places docs (filter (λ place. s (slice_get docs place)) ps))
              (length ps) h e r)
          | inr e ↦ rw e (left_first (slice_get docs p) (at_places docs ps) (at_places docs (filter (λ place. s (slice_get docs place)) ps))
              (length ps) h e r)
        ]

abbrev numbered : ℕ → DocNum
numbered n = record { 0 = n }

-- a document's number is the one after its place
pub number_here : (docs : List Doc) (places : List ℕ) (k p : ℕ) → ArePlaces docs places → slice_get places k ≡ Some p
    → (p + 1 < 2 ^ 32) × (Some (numbered (p + 1)) ≡ doc_num (slice_get docs p))
number_here docs places k p h e =
    let row = row_at_place docs places k p h.rows e in
    let at = number_at_place doc_number 1 p docs row.0 h.stand.numbered row.1 in
    let room = h.stand.room in
    let within = at.1 in
    let n : p + 1 ≡ row.0.num.0 = let q = at.0 in omega (arith, q) in
    (omega (arith, room, within), ap (λ m. Some (numbered m)) n ∙ ap doc_num (sym row.1))
