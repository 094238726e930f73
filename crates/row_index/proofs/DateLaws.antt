-- Documents that are put in order of date, and taken away again.
use Rattle.std.proofs.Common.{◌≡◌, ℕ, zero, suc, ◌+◌, ◌-◌, ◌<◌, ◌≤◌, ℤ, Bool, true, false, not, List, [], ◌∷◌, ◌++◌, Some, length, map}
use Rattle.std.proofs.Common.{filter, refl, sym, ap, ◌∙◌, inl, inr, arith, if◌then◌else◌}
use Rattle.std.specs.Prelude.{slice_get, pos, int_le, int_lt, nat_lt, fold, ◌&&◌, ◌||◌, ◌==◌}
use Rattle.std.specs.Option.{is_some, unwrap_or}
use Rattle.std.specs.declared.cmp.Ordering.{Ordering}
use Rattle.std.specs.declared.cmp.Ordering.TheVariants.{Less, Equal, Greater}
use Rattle.std.specs.Ordering.{int_cmp, nat_cmp, ordering_then, is_eq, is_le}
use Rattle.std.specs.BTreeSet.{insert_key}
use Rattle.std.specs.Set.{remove_key}
use Rattle.std.specs.BTreeMap.Range.{range_contains}
use Rattle.std.specs.declared.ops.Bound.TheVariants.{Included, Excluded}
use Rattle.std.proofs.lemmas.Int.{ints}
use Rattle.std.proofs.lemmas.Bool.{cases_Bool}
use Rattle.tap_rows.specs.declared.rows.Doc.{Doc}
use Rattle.tap_rows.specs.Kept.{Each}
use Rattle.row_index.specs.declared.dates.Dated.{Dated}
use Rattle.row_index.specs.Orders.{Numbered, doc_number, in_window}
use Rattle.row_index.specs.Walks.{at_places}
use Rattle.row_index.specs.Posts.{places_of}
use Rattle.row_index.proofs.PlaceLists.{own_picked, all_own}
use Rattle.row_index.specs.Dates.{has_date, stored_date, is_earlier, put_dated, in_date_order, dated_in, dated}
use Rattle.tap_rows.specs.Fields.{fields}

-- how dates with their places are compared
abbrev pub dated_cmp : Dated → Dated → Ordering
dated_cmp a b = ordering_then (int_cmp a.date b.date) (nat_cmp a.place b.place)

less_not : (m n : ℕ) → m < n → nat_lt n m ≡ false
less_not m n h = grind (arith, h)

less_other : (m n : ℕ) → m < n → (n == m) ≡ false
less_other m n h = grind (arith, h)

nat_greater : (m n : ℕ) → m < n → nat_cmp n m ≡ Greater
nat_greater m n h = rw (less_not m n h, less_other m n h) refl

nat_same : (m : ℕ) → nat_cmp m m ≡ Equal
nat_same m = let a : nat_lt m m ≡ false = grind arith in let b : (m == m) ≡ true = grind arith in rw (a, b) refl

num_below : (m n : ℕ) → m - 1 < n - 1 → nat_lt n m ≡ false
num_below m n h = less_not m n (omega (arith, h))

int_not_less : (x : ℤ) → int_lt x x ≡ false
int_not_less x = grind (arith, ints)

-- a document of a later place comes before another if and only if its date is less
cmp_later : (d o : Doc) → o.num.0 - 1 < d.num.0 - 1 → dated_cmp (dated d) (dated o) ≡ (if is_earlier d o then Less else Greater)
cmp_later d o h = plain (stored_date d) (stored_date o) (num_below o.num.0 d.num.0 h) (nat_greater (o.num.0 - 1) (d.num.0 - 1) h)
  where
    plain : (x y : ℤ) → nat_lt d.num.0 o.num.0 ≡ false → nat_cmp (d.num.0 - 1) (o.num.0 - 1) ≡ Greater → ordering_then (int_cmp x y)
        (nat_cmp (d.num.0 - 1) (o.num.0 - 1)) ≡ (if int_lt x y || (not (int_lt y x) && nat_lt d.num.0 o.num.0) then Less else Greater)
    plain x y a b =
        elim (cases_Bool (int_lt x y)) [
          | inl l ↦ rw l refl
          | inr l ↦
              elim (cases_Bool (int_lt y x)) [
                | inl g ↦ rw (l, g) refl
                | inr g ↦ rw (l, g, a, b) refl
              ]
        ]

cmp_self : (k : Dated) → dated_cmp k k ≡ Equal
cmp_self k = rw (int_not_less k.date, nat_same k.place) refl

abbrev Below : ℕ → List Doc → Type 0
Below place docs = Each (λ doc. doc.num.0 - 1 < place) docs

put_in_keys : (d : Doc) (docs : List Doc) → Below (d.num.0 - 1) docs
    → map dated (put_dated d docs) ≡ insert_key dated_cmp (map dated docs) (dated d)
put_in_keys d [] b = refl
put_in_keys d (o ∷ docs) b =
    let c = cmp_later d o b.0 in
    elim (cases_Bool (is_earlier d o)) [
      | inl e ↦ rw (c, e) refl
      | inr e ↦ rw (c, e) (ap (λ z. dated o ∷ z) (put_in_keys d docs b.1))
    ]

taken_from_keys : (d : Doc) (docs : List Doc) → Below (d.num.0 - 1) docs
    → remove_key (λ k. is_eq (dated_cmp (dated d) k)) (map dated (put_dated d docs)) ≡ map dated docs
taken_from_keys d [] b = rw (cmp_self (dated d)) refl
taken_from_keys d (o ∷ docs) b =
    let c = cmp_later d o b.0 in
    elim (cases_Bool (is_earlier d o)) [
      | inl e ↦ rw (e, cmp_self (dated d)) refl
      | inr e ↦ rw e (later (c ∙ rw e refl) (taken_from_keys d docs b.1))
    ]
  where
    later : dated_cmp (dated d) (dated o) ≡ Greater
        → remove_key (λ k. is_eq (dated_cmp (dated d) k)) (map dated (put_dated d docs)) ≡ map dated docs
        → remove_key (λ k. is_eq (dated_cmp (dated d) k)) (dated o ∷ map dated (put_dated d docs)) ≡ dated o ∷ map dated docs
    later g i = rw g (ap (λ z. dated o ∷ z) i)

-- the order of documents with one more

fold_onto : (docs sorted : List Doc) (d : Doc) → fold (λ sorted doc. put_dated doc sorted) sorted (docs ++ d ∷ [])
    ≡ put_dated d (fold (λ sorted doc. put_dated doc sorted) sorted docs)
fold_onto [] sorted d = refl
fold_onto (doc ∷ docs) sorted d = fold_onto docs (put_dated doc sorted) d

filter_with : (t : Doc → Bool) (docs : List Doc) (d : Doc) → t d ≡ true → filter t (docs ++ d ∷ []) ≡ filter t docs ++ d ∷ []
filter_with t [] d e = rw e refl
filter_with t (doc ∷ docs) d e =
    elim (cases_Bool (t doc)) [
      | inl b ↦ rw b (ap (λ z. doc ∷ z) (filter_with t docs d e))
      | inr b ↦ rw b (filter_with t docs d e)
    ]

filter_without : (t : Doc → Bool) (docs : List Doc) (d : Doc) → t d ≡ false → filter t (docs ++ d ∷ []) ≡ filter t docs
filter_without t [] d e = rw e refl
filter_without t (doc ∷ docs) d e =
    elim (cases_Bool (t doc)) [
      | inl b ↦ rw b (ap (λ z. doc ∷ z) (filter_without t docs d e))
      | inr b ↦ rw b (filter_without t docs d e)
    ]

order_with : (docs : List Doc) (d : Doc) → has_date d ≡ true → in_date_order (docs ++ d ∷ []) ≡ put_dated d (in_date_order docs)
order_with docs d e = ap (λ z. fold (λ sorted doc. put_dated doc sorted) [] z) (filter_with has_date docs d e)
    ∙ fold_onto (filter has_date docs) [] d

-- each document in order is one of those

module _ (P : Doc → Type 0) where
  each_put : (d : Doc) (docs : List Doc) → P d → Each P docs → Each P (put_dated d docs)
  each_put d [] p e = (p, tt)
  each_put d (o ∷ docs) p e =
      elim (cases_Bool (is_earlier d o)) [
        | inl b ↦ rw b (p, e)
        | inr b ↦ rw b (e.0, each_put d docs p e.1)
      ]

  each_fold : (docs sorted : List Doc) → Each P docs → Each P sorted → Each P (fold (λ sorted doc. put_dated doc sorted) sorted docs)
  each_fold [] sorted e s = s
  each_fold (doc ∷ docs) sorted e s = each_fold docs (put_dated doc sorted) e.1 (each_put doc sorted e.0 s)

  pub each_kept : (t : Doc → Bool) (docs : List Doc) → Each P docs → Each P (filter t docs)
  each_kept t [] e = tt
  each_kept t (doc ∷ docs) e =
      elim (cases_Bool (t doc)) [
        | inl b ↦ rw b (e.0, each_kept t docs e.1)
        | inr b ↦ rw b (each_kept t docs e.1)
      ]

  pub each_ordered : (docs : List Doc) → Each P docs → Each P (in_date_order docs)
  each_ordered docs e = each_fold (filter has_date docs) [] (each_kept has_date docs e) tt

below_from : (n m : ℕ) (docs : List Doc) → Numbered doc_number n docs → 0 < n → n + length docs ≤ m + 1 → Below m docs
below_from n m [] h z w = tt
below_from n m (doc ∷ docs) h z w =
    let e : doc.num.0 ≡ n = h.0 in
    (omega (arith, e, z, w), below_from (n + 1) m docs h.1 (omega arith) (omega (arith, w)))

below_all : (docs : List Doc) (d : Doc) → Numbered doc_number 1 docs → d.num.0 ≡ length docs + 1 → Below (d.num.0 - 1) (in_date_order docs)
below_all docs d h e =
    each_ordered (λ doc. doc.num.0 - 1 < d.num.0 - 1) docs (below_from 1 (d.num.0 - 1) docs h (omega arith) (omega (arith, e)))

pub dates_more : (docs : List Doc) (d : Doc) (keys more : List Dated) (k : Dated) → Numbered doc_number 1 docs → d.num.0 ≡ length docs + 1
    → has_date d ≡ true → k ≡ dated d → more ≡ insert_key dated_cmp keys k → keys ≡ map dated (in_date_order docs)
    → more ≡ map dated (in_date_order (docs ++ d ∷ []))
dates_more docs d keys more k h e s q m i =
    m ∙ ap (λ z. insert_key dated_cmp z k) i ∙ ap (λ z. insert_key dated_cmp (map dated (in_date_order docs)) z) q
    ∙ sym (put_in_keys d (in_date_order docs) (below_all docs d h e)) ∙ ap (λ z. map dated z) (sym (order_with docs d s))

pub dates_less : (docs : List Doc) (d : Doc) (keys fewer : List Dated) (k : Dated) → Numbered doc_number 1 docs → d.num.0 ≡ length docs + 1
    → has_date d ≡ true → k ≡ dated d → fewer ≡ remove_key (λ x. is_eq (dated_cmp k x)) keys
    → keys ≡ map dated (in_date_order (docs ++ d ∷ [])) → fewer ≡ map dated (in_date_order docs)
dates_less docs d keys fewer k h e s q m i =
    m ∙ ap (λ z. remove_key (λ x. is_eq (dated_cmp k x)) z) (i ∙ ap (λ z. map dated z) (order_with docs d s))
    ∙ ap (λ z. remove_key (λ x. is_eq (dated_cmp z x)) (map dated (put_dated d (in_date_order docs)))) q
    ∙ taken_from_keys d (in_date_order docs) (below_all docs d h e)

-- a part of the dates

zero_first : (n : ℕ) → is_le (nat_cmp 0 n) ≡ true
zero_first zero = refl
zero_first (suc n) = let a : nat_lt 0 (suc n) ≡ true = grind arith in rw a refl

from_low : (low : ℤ) (k : Dated) → is_le (dated_cmp (record { date = low; place = 0 }) k) ≡ int_le low k.date
from_low low k = plain k.date (zero_first k.place)
  where
    le_of : (x y : ℤ) → int_lt x y ≡ true → int_le x y ≡ true
    le_of x y h = grind (arith, ints)

    gt_of : (x y : ℤ) → int_lt x y ≡ true → int_le y x ≡ false
    gt_of x y h = grind (arith, ints)

    eq_of : (x y : ℤ) → int_lt x y ≡ false → int_lt y x ≡ false → int_le x y ≡ true
    eq_of x y h g = grind (arith, ints)

    plain : (x : ℤ) → is_le (nat_cmp 0 k.place) ≡ true → is_le (ordering_then (int_cmp low x) (nat_cmp 0 k.place)) ≡ int_le low x
    plain x z =
        elim (cases_Bool (int_lt low x)) [
          | inl l ↦ rw (l, le_of low x l) refl
          | inr l ↦
              elim (cases_Bool (int_lt x low)) [
                | inl g ↦ rw (l, g, gt_of x low g) refl
                | inr g ↦ rw (l, g, eq_of low x l g) z
              ]
        ]

flipped : (x y : ℤ) → not (int_le x y) ≡ int_lt y x
flipped x y = grind (arith, ints)

between : (low end : ℤ) (k : Dated) → range_contains dated_cmp (Included (record { date = low; place = 0 }))
    (Excluded (record { date = end; place = 0 })) k ≡ (int_le low k.date && int_lt k.date end)
between low end k = rw (from_low low k, from_low end k, flipped end k.date) refl

keys_in : (low high end : ℤ) (docs : List Doc) → ((x : ℤ) → (int_le low x && int_lt x end) ≡ (int_le low x && int_lt x high))
    → filter (range_contains dated_cmp (Included (record { date = low; place = 0 })) (Excluded (record { date = end; place = 0 })))
    (map dated docs) ≡ map dated (in_window stored_date low high docs)
keys_in low high end [] w = refl
keys_in low high end (doc ∷ docs) w =
    let i = keys_in low high end docs w in
    let e = between low end (dated doc) ∙ w (stored_date doc) in
    step e i
  where
    step : range_contains dated_cmp (Included (record { date = low; place = 0 })) (Excluded (record { date = end; place = 0 })) (dated doc)
        ≡ (int_le low (stored_date doc) && int_lt (stored_date doc) high)
        → filter (range_contains dated_cmp (Included (record { date = low; place = 0 })) (Excluded (record { date = end; place = 0 })))
        (map dated docs) ≡ map dated (in_window stored_date low high docs)
        → filter (range_contains dated_cmp (Included (record { date = low; place = 0 })) (Excluded (record { date = end; place = 0 })))
        (dated doc ∷ map dated docs) ≡ map dated (in_window stored_date low high (doc ∷ docs))
    step e i =
        elim (cases_Bool (int_le low (stored_date doc) && int_lt (stored_date doc) high)) [
          | inl b ↦ rw (e, b) (ap (λ z. dated doc ∷ z) i)
          | inr b ↦ rw (e, b) i
        ]

dates_in : (low high end : ℤ) (docs : List Doc) (keys part : List Dated)
    → ((x : ℤ) → (int_le low x && int_lt x end) ≡ (int_le low x && int_lt x high)) → part
    ≡ filter (range_contains dated_cmp (Included (record { date = low; place = 0 })) (Excluded (record { date = end; place = 0 }))) keys
    → keys ≡ map dated (in_date_order docs) → part ≡ map dated (dated_in low high docs)
dates_in low high end docs keys part w p k = p ∙ ap
    (λ z. filter (range_contains dated_cmp (Included (record { date = low; place = 0 })) (Excluded (record { date = end; place = 0 }))) z) k
    ∙ keys_in low high end (in_date_order docs) w

pub date_there : (d : Doc) (t : ℤ) → Some t ≡ (fields d).date → has_date d ≡ true
date_there d t e = sym (ap (λ o. is_some o) e)

pub key_is : (d : Doc) (t u : ℤ) (p : ℕ) (docs : List Doc) → Some t ≡ (fields d).date → u ≡ t → d.num.0 ≡ length docs + 1 → p ≡ length docs
    → record { date = u; place = p } ≡ dated d
key_is d t u p docs e q n b =
    let x : u ≡ stored_date d = q ∙ ap (λ o. unwrap_or o (pos 0)) e in
    let y : p ≡ d.num.0 - 1 = omega (arith, n, b) in
    ap (λ z. record { date = z; place = p }) x ∙ ap (λ z. record { date = stored_date d; place = z }) y

pub range_is : (low high end l e : ℤ) (docs : List Doc) (keys part : List Dated)
    → ((x : ℤ) → (int_le low x && int_lt x end) ≡ (int_le low x && int_lt x high)) → l ≡ low → e ≡ end
    → part ≡ filter (range_contains dated_cmp (Included (record { date = l; place = 0 })) (Excluded (record { date = e; place = 0 }))) keys
    → keys ≡ map dated (in_date_order docs) → part ≡ map dated (dated_in low high docs)
range_is low high end l e docs keys part w p q r k =
    dates_in low high end docs keys part w (r ∙ ap (λ z. filter (range_contains dated_cmp (Included (record { date = z; place = 0 }))
    (Excluded (record { date = e; place = 0 }))) keys) p ∙ ap (λ z. filter
    (range_contains dated_cmp (Included (record { date = low; place = 0 })) (Excluded (record { date = z; place = 0 }))) keys) q) k

-- the documents of some dates

places_dated : (docs : List Doc) → map (λ (k : Dated). k.place) (map dated docs) ≡ places_of doc_number docs
places_dated [] = refl
places_dated (doc ∷ docs) = ap (λ z. (doc.num.0 - 1) ∷ z) (places_dated docs)

pub found_dated : (low high : ℤ) (docs : List Doc) (keys : List Dated) (left : List Doc) → Numbered doc_number 1 docs
    → left ≡ at_places docs (map (λ (k : Dated). k.place) keys) → keys ≡ map dated (dated_in low high docs) → left ≡ dated_in low high docs
found_dated low high docs keys left h l e =
    let own = all_own doc_number docs h in
    l ∙ ap (λ z. at_places docs (map (λ (k : Dated). k.place) z)) e ∙ ap (λ z. at_places docs z) (places_dated (dated_in low high docs))
    ∙ own_picked doc_number docs (dated_in low high docs)
    (each_kept (λ doc. slice_get docs (doc.num.0 - 1) ≡ Some doc) (λ x. int_le low (stored_date x) && int_lt (stored_date x) high)
    (in_date_order docs) (each_ordered (λ doc. slice_get docs (doc.num.0 - 1) ≡ Some doc) docs own))
