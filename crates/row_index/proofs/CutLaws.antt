-- Places that are cut off from under all keys.
use Rattle.std.proofs.Common.{◌≡◌, ℕ, zero, suc, ◌+◌, ◌-◌, ◌<◌, ◌≤◌, Bool, true, false, List, [], ◌∷◌, ◌++◌, Some, length, map, take}
use Rattle.std.proofs.Common.{drop, get_or, filter, refl, sym, ap, ◌∙◌, subst, inl, inr, arith, length-append, if◌then◌else◌}
use Rattle.std.specs.Prelude.{nat_le, slice_get, Vec}
use Rattle.std.specs.List.{suffix_len}
use Rattle.std.proofs.Math.Seq.{take-append_seam}
use Rattle.std.proofs.lemmas.Bool.{cases_Bool}
use Rattle.std.proofs.lemmas.List.{append-nil, take-append-drop}
use Rattle.std.proofs.lemmas.List.Elements.{filter-append}
use Rattle.std.proofs.lemmas.List.Sums.{suffix_len_is}
use Rattle.indexmap.specs.IndexMap.{set_value_at}
use Rattle.tap_rows.specs.Kept.{Each}
use Rattle.tap_rows.proofs.LaterLaws.{each-map}
use Rattle.row_index.specs.Orders.{Numbered}
use Rattle.row_index.specs.Places.{with_place, under, cut_places, cut_all, cut_at}
use Rattle.row_index.specs.Posts.{posted_all, is_one_of, places_of, Posts}
use Rattle.row_index.proofs.Entries.{plain}
use Rattle.row_index.proofs.PostLaws.{put_new, under_posted_all, below_each, fresh_place, places_onto}

-- one list

is_late : (len k : ℕ) → len ≤ k → nat_le len k ≡ true
is_late len k h = grind (arith, h)

is_early : (len k : ℕ) → k < len → nat_le len k ≡ false
is_early len k h = grind (arith, h)

late_at : (len : ℕ) (ys : List ℕ) (k : ℕ) → Each (λ y. len ≤ y) ys → k < length ys → nat_le len (get_or ys k 0) ≡ true
late_at len [] k e lt = absurd (omega (arith, lt))
late_at len (y ∷ ys) zero e lt = is_late len y e.0
late_at len (y ∷ ys) (suc k) e lt = late_at len ys k e.1 (omega (arith, lt))

behind_at : (len : ℕ) (xs ys : List ℕ) (k : ℕ) → Each (λ y. len ≤ y) ys → length xs ≤ k → k < length (xs ++ ys)
    → nat_le len (get_or (xs ++ ys) k 0) ≡ true
behind_at len [] ys k e le lt = late_at len ys k e lt
behind_at len (x ∷ xs) ys zero e le lt = absurd (omega (arith, le))
behind_at len (x ∷ xs) ys (suc k) e le lt = behind_at len xs ys k e (omega (arith, le)) (omega (arith, lt))

before_at : (len : ℕ) (xs ys : List ℕ) → Each (λ x. x < len) xs → 0 < length xs → nat_le len (get_or (xs ++ ys) (length xs - 1) 0) ≡ false
before_at len [] ys e lt = absurd (omega (arith, lt))
before_at len (x ∷ []) ys e lt = is_early len x e.0
before_at len (x ∷ z ∷ xs) ys e lt =
    let outer : suc (suc (length xs)) - 1 ≡ suc (length xs) = omega arith in
    let inner : suc (length xs) - 1 ≡ length xs = omega arith in
    ap (λ k. nat_le len (get_or (x ∷ z ∷ xs ++ ys) k 0)) outer ∙ ap (λ k. nat_le len (get_or (z ∷ xs ++ ys) k 0)) (sym inner)
    ∙ before_at len (z ∷ xs) ys e.1 (omega arith)

pub cut_behind : (len : ℕ) (xs ys : List ℕ) → Each (λ x. x < len) xs → Each (λ y. len ≤ y) ys → cut_places len (xs ++ ys) ≡ xs
cut_behind len xs ys e f =
    let all = length-append xs ys in
    let within : length xs ≤ length (xs ++ ys) = omega (arith, all) in
    let is : suffix_len (λ k. nat_le len k) (xs ++ ys) ≡ length (xs ++ ys) - length xs = suffix_len_is (λ k. nat_le len k) (xs ++ ys)
    (length xs) 0 within (λ k le lt. behind_at len xs ys k f le lt) (λ lt. before_at len xs ys e lt) in
    let left : length (xs ++ ys) - suffix_len (λ k. nat_le len k) (xs ++ ys) ≡ length xs = omega (arith, is, within) in
    ap (λ k. take k (xs ++ ys)) left ∙ take-append_seam xs ys

pub cut_nothing : (len : ℕ) (xs : List ℕ) → Each (λ x. x < len) xs → cut_places len xs ≡ xs
cut_nothing len xs e = ap (cut_places len) (sym (append-nil xs)) ∙ cut_behind len xs [] e tt

-- under a key

module _ {K : Type 0} (eq : K → K → Bool) where
  pub under_cut : (key : K) (len : ℕ) (es : List (K × List ℕ)) → under eq key (cut_all len es) ≡ cut_places len (under eq key es)
  under_cut key len [] = refl
  under_cut key len (e ∷ es) =
      elim (cases_Bool (eq key e.0)) [
        | inl b ↦ rw b refl
        | inr b ↦ rw b (under_cut key len es)
      ]

-- the places of rows

module _ {K A : Type 0} (eq : K → K → Bool) (sound : (x y : K) → eq x y ≡ true → x ≡ y) (keys : A → List K) (number : A → ℕ) where
  front_places : (t : A → Bool) (m n : ℕ) (rows : List A) → Numbered number n rows → 0 < n
      → Each (λ k. k + 1 < n + m) (places_of number (filter t (take m rows)))
  front_places t zero n rows h z = tt
  front_places t (suc m) n [] h z = tt
  front_places t (suc m) n (row ∷ rows) h z =
      let same : n + 1 + m ≡ n + suc m = omega arith in
      let r = subst (λ k. Each (λ j. j + 1 < k) (places_of number (filter t (take m rows)))) same
      (front_places t m (n + 1) rows h.1 (omega arith)) in
      let e = h.0 in
      let s : (number row - 1) + 1 < n + suc m = omega (arith, e, z) in
      elim (cases_Bool (t row)) [
        | inl b ↦ rw b (s, r)
        | inr b ↦ rw b r
      ]

  back_places : (t : A → Bool) (m n : ℕ) (rows : List A) → Numbered number n rows → 0 < n
      → Each (λ k. n + m ≤ k + 1) (places_of number (filter t (drop m rows)))
  back_places t m n [] h z = nothing m where
    nothing : (m : ℕ) → Each (λ k. n + m ≤ k + 1) (places_of number (filter t (drop m [])))
    nothing zero = tt
    nothing (suc m) = tt
  back_places t zero n (row ∷ rows) h z =
      let r = all_after t n (n + 1) rows h.1 (omega arith) in
      let e = h.0 in
      let s : n + 0 ≤ (number row - 1) + 1 = omega (arith, e, z) in
      elim (cases_Bool (t row)) [
        | inl b ↦ rw b (s, r)
        | inr b ↦ rw b r
      ]
    where
      all_after : (t : A → Bool) (n m : ℕ) (rows : List A) → Numbered number m rows → n ≤ m
          → Each (λ k. n + 0 ≤ k + 1) (places_of number (filter t rows))
      all_after t n m [] h le = tt
      all_after t n m (row ∷ rows) h le =
          let r = all_after t n (m + 1) rows h.1 (omega (arith, le)) in
          let e = h.0 in
          let s : n + 0 ≤ (number row - 1) + 1 = omega (arith, e, le) in
          elim (cases_Bool (t row)) [
            | inl b ↦ rw b (s, r)
            | inr b ↦ rw b r
          ]
  back_places t (suc m) n (row ∷ rows) h z =
      let same : n + 1 + m ≡ n + suc m = omega arith in
      subst (λ k. Each (λ j. k ≤ j + 1) (places_of number (filter t (drop m rows)))) same (back_places t m (n + 1) rows h.1 (omega arith))

  -- cut off, the places of rows are those of the first ones
  cut_rows : (t : A → Bool) (len : ℕ) (rows : List A) → Numbered number 1 rows
      → cut_places len (places_of number (filter t rows)) ≡ places_of number (filter t (take len rows))
  cut_rows t len rows h =
      let parts : places_of number (filter t rows)
      ≡ places_of number (filter t (take len rows)) ++ places_of number (filter t (drop len rows)) =
      ap (λ xs. places_of number (filter t xs)) (sym (take-append-drop len rows))
      ∙ ap (places_of number) (filter-append t (take len rows) (drop len rows))
      ∙ places_onto eq sound keys number (filter t (take len rows)) (filter t (drop len rows)) in
      let front : Each (λ k. k < len) (places_of number (filter t (take len rows))) = each-map (λ k. k + 1 < 1 + len) (λ k. k < len)
      (places_of number (filter t (take len rows))) (λ k lt. omega (arith, lt)) (front_places t len 1 rows h (omega arith)) in
      let back : Each (λ k. len ≤ k) (places_of number (filter t (drop len rows))) = each-map (λ k. 1 + len ≤ k + 1) (λ k. len ≤ k)
      (places_of number (filter t (drop len rows))) (λ k le. omega (arith, le)) (back_places t len 1 rows h (omega arith)) in
      ap (cut_places len) parts
      ∙ cut_behind len (places_of number (filter t (take len rows))) (places_of number (filter t (drop len rows))) front back

  pub posts_cut : (rows : List A) (len : ℕ) (es fs : List (K × List ℕ)) → Numbered number 1 rows → fs ≡ cut_all len es
      → Posts eq keys number rows es → Posts eq keys number (take len rows) fs
  posts_cut rows len es fs h f posts = λ key.
      ap (λ z. under eq key z) f ∙ under_cut eq key len es ∙ ap (cut_places len) (posts key)
      ∙ cut_rows (λ row. is_one_of eq key (keys row)) len rows h

  -- a row that was put under some of its keys only is under none
  pub posts_undone : (rows : List A) (row : A) (n : ℕ) (es part fs : List (K × List ℕ)) → Numbered number 1 rows
      → part ≡ posted_all eq (take n (keys row)) (length rows) es → fs ≡ cut_all (length rows) part → Posts eq keys number rows es
      → Posts eq keys number rows fs
  posts_undone rows row n es part fs h e f posts = λ key.
      let below : Each (λ k. k < length rows) (under eq key es) = subst (Each (λ k. k < length rows)) (sym (posts key))
      (below_each eq sound keys number (λ row. is_one_of eq key (keys row)) (length rows) 1 rows h (omega arith) (omega arith)) in
      let whole = cut_nothing (length rows) (under eq key es) below in
      let last : cut_places (length rows) (with_place (length rows) (under eq key es)) ≡ under eq key es =
      ap (cut_places (length rows)) (put_new (length rows) (under eq key es) (fresh_place eq sound keys number rows es key h posts))
      ∙ cut_behind (length rows) (under eq key es) (length rows ∷ []) below (omega arith, tt) in
      ap (λ z. under eq key z) f ∙ under_cut eq key (length rows) part
      ∙ ap (cut_places (length rows)) (ap (λ z. under eq key z) e ∙ under_posted_all eq sound key (take n (keys row)) (length rows) es)
      ∙ either key whole last ∙ posts key
    where
      either : (key : K) → cut_places (length rows) (under eq key es) ≡ under eq key es
          → cut_places (length rows) (with_place (length rows) (under eq key es)) ≡ under eq key es
          → cut_places (length rows) (if is_one_of eq key (take n (keys row)) then with_place (length rows) (under eq key es)
          else under eq key es) ≡ under eq key es
      either key whole last =
          elim (cases_Bool (is_one_of eq key (take n (keys row)))) [
            | inl b ↦ rw b last
            | inr b ↦ rw b whole
          ]

-- the entries of a map

module _ {K : Type 0} where
  -- cut under the first n keys
  abbrev pub cut_front : ℕ → ℕ → List (K × List ℕ) → List (K × List ℕ)
  cut_front len n [] = []
  cut_front len zero (e ∷ es) = e ∷ es
  cut_front len (suc n) (e ∷ es) = (e.0, cut_places len e.1) ∷ cut_front len n es

  pub cut_none : (len : ℕ) (es : List (K × List ℕ)) → es ≡ cut_front len 0 es
  cut_none len [] = refl
  cut_none len (e ∷ es) = refl

  next_cut : (len n : ℕ) (es : List (K × List ℕ)) → cut_at len n (cut_front len n es) ≡ cut_front len (suc n) es
  next_cut len n [] = refl
  next_cut len zero (e ∷ []) = refl
  next_cut len zero (e ∷ f ∷ es) = refl
  next_cut len (suc n) (e ∷ es) = ap (λ z. (e.0, cut_places len e.1) ∷ z) (next_cut len n es)

  pub cut_next : (len n : ℕ) (es now next : List (K × List ℕ)) → now ≡ cut_front len n es → next ≡ cut_at len n now
      → next ≡ cut_front len (n + 1) es
  cut_next len n es now next is step =
      let s : suc n ≡ n + 1 = omega arith in
      step ∙ ap (cut_at len n) is ∙ next_cut len n es ∙ ap (λ k. cut_front len k es) s

  pub cut_whole : (len n : ℕ) (es now : List (K × List ℕ)) → now ≡ cut_front len n es → length es ≤ n → now ≡ cut_all len es
  cut_whole len n es now is le = is ∙ all n es le where
    all : (n : ℕ) (es : List (K × List ℕ)) → length es ≤ n → cut_front len n es ≡ cut_all len es
    all n [] le = refl
    all zero (e ∷ es) le = absurd (omega (arith, le))
    all (suc n) (e ∷ es) le = ap (λ z. (e.0, cut_places len e.1) ∷ z) (all n es (omega (arith, le)))

module _ {Z K Q : Type 0} (eq : Q → Q → Bool) (seen : K → Q) where
  lent_cut : (len n : ℕ) (es : List (K × Vec ℕ Z)) (v w : Vec ℕ Z) → slice_get (map (λ e. e.1) es) n ≡ Some v
      → w.items ≡ cut_places len v.items → plain eq seen (set_value_at es n w) ≡ cut_at len n (plain eq seen es)
  lent_cut len n [] v w h e = absurd cc
  lent_cut len zero (x ∷ es) v w h e =
      let q : v ≡ x.1 = cc in
      let r : w.items ≡ cut_places len x.1.items = e ∙ ap (λ z. cut_places len z.items) q in
      ap (λ z. (seen x.0, z) ∷ plain eq seen es) r
  lent_cut len (suc n) (x ∷ es) v w h e = ap (λ z. (seen x.0, x.1.items) ∷ z) (lent_cut len n es v w h e)

  none_cut : (len n : ℕ) (es : List (K × Vec ℕ Z)) → length es ≤ n → plain eq seen es ≡ cut_at len n (plain eq seen es)
  none_cut len n [] h = refl
  none_cut len zero (x ∷ es) h = absurd (omega (arith, h))
  none_cut len (suc n) (x ∷ es) h = ap (λ z. (seen x.0, x.1.items) ∷ z) (none_cut len n es (omega (arith, h)))

  -- the same of a map that get_index_mut lent, if ps are the entries as the map is seen
  pub put_cut : (len n : ℕ) (es fs : List (K × Vec ℕ Z)) (ps : List (Q × List ℕ)) (v w : Vec ℕ Z) → plain eq seen es ≡ ps
      → slice_get (map (λ e. e.1) es) n ≡ Some v → fs ≡ set_value_at es n w → w.items ≡ cut_places len v.items
      → plain eq seen fs ≡ cut_at len n ps
  put_cut len n es fs ps v w p h f e = ap (plain eq seen) f ∙ lent_cut len n es v w h e ∙ ap (λ z. cut_at len n z) p

  pub put_none : (len n : ℕ) (es fs : List (K × Vec ℕ Z)) (ps : List (Q × List ℕ)) → plain eq seen es ≡ ps → length es ≤ n → fs ≡ es
      → plain eq seen fs ≡ cut_at len n ps
  put_none len n es fs ps p h f = ap (plain eq seen) f ∙ none_cut len n es h ∙ ap (λ z. cut_at len n z) p
