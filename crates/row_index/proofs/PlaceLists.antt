-- Rows picked by their places.
use Rattle.std.proofs.Common.{◌≡◌, ℕ, zero, suc, ◌+◌, ◌-◌, ◌<◌, ◌≤◌, List, [], ◌∷◌, Option, Some, None, IfSome, filter, Bool, length, drop}
use Rattle.std.proofs.Common.{refl, sym, ap, ◌∙◌, subst, inl, inr, arith}
use Rattle.std.proofs.lemmas.Option.{none-some, same_Some}
use Rattle.std.proofs.lemmas.Bool.{cases_Bool}
use Rattle.std.specs.Prelude.{slice_get, option_copied}
use Rattle.std.specs.Borrow.{Bor}
use Rattle.tap_rows.specs.Kept.{Each}
use Rattle.row_index.specs.Walks.{HasRows, at_places, put_before}
use Rattle.row_index.specs.Orders.{Numbered}
use Rattle.row_index.specs.Places.{under}
use Rattle.row_index.specs.Posts.{places_of, with_key, is_one_of, Posts}

module _ {A : Type 0} where
  pub none_picked : (rows : List A) (places : List ℕ) → places ≡ [] → at_places rows places ≡ []
  none_picked rows places e = ap (λ z. at_places rows z) e

  pub end_picked : (rows : List A) (places rest : List ℕ) (p : ℕ) (o : Option (Bor A)) → places ≡ p ∷ rest
      → option_copied o ≡ slice_get rows p → o ≡ None → at_places rows places ≡ []
  end_picked rows places rest p o e f h = ap (λ z. at_places rows z) e
      ∙ ap (λ z. put_before z (at_places rows rest)) (sym f ∙ ap option_copied h)

  pub row_picked : (left rows : List A) (places rest : List ℕ) (p : ℕ) (o : Option (Bor A)) → left ≡ at_places rows places
      → places ≡ p ∷ rest → option_copied o ≡ slice_get rows p → IfSome o (λ row. left ≡ row.now ∷ at_places rows rest)
  row_picked left rows places rest p None l e f = tt
  row_picked left rows places rest p (Some row) l e f = l ∙ ap (λ z. at_places rows z) e
      ∙ ap (λ z. put_before z (at_places rows rest)) (sym f)

  -- rows that stand at their own places are picked by them
  pub own_picked : (number : A → ℕ) (all rows : List A) → Each (λ row. slice_get all (number row - 1) ≡ Some row) rows
      → at_places all (places_of number rows) ≡ rows
  own_picked number all [] e = refl
  own_picked number all (row ∷ rows) e = ap (λ z. put_before z (at_places all (places_of number rows))) e.0
      ∙ ap (λ z. row ∷ z) (own_picked number all rows e.1)

  own_from : (number : A → ℕ) (n : ℕ) (all rows : List A) → Numbered number (n + 1) rows
      → ((k : ℕ) → slice_get all (n + k) ≡ slice_get rows k) → Each (λ row. slice_get all (number row - 1) ≡ Some row) rows
  own_from number n all [] h s = tt
  own_from number n all (row ∷ rows) h s =
      let e : number row ≡ n + 1 = h.0 in
      let p : n + 0 ≡ number row - 1 = omega (arith, e) in
      let first : slice_get all (number row - 1) ≡ Some row = subst (λ k. slice_get all k ≡ Some row) p (s 0) in (
        first,
        own_from number (n + 1) all rows h.1 (λ k. let q : n + suc k ≡ n + 1 + k = omega arith in
            subst (λ m. slice_get all m ≡ slice_get rows k) q (s (suc k))),
      )

  pub each_kept : (P : A → Type 0) (t : A → Bool) (rows : List A) → Each P rows → Each P (filter t rows)
  each_kept P t [] e = tt
  each_kept P t (row ∷ rows) e =
      elim (cases_Bool (t row)) [
        | inl b ↦ rw b (e.0, each_kept P t rows e.1)
        | inr b ↦ rw b (each_kept P t rows e.1)
      ]

  -- each row in its place stands at its own
  pub all_own : (number : A → ℕ) (rows : List A) → Numbered number 1 rows → Each (λ row. slice_get rows (number row - 1) ≡ Some row) rows
  all_own number rows h = own_from number 0 rows rows (subst (λ n. Numbered number n rows) (omega arith) h) (λ k. let z : k ≡ 0 + k =
      omega arith in
      subst (λ m. slice_get rows m ≡ slice_get rows k) z refl)

  -- the rows that stand at the places of those that have the key
  pub found_listed : {K : Type 0} (eq : K → K → Bool) (keys : A → List K) (number : A → ℕ) (rows : List A) (key : K) (places : List ℕ)
      (left : List A) → Numbered number 1 rows → left ≡ at_places rows places → places ≡ places_of number (with_key eq keys key rows)
      → left ≡ with_key eq keys key rows
  found_listed eq keys number rows key places left h l e =
      l ∙ ap (λ z. at_places rows z) e ∙ own_picked number rows (with_key eq keys key rows)
      (each_kept (λ row. slice_get rows (number row - 1) ≡ Some row) (λ row. is_one_of eq key (keys row)) rows (all_own number rows h))

  -- the rows that are found under a key
  pub found_under : {K : Type 0} (eq : K → K → Bool) (keys : A → List K) (number : A → ℕ) (rows : List A) (es : List (K × List ℕ)) (key : K)
      (places : List ℕ) (left : List A) → Numbered number 1 rows → Posts eq keys number rows es → left ≡ at_places rows places
      → places ≡ under eq key es → left ≡ with_key eq keys key rows
  found_under eq keys number rows es key places left h posts l e =
      found_listed eq keys number rows key places left h l (e ∙ posts key)

-- places at each of which there is a row
module _ {A : Type 0} where
  pub full_rest : (o : Option A) (rest : List A) (n : ℕ) → length (put_before o rest) ≡ suc n → length rest ≡ n
  full_rest None rest n h = absurd (omega (arith, h))
  full_rest (Some x) rest n h = omega (arith, h)

  put_first : (o : Option A) (rest : List A) (n : ℕ) → length (put_before o rest) ≡ suc n → slice_get (put_before o rest) 0 ≡ o
  put_first None rest n h = absurd (omega (arith, h))
  put_first (Some x) rest n h = refl

  put_later : (o : Option A) (rest : List A) (n k : ℕ) → length (put_before o rest) ≡ suc n
      → slice_get (put_before o rest) (suc k) ≡ slice_get rest k
  put_later None rest n k h = absurd (omega (arith, h))
  put_later (Some x) rest n k h = refl

  put_dropped : (o : Option A) (rest : List A) (n k : ℕ) → length (put_before o rest) ≡ suc n
      → drop (suc k) (put_before o rest) ≡ drop k rest
  put_dropped None rest n k h = absurd (omega (arith, h))
  put_dropped (Some x) rest n k h = refl

  full_first : (o : Option A) (rest other : List A) (n m : ℕ) → length (put_before o rest) ≡ suc n → length other ≡ m
      → length (put_before o other) ≡ suc m
  full_first None rest other n m h e = absurd (omega (arith, h))
  full_first (Some x) rest other n m h e = ap (λ k. suc k) e

  -- at each of the places that are left there is a row
  pub kept_have_rows : (xs : List A) (t : ℕ → Bool) (places : List ℕ) → HasRows xs places → HasRows xs (filter t places)
  kept_have_rows xs t [] h = refl
  kept_have_rows xs t (p ∷ ps) h =
      let r = kept_have_rows xs t ps (full_rest (slice_get xs p) (at_places xs ps) (length ps) h) in
      elim (cases_Bool (t p)) [
        | inl e ↦ rw e (full_first (slice_get xs p) (at_places xs ps) (at_places xs (filter t ps)) (length ps) (length (filter t ps)) h r)
        | inr e ↦ rw e r
      ]

  -- the row that is picked by a place
  pub picked_at : (xs : List A) (places : List ℕ) (k place : ℕ) → HasRows xs places → slice_get places k ≡ Some place
      → slice_get (at_places xs places) k ≡ slice_get xs place
  picked_at xs [] k place h e = absurd (none-some place e)
  picked_at xs (p ∷ ps) zero place h e = put_first (slice_get xs p) (at_places xs ps) (length ps) h
      ∙ ap (λ z. slice_get xs z) (same_Some p place e)
  picked_at xs (p ∷ ps) (suc k) place h e =
      put_later (slice_get xs p) (at_places xs ps) (length ps) k h
      ∙ picked_at xs ps k place (full_rest (slice_get xs p) (at_places xs ps) (length ps) h) e

  -- the rows that are picked behind a place
  pub picked_behind : (xs : List A) (places : List ℕ) (k : ℕ) → HasRows xs places
      → at_places xs (drop k places) ≡ drop k (at_places xs places)
  picked_behind xs places zero h = refl
  picked_behind xs [] (suc k) h = refl
  picked_behind xs (p ∷ ps) (suc k) h =
      picked_behind xs ps k (full_rest (slice_get xs p) (at_places xs ps) (length ps) h)
      ∙ sym (put_dropped (slice_get xs p) (at_places xs ps) (length ps) k h)

  pub behind_has_rows : (xs : List A) (places : List ℕ) (k : ℕ) → HasRows xs places → HasRows xs (drop k places)
  behind_has_rows xs places zero h = h
  behind_has_rows xs [] (suc k) h = refl
  behind_has_rows xs (p ∷ ps) (suc k) h = behind_has_rows xs ps k (full_rest (slice_get xs p) (at_places xs ps) (length ps) h)

-- the row at a place has the number that counts up to it
pub number_at_place : {A : Type 0} (number : A → ℕ) (n k : ℕ) (rows : List A) (row : A) → Numbered number n rows
    → slice_get rows k ≡ Some row → (number row ≡ n + k) × (k < length rows)
number_at_place number n k [] row h e = absurd cc
number_at_place number n zero (x ∷ rows) row h e = (ap number (sym (same_Some x row e)) ∙ h.0 ∙ omega arith, omega arith)
number_at_place number n (suc k) (x ∷ rows) row h e =
    let r = number_at_place number (n + 1) k rows row h.1 e in
    let q = r.0 in
    let w = r.1 in
    (omega (arith, q), omega (arith, w))

module _ {A : Type 0} (rows : List A) where
  -- at each of the places there is a row
  pub row_at_place : (places : List ℕ) (k p : ℕ) → HasRows rows places → slice_get places k ≡ Some p
      → (row : A) × (slice_get rows p ≡ Some row)
  row_at_place [] k p h e = absurd cc
  row_at_place (x ∷ places) zero p h e =
      subst (λ z. (row : A) × (slice_get rows z ≡ Some row)) (same_Some x p e) (go (slice_get rows x) refl h)
    where
      go : (o : Option A) → slice_get rows x ≡ o → length (put_before o (at_places rows places)) ≡ suc (length places)
          → (row : A) × (slice_get rows x ≡ Some row)
      go None q l = absurd (omega (arith, l))
      go (Some row) q l = (row, q)
  row_at_place (x ∷ places) (suc k) p h e =
      row_at_place places k p (full_rest (slice_get rows x) (at_places rows places) (length places) h) e

  -- behind the places there is none
  pub none_at_place : (places : List ℕ) (k : ℕ) → HasRows rows places → length places ≤ k → slice_get (at_places rows places) k ≡ None
  none_at_place [] k h w = refl
  none_at_place (x ∷ places) zero h w = absurd (omega (arith, w))
  none_at_place (x ∷ places) (suc k) h w =
      put_later (slice_get rows x) (at_places rows places) (length places) k h
      ∙ none_at_place places k (full_rest (slice_get rows x) (at_places rows places) (length places) h) (omega (arith, w))
