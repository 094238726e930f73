-- Rows that are put under their keys, and taken away again.
use Rattle.std.proofs.Common.{◌≡◌, ℕ, zero, suc, ◌+◌, ◌-◌, ◌<◌, ◌≤◌, Bool, true, false, List, [], ◌∷◌, ◌++◌, Some, length, take, filter}
use Rattle.std.proofs.Common.{refl, sym, ap, ◌∙◌, subst, inl, inr, arith, nat_eq, length-append, if◌then◌else◌}
use Rattle.std.specs.Prelude.{slice_get, slice_index_or, ◌||◌}
use Rattle.std.proofs.lemmas.Bool.{cases_Bool, true≢false}
use Rattle.row_index.specs.Places.{is_row_number, ends_with, with_place, without_place, under, posted, unposted}
use Rattle.row_index.specs.Posts.{posted_all, unposted_all, is_one_of, with_key, places_of, Posts}
use Rattle.tap_rows.specs.Kept.{Each}
use Rattle.tap_rows.proofs.Tests.{nat_itself}
use Rattle.row_index.specs.Orders.{Numbered}

-- lists of places

at_end : (p : ℕ) (xs : List ℕ) → slice_get (xs ++ p ∷ []) (length xs) ≡ Some p
at_end p [] = refl
at_end p (x ∷ xs) = at_end p xs

last_place : (p : ℕ) (xs : List ℕ) → length (xs ++ p ∷ []) - 1 ≡ length xs
last_place p xs = let e : length (xs ++ p ∷ []) ≡ length xs + 1 = length-append xs (p ∷ []) in omega (arith, e)

pub ends_put : (p : ℕ) (xs : List ℕ) → ends_with p (xs ++ p ∷ []) ≡ true
ends_put p xs = ap (λ k. is_row_number p (slice_get (xs ++ p ∷ []) k)) (last_place p xs) ∙ ap (λ o. is_row_number p o) (at_end p xs)
    ∙ nat_itself p

front_of : (p : ℕ) (xs : List ℕ) → take (length xs) (xs ++ p ∷ []) ≡ xs
front_of p [] = refl
front_of p (x ∷ xs) = ap (λ z. x ∷ z) (front_of p xs)

-- put and taken away again
pub put_taken : (p : ℕ) (xs : List ℕ) → without_place p (xs ++ p ∷ []) ≡ xs
put_taken p xs = rw (ends_put p xs) (ap (λ k. take k (xs ++ p ∷ [])) (last_place p xs) ∙ front_of p xs)

pub put_new : (p : ℕ) (xs : List ℕ) → ends_with p xs ≡ false → with_place p xs ≡ xs ++ p ∷ []
put_new p xs e = rw e refl

pub not_taken : (p : ℕ) (xs : List ℕ) → ends_with p xs ≡ false → without_place p xs ≡ xs
not_taken p xs e = rw e refl

pub put_twice : (p : ℕ) (xs : List ℕ) → with_place p (with_place p xs) ≡ with_place p xs
put_twice p xs =
    elim (cases_Bool (ends_with p xs)) [
      | inl e ↦ rw (e, e) refl
      | inr e ↦ rw (e, ends_put p xs) refl
    ]

-- one key

module _ {K : Type 0} (eq : K → K → Bool) (sound : (x y : K) → eq x y ≡ true → x ≡ y) where
  pub under_posted : (other key : K) (p : ℕ) (es : List (K × List ℕ))
      → under eq other (posted eq key p es) ≡ (if eq other key then with_place p (under eq other es) else under eq other es)
  under_posted other key p [] =
      elim (cases_Bool (eq other key)) [
        | inl b ↦ rw b refl
        | inr b ↦ rw b refl
      ]
  under_posted other key p (e ∷ es) =
      elim (cases_Bool (eq key e.0)) [
        | inl b ↦ rw b (hit b)
        | inr b ↦ rw b (missed b (under_posted other key p es))
      ]
    where
      hit : eq key e.0 ≡ true → (if eq other e.0 then with_place p e.1 else under eq other es) ≡ (if eq other key
          then with_place p (if eq other e.0 then e.1 else under eq other es) else (if eq other e.0 then e.1 else under eq other es))
      hit b =
          let s : eq other e.0 ≡ eq other key = ap (λ k. eq other k) (sym (sound key e.0 b)) in
          elim (cases_Bool (eq other key)) [
            | inl c ↦ rw (s, c) refl
            | inr c ↦ rw (s, c) refl
          ]

      missed : eq key e.0 ≡ false
          → under eq other (posted eq key p es) ≡ (if eq other key then with_place p (under eq other es) else under eq other es)
          → (if eq other e.0 then e.1 else under eq other (posted eq key p es)) ≡ (if eq other key
          then with_place p (if eq other e.0 then e.1 else under eq other es) else (if eq other e.0 then e.1 else under eq other es))
      missed b i =
          elim (cases_Bool (eq other e.0)) [
            | inl c ↦
                elim (cases_Bool (eq other key)) [
                  | inl d ↦ absurd (true≢false (sym c ∙ ap (λ k. eq k e.0) (sound other key d) ∙ b))
                  | inr d ↦ rw (c, d) refl
                ]
            | inr c ↦ rw c i
          ]

  pub under_unposted : (other key : K) (p : ℕ) (es : List (K × List ℕ)) → without_place p [] ≡ []
      → under eq other (unposted eq key p es) ≡ (if eq other key then without_place p (under eq other es) else under eq other es)
  under_unposted other key p [] n =
      elim (cases_Bool (eq other key)) [
        | inl b ↦ rw b refl
        | inr b ↦ rw b refl
      ]
  under_unposted other key p (e ∷ es) n =
      elim (cases_Bool (eq key e.0)) [
        | inl b ↦ rw b (hit b)
        | inr b ↦ rw b (missed b (under_unposted other key p es n))
      ]
    where
      hit : eq key e.0 ≡ true → (if eq other e.0 then without_place p e.1 else under eq other es) ≡ (if eq other key
          then without_place p (if eq other e.0 then e.1 else under eq other es) else (if eq other e.0 then e.1 else under eq other es))
      hit b =
          let s : eq other e.0 ≡ eq other key = ap (λ k. eq other k) (sym (sound key e.0 b)) in
          elim (cases_Bool (eq other key)) [
            | inl c ↦ rw (s, c) refl
            | inr c ↦ rw (s, c) refl
          ]

      missed : eq key e.0 ≡ false
          → under eq other (unposted eq key p es) ≡ (if eq other key then without_place p (under eq other es) else under eq other es)
          → (if eq other e.0 then e.1 else under eq other (unposted eq key p es)) ≡ (if eq other key
          then without_place p (if eq other e.0 then e.1 else under eq other es) else (if eq other e.0 then e.1 else under eq other es))
      missed b i =
          elim (cases_Bool (eq other e.0)) [
            | inl c ↦
                elim (cases_Bool (eq other key)) [
                  | inl d ↦ absurd (true≢false (sym c ∙ ap (λ k. eq k e.0) (sound other key d) ∙ b))
                  | inr d ↦ rw (c, d) refl
                ]
            | inr c ↦ rw c i
          ]

  -- several keys

  pub under_posted_all : (other : K) (keys : List K) (p : ℕ) (es : List (K × List ℕ))
      → under eq other (posted_all eq keys p es) ≡ (if is_one_of eq other keys then with_place p (under eq other es) else under eq other es)
  under_posted_all other [] p es = refl
  under_posted_all other (key ∷ keys) p es =
      let i = under_posted_all other keys p (posted eq key p es) in
      let u = under_posted other key p es in
      i ∙ ap (λ xs. if is_one_of eq other keys then with_place p xs else xs) u ∙ both
    where
      both : (if is_one_of eq other keys then with_place p (if eq other key then with_place p (under eq other es) else under eq other es)
          else (if eq other key then with_place p (under eq other es) else under eq other es))
          ≡ (if eq other key || is_one_of eq other keys then with_place p (under eq other es) else under eq other es)
      both =
          elim (cases_Bool (eq other key)) [
            | inl b ↦
                elim (cases_Bool (is_one_of eq other keys)) [
                  | inl c ↦ rw (b, c) (put_twice p (under eq other es))
                  | inr c ↦ rw (b, c) refl
                ]
            | inr b ↦
                elim (cases_Bool (is_one_of eq other keys)) [
                  | inl c ↦ rw (b, c) refl
                  | inr c ↦ rw (b, c) refl
                ]
          ]

  pub under_unposted_all : (other : K) (keys : List K) (p : ℕ) (es : List (K × List ℕ))
      → without_place p (without_place p (under eq other es)) ≡ without_place p (under eq other es) → under eq other
      (unposted_all eq keys p es) ≡ (if is_one_of eq other keys then without_place p (under eq other es) else under eq other es)
  under_unposted_all other [] p es t = refl
  under_unposted_all other (key ∷ keys) p es t =
      let u = under_unposted other key p es refl in
      elim (cases_Bool (eq other key)) [
        | inl b ↦
            let v : under eq other (unposted eq key p es) ≡ without_place p (under eq other es) = (rw b at u) in
            let t' : without_place p (without_place p (under eq other (unposted eq key p es)))
            ≡ without_place p (under eq other (unposted eq key p es)) = rw v (ap (λ z. without_place p z) t) in
            let i = under_unposted_all other keys p (unposted eq key p es) t' in
            rw b (i ∙ ap (λ xs. if is_one_of eq other keys then without_place p xs else xs) v ∙ same t)
        | inr b ↦
            let v : under eq other (unposted eq key p es) ≡ under eq other es = (rw b at u) in
            let t' : without_place p (without_place p (under eq other (unposted eq key p es)))
            ≡ without_place p (under eq other (unposted eq key p es)) = rw v t in
            let i = under_unposted_all other keys p (unposted eq key p es) t' in
            rw b (i ∙ ap (λ xs. if is_one_of eq other keys then without_place p xs else xs) v)
      ]
    where
      same : without_place p (without_place p (under eq other es)) ≡ without_place p (under eq other es)
          → (if is_one_of eq other keys then without_place p (without_place p (under eq other es)) else without_place p (under eq other es))
          ≡ without_place p (under eq other es)
      same t =
          elim (cases_Bool (is_one_of eq other keys)) [
            | inl c ↦ rw c t
            | inr c ↦ rw c refl
          ]

module _ {K : Type 0} (eq : K → K → Bool) where
  pub posted_onto : (keys : List K) (key : K) (p : ℕ) (es : List (K × List ℕ))
      → posted_all eq (keys ++ key ∷ []) p es ≡ posted eq key p (posted_all eq keys p es)
  posted_onto [] key p es = refl
  posted_onto (k ∷ keys) key p es = posted_onto keys key p (posted eq k p es)

  one_after : (keys : List K) (i : ℕ) (key d : K) → i < length keys → key ≡ slice_index_or keys i d
      → take (suc i) keys ≡ take i keys ++ key ∷ []
  one_after [] i key d h e = absurd (omega (arith, h))
  one_after (k ∷ keys) zero key d h e = ap (λ z. z ∷ []) (sym e)
  one_after (k ∷ keys) (suc i) key d h e = ap (λ z. k ∷ z) (one_after keys i key d (omega (arith, h)) e)

  one_more : (keys : List K) (i : ℕ) (key d : K) → i < length keys → key ≡ slice_index_or keys i d
      → take (i + 1) keys ≡ take i keys ++ key ∷ []
  one_more keys i key d h e =
      let s : suc i ≡ i + 1 = omega arith in
      subst (λ n. take n keys ≡ take i keys ++ key ∷ []) s (one_after keys i key d h e)

  -- a step of a loop over keys
  pub posted_step : (keys : List K) (i : ℕ) (key d : K) (p : ℕ) (es now next : List (K × List ℕ)) → i < length keys
      → key ≡ slice_index_or keys i d → now ≡ posted_all eq (take i keys) p es → next ≡ posted eq key p now
      → next ≡ posted_all eq (take (i + 1) keys) p es
  posted_step keys i key d p es now next h e n x = x ∙ ap (λ z. posted eq key p z) n ∙ sym (posted_onto (take i keys) key p es)
      ∙ ap (λ z. posted_all eq z p es) (sym (one_more keys i key d h e))

-- rows and their places

module _ {K A : Type 0} (eq : K → K → Bool) (sound : (x y : K) → eq x y ≡ true → x ≡ y) (keys : A → List K) (number : A → ℕ) where
  below_none : (m k : ℕ) → m < k → nat_eq m k ≡ false
  below_none m k h = grind (arith, h)

  smaller : (p m : ℕ) (xs : List ℕ) → Each (λ k. k < p) xs → is_row_number p (slice_get xs m) ≡ false
  smaller p m [] e = refl
  smaller p zero (x ∷ xs) e = below_none x p e.0
  smaller p (suc m) (x ∷ xs) e = smaller p m xs e.1

  pub below_each : (t : A → Bool) (m n : ℕ) (rows : List A) → Numbered number n rows → 0 < n → n + length rows ≤ m + 1
      → Each (λ k. k < m) (places_of number (filter t rows))
  below_each t m n [] h z w = tt
  below_each t m n (row ∷ rows) h z w =
      let r = below_each t m (n + 1) rows h.1 (omega arith) (omega (arith, w)) in
      let e = h.0 in
      let s : number row - 1 < m = omega (arith, w, z, e) in
      elim (cases_Bool (t row)) [
        | inl b ↦ rw b (s, r)
        | inr b ↦ rw b r
      ]

  -- no place is yet that of the next row
  pub fresh_place : (rows : List A) (es : List (K × List ℕ)) (key : K) → Numbered number 1 rows → Posts eq keys number rows es
      → ends_with (length rows) (under eq key es) ≡ false
  fresh_place rows es key h posts =
      let b = below_each (λ row. is_one_of eq key (keys row)) (length rows) 1 rows h (omega arith) (omega arith) in
      let xs = places_of number (with_key eq keys key rows) in
      ap (λ xs. ends_with (length rows) xs) (posts key) ∙ smaller (length rows) (length xs - 1) xs b

  filter_onto : (t : A → Bool) (rows : List A) (row : A) → filter t (rows ++ row ∷ []) ≡ filter t rows ++ (if t row then row ∷ [] else [])
  filter_onto t [] row = refl
  filter_onto t (x ∷ rows) row =
      elim (cases_Bool (t x)) [
        | inl b ↦ rw b (ap (λ z. x ∷ z) (filter_onto t rows row))
        | inr b ↦ rw b (filter_onto t rows row)
      ]

  pub places_onto : (xs ys : List A) → places_of number (xs ++ ys) ≡ places_of number xs ++ places_of number ys
  places_onto [] ys = refl
  places_onto (x ∷ xs) ys = ap (λ z. (number x - 1) ∷ z) (places_onto xs ys)

  pub nothing_more : (xs : List ℕ) → xs ++ [] ≡ xs
  nothing_more [] = refl
  nothing_more (x ∷ xs) = ap (λ z. x ∷ z) (nothing_more xs)

  row_place : (rows : List A) (row : A) → number row ≡ length rows + 1 → number row - 1 ≡ length rows
  row_place rows row e = omega (arith, e)

  -- the places under a key, of rows with one more
  places_more : (rows : List A) (row : A) (key : K) → number row ≡ length rows + 1
      → places_of number (with_key eq keys key (rows ++ row ∷ [])) ≡ (if is_one_of eq key (keys row)
      then places_of number (with_key eq keys key rows) ++ length rows ∷ [] else places_of number (with_key eq keys key rows))
  places_more rows row key e =
      ap (λ z. places_of number z) (filter_onto (λ row. is_one_of eq key (keys row)) rows row)
      ∙ places_onto (with_key eq keys key rows) (if is_one_of eq key (keys row) then row ∷ [] else []) ∙ last
    where
      last : places_of number (with_key eq keys key rows) ++ places_of number (if is_one_of eq key (keys row) then row ∷ [] else [])
          ≡ (if is_one_of eq key (keys row) then places_of number (with_key eq keys key rows) ++ length rows ∷ []
          else places_of number (with_key eq keys key rows))
      last =
          elim (cases_Bool (is_one_of eq key (keys row))) [
            | inl b ↦ rw b (ap (λ k. places_of number (with_key eq keys key rows) ++ k ∷ []) (row_place rows row e))
            | inr b ↦ rw b (nothing_more (places_of number (with_key eq keys key rows)))
          ]

  pub posts_more : (rows : List A) (row : A) (es fs : List (K × List ℕ)) → Numbered number 1 rows → number row ≡ length rows + 1
      → fs ≡ posted_all eq (keys row) (length rows) es → Posts eq keys number rows es → Posts eq keys number (rows ++ row ∷ []) fs
  posts_more rows row es fs h e f posts = λ key.
      ap (λ z. under eq key z) f ∙ under_posted_all eq sound key (keys row) (length rows) es ∙ more key ∙ sym (places_more rows row key e)
    where
      more : (key : K) → (if is_one_of eq key (keys row) then with_place (length rows) (under eq key es) else under eq key es)
          ≡ (if is_one_of eq key (keys row) then places_of number (with_key eq keys key rows) ++ length rows ∷ []
          else places_of number (with_key eq keys key rows))
      more key =
          let p = posts key in
          let n = put_new (length rows) (under eq key es) (fresh_place rows es key h posts) in
          elim (cases_Bool (is_one_of eq key (keys row))) [
            | inl b ↦ rw b (n ∙ ap (λ z. z ++ length rows ∷ []) p)
            | inr b ↦ rw b p
          ]

  pub posts_less : (rows : List A) (row : A) (es fs : List (K × List ℕ)) → Numbered number 1 rows → number row ≡ length rows + 1
      → fs ≡ unposted_all eq (keys row) (length rows) es → Posts eq keys number (rows ++ row ∷ []) es → Posts eq keys number rows fs
  posts_less rows row es fs h e f posts = λ key.
      let b = below_each (λ row. is_one_of eq key (keys row)) (length rows) 1 rows h (omega arith) (omega arith) in
      let xs = places_of number (with_key eq keys key rows) in
      let n : ends_with (length rows) xs ≡ false = smaller (length rows) (length xs - 1) xs b in
      let u : under eq key es ≡ (if is_one_of eq key (keys row) then xs ++ length rows ∷ [] else xs) = posts key
      ∙ places_more rows row key e in
      let w : without_place (length rows) (under eq key es) ≡ xs = ap (λ z. without_place (length rows) z) u ∙ first key n in
      let t : without_place (length rows) (without_place (length rows) (under eq key es)) ≡ without_place (length rows) (under eq key es) =
      ap (λ z. without_place (length rows) z) w ∙ not_taken (length rows) xs n ∙ sym w in
      ap (λ z. under eq key z) f ∙ under_unposted_all eq sound key (keys row) (length rows) es t ∙ ended key u w
    where
      first : (key : K) → ends_with (length rows) (places_of number (with_key eq keys key rows)) ≡ false
          → without_place (length rows) (if is_one_of eq key (keys row) then places_of number (with_key eq keys key rows)
          ++ length rows ∷ [] else places_of number (with_key eq keys key rows)) ≡ places_of number (with_key eq keys key rows)
      first key n =
          elim (cases_Bool (is_one_of eq key (keys row))) [
            | inl c ↦ rw c (put_taken (length rows) (places_of number (with_key eq keys key rows)))
            | inr c ↦ rw c (not_taken (length rows) (places_of number (with_key eq keys key rows)) n)
          ]

      ended : (key : K) → under eq key es ≡ (if is_one_of eq key (keys row)
          then places_of number (with_key eq keys key rows) ++ length rows ∷ [] else places_of number (with_key eq keys key rows))
          → without_place (length rows) (under eq key es) ≡ places_of number (with_key eq keys key rows)
          → (if is_one_of eq key (keys row) then without_place (length rows) (under eq key es) else under eq key es)
          ≡ places_of number (with_key eq keys key rows)
      ended key u w =
          elim (cases_Bool (is_one_of eq key (keys row))) [
            | inl c ↦ rw c w
            | inr c ↦ rw c (rw c at u)
          ]
