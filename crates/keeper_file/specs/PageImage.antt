-- Pages that are a whole file, as two files: an empty log, and the pages in a row.
use Rattle.std.proofs.Common.{◌≡◌, ◌↔◌, ℕ, zero, suc, ◌+◌, ◌-◌, ◌*◌, ◌/◌, ◌<◌, ◌≤◌, ◌&&◌, leb, true≢false}
use Rattle.std.proofs.Common.{List, [], ◌∷◌, ◌++◌, length, take, drop, option_map, Option, Some, None, IsSome, unwrap_or}
use Rattle.std.proofs.Common.{inl, inr, refl, sym, ap, subst, ◌∙◌, arith, take_at, length-append, mul-le-mul_right}
use Rattle.std.proofs.lemmas.Bool.{cases_Bool, cond-true, cond-false, and_parts, and_from, leb-true, le-leb}
use Rattle.std.proofs.lemmas.Nat.{div-mul-add}
use Rattle.std.proofs.Math.Path.{fun_ext}
use Rattle.sqlite_wal.specs.Format.{part}
use Rattle.sqlite_wal.specs.Recovery as raw
use Rattle.sqlite_wal.specs.Recovery.{Image, AreWhole, pages_after}
use Rattle.sqlite_wal.proofs.AppendLemmas.{some_value}
use Rattle.sqlite_pages.specs.PageMap.{PageMap}
use Rattle.sqlite_pool.specs.FreeList.{bytes_of}
use Rattle.sqlite_pool.specs.Stored.{stored_size, sealed, trimmed, AreSealed, Recovers}
use Rattle.sqlite_pool.specs.StoredLaws.{length-sealed, take_sealed}

-- the first n pages in a row
abbrev flat : (ℕ → List ℕ) → ℕ → List ℕ
flat page zero = []
flat page (suc n) = page 0 ++ flat (λ k. page (suc k)) n

drop_past : (xs ys : List ℕ) (m k : ℕ) → m ≡ length xs + k → drop m (xs ++ ys) ≡ drop k ys
drop_past [] ys m k e = ap (λ i. drop i ys) (omega (arith, e))
drop_past (x ∷ xs) ys zero k e = absurd (omega (arith, e))
drop_past (x ∷ xs) ys (suc m) k e = drop_past xs ys m k (omega (arith, e))

module _ (whole : ℕ) where
  flat_length : (page : ℕ → List ℕ) (n : ℕ) → ((k : ℕ) → k < n → length (page k) ≡ whole) → length (flat page n) ≡ n * whole
  flat_length page zero sized = omega arith
  flat_length page (suc n) sized =
      let rest = flat_length (λ k. page (suc k)) n (λ k h. sized (suc k) (omega arith)) in
      omega (arith, length-append (page 0) (flat (λ k. page (suc k)) n), sized 0 (omega arith), rest)

  flat_part : (page : ℕ → List ℕ) (n k : ℕ) → ((i : ℕ) → i < n → length (page i) ≡ whole) → k < n
      → part (flat page n) (k * whole) whole ≡ page k
  unfolding part
  flat_part page zero k sized h = absurd (omega arith)
  flat_part page (suc n) zero sized h =
      let none : 0 * whole ≡ 0 = omega arith in
      ap (λ i. take whole (drop i (flat page (suc n)))) none ∙ take_at (page 0) (flat (λ k. page (suc k)) n) whole (sized 0 (omega arith))
  flat_part page (suc n) (suc k) sized h =
      let first = sized 0 (omega arith) in
      let past : suc k * whole ≡ length (page 0) + k * whole = omega (arith, first) in
      ap (take whole) (drop_past (page 0) (flat (λ i. page (suc i)) n) (suc k * whole) (k * whole) past)
      ∙ flat_part (λ i. page (suc i)) n k (λ i low. sized (suc i) (omega arith)) (omega arith)

module _ (size : ℕ) (pages : PageMap) (some : 0 < size) (all : AreWhole size pages) (count : ℕ)
    (counted : (n : ℕ) → IsSome (pages n) ↔ ((1 ≤ n) × (n ≤ count))) where
  -- each page with its sum
  abbrev page : ℕ → List ℕ
  page k = sealed (bytes_of pages (suc k))

  abbrev stored : PageMap
  stored n = option_map sealed (pages n)

  abbrev pub row : Image
  row = record { log = []; db = flat page count }

  sized : (k : ℕ) → k < count → length (page k) ≡ stored_size size
  sized k low =
      let (bytes, is) = some_value (pages (suc k)) ((counted (suc k)).1 (omega arith, omega arith)) in
      length-sealed (bytes_of pages (suc k))
      ∙ ap stored_size (ap (λ (o : Option (List ℕ)). length (unwrap_or o [])) is ∙ all.sized (suc k) bytes is)

  at_page : (n : ℕ) → (o : Option (List ℕ)) → pages n ≡ o → IsSome o → 1 ≤ n → n ≤ count
      → Some (part row.db ((n - 1) * stored_size size) (stored_size size)) ≡ option_map sealed o
  at_page zero o is there low high = absurd (omega arith)
  at_page (suc k) None is there low high = absurd (let e = there in cc)
  at_page (suc k) (Some bytes) is there low high =
      let e : suc k - 1 ≡ k = omega arith in
      ap Some (ap (λ i. part row.db (i * stored_size size) (stored_size size)) e
      ∙ flat_part (stored_size size) page count k sized (omega arith)
      ∙ ap (λ (x : Option (List ℕ)). sealed (unwrap_or x [])) is)

  pages_count : length row.db / stored_size size ≡ count
  pages_count = ap (λ n. n / stored_size size) (flat_length (stored_size size) page count sized ∙ (omega arith))
      ∙ div-mul-add count (stored_size size) 0 (omega arith)

  none_unless : (o : Option (List ℕ)) → ¬ IsSome o → None ≡ option_map sealed o
  none_unless None h = refl
  none_unless (Some x) h = absurd (h refl)

  shows_pages : pages_after (stored_size size) [] row.db 0 ≡ stored
  unfolding pages_after
  shows_pages = fun_ext λ n. elim (cases_Bool (leb 1 n && leb n (length row.db / stored_size size))) [
    | inl inside ↦
        let both = and_parts _ _ inside in
        let low : 1 ≤ n = leb-true _ _ both.0 in
        let high : n ≤ count = subst (λ c. n ≤ c) pages_count (leb-true _ _ both.1) in
        cond-true _ _ _ inside ∙ at_page n (pages n) refl ((counted n).1 (low, high)) low high
    | inr outside ↦ cond-false _ _ _ outside ∙ none_unless (pages n) (λ there.
        let within = (counted n).0 there in
        let inside = and_from _ _ (le-leb 1 n within.0) (le-leb n _ (subst (λ c. n ≤ c) (sym pages_count) within.1)) in
        true≢false (sym inside ∙ outside))
  ]

  at_trimmed : (o : Option (List ℕ)) → ((b : List ℕ) → o ≡ Some b → length b ≡ size) → option_map (take size) (option_map sealed o) ≡ o
  at_trimmed None is = refl
  at_trimmed (Some b) is = ap Some (ap (λ k. take k (sealed b)) (sym (is b refl)) ∙ take_sealed b)

  is_sealed : (o : Option (List ℕ)) (b : List ℕ) → ((x : List ℕ) → o ≡ Some x → length x ≡ size) → option_map sealed o ≡ Some b
      → (b ≡ sealed (take size b)) × (length b ≡ stored_size size)
  is_sealed None b is e = absurd (cc)
  is_sealed (Some x) b is e =
      let here : sealed x ≡ b = cc in
      let cut : take size b ≡ x = ap (take size) (sym here) ∙ ap (λ k. take k (sealed x)) (sym (is x refl)) ∙ take_sealed x in
      (sym here ∙ ap sealed (sym cut), ap length (sym here) ∙ length-sealed x ∙ ap stored_size (is x refl))

  there_still : (o : Option (List ℕ)) → IsSome o → IsSome (option_map sealed o)
  there_still None h = absurd (let e = h in cc)
  there_still (Some x) h = refl

  pub row_recovers : Recovers size row pages
  unfolding trimmed
  row_recovers =
      let first = (counted 1).0 all.first in
      let long = flat_length (stored_size size) page count sized in
      let least : 1 * stored_size size ≤ count * stored_size size = mul-le-mul_right (stored_size size) first.1 in
      let there : 0 < length row.db = omega (arith, long, least, some) in
      record {
        stored = stored;
        found = record { frames = 0; replays = inl (inl (omega arith), refl); present = there; gives = shows_pages };
        whole = record { first = there_still (pages 1) all.first; sized = λ n b is. (is_sealed (pages n) b (all.sized n) is).1 };
        sealed = λ n b is. (is_sealed (pages n) b (all.sized n) is).0;
        shows = fun_ext λ n. at_trimmed (pages n) (all.sized n);
        present = there;
      }
