-- Where rows are cut in two, found in a part of them.
use Rattle.std.proofs.Common.{◌≡◌, ℕ, ◌+◌, ◌-◌, ◌<◌, ◌≤◌, Bool, true, false, List, length, take, drop, sym, ap, ◌∙◌, subst, inl, inr, arith}
use Rattle.std.specs.Prelude.{slice_index_or}
use Rattle.std.specs.List.{AllWithin, HoldsAt}
use Rattle.std.specs.List.Sorted.{IsPartitionPoint, IsPartitionedBy}
use Rattle.std.proofs.lemmas.Bool.{true≢false, cases_Bool}
use Rattle.std.proofs.lemmas.List.{length-drop, length-take-le, get_or-take, get_or-drop}
use Rattle.std.proofs.str.Laws.{order}

module _ {A : Type 0} where
  -- a row of a part is a row of the whole
  row_at : (xs : List A) (a m k : ℕ) (d : A) → k < m → slice_index_or (take m (drop a xs)) k d ≡ slice_index_or xs (a + k) d
  row_at xs a m k d w = get_or-take m (drop a xs) k d w ∙ get_or-drop a xs k d

  part_length : (xs : List A) (a m : ℕ) → a + m ≤ length xs → length (take m (drop a xs)) ≡ m
  part_length xs a m w = let l = length-drop a xs in length-take-le m (drop a xs) (omega (arith, w, l))

module _ {A : Type 0} (p : A → Bool) (xs : List A) (parted : IsPartitionedBy p xs) where
  -- behind a row that fails all fail
  pub fails_on : (i : ℕ) → HoldsAt (λ y. p y ≡ false) xs i → AllWithin (λ y. p y ≡ false) xs i (length xs)
  fails_on i h k d a b =
      elim (cases_Bool (p (slice_index_or xs k d))) [
        | inl e ↦ absurd (true≢false (sym (parted i k d a b e) ∙ h d))
        | inr e ↦ e
      ]

  -- before a row that passes all pass
  pub passes_to : (i : ℕ) → i < length xs → HoldsAt (λ y. p y ≡ true) xs i → AllWithin (λ y. p y ≡ true) xs 0 (i + 1)
  passes_to i w h k d a b = parted k i d (omega (arith, b)) w (h d)

  part_parted : (a m : ℕ) → a + m ≤ length xs → IsPartitionedBy p (take m (drop a xs))
  part_parted a m w i j d e l h =
      let n = part_length xs a m w in
      let inside : j < m = omega (arith, l, n) in
      let low : i < m = omega (arith, e, inside) in
      rw (row_at xs a m i d low)
      (parted (a + i) (a + j) d (omega (arith, e)) (omega (arith, w, inside)) (sym (ap p (row_at xs a m j d inside)) ∙ h))

  -- where the part is cut is where the whole is, if all before the part pass and all behind it fail
  pub cut_of_part : (a m n : ℕ) → a + m ≤ length xs → n ≤ length (take m (drop a xs)) → AllWithin (λ y. p y ≡ true) xs 0 a
      → AllWithin (λ y. p y ≡ false) xs (a + m) (length xs)
      → (IsPartitionedBy p (take m (drop a xs)) → IsPartitionPoint (λ y. p y ≡ true) (λ y. p y ≡ false) (take m (drop a xs)) n)
      → IsPartitionPoint (λ y. p y ≡ true) (λ y. p y ≡ false) xs (a + n)
  cut_of_part a m n w b front back cut =
      let h = cut (part_parted a m w) in
      let e = part_length xs a m w in (
        λ k d l u.
            elim (order k a) [
              | inl s ↦ front k d l s
              | inr s ↦ subst (λ i. p (slice_index_or xs i d) ≡ true) (omega (arith, s))
                  (sym (ap p (row_at xs a m (k - a) d (omega (arith, s, u, b, e)))) ∙ h.0 (k - a) d (omega arith) (omega (arith, s, u)))
            ],
        λ k d l u.
            elim (order k (a + m)) [
              | inl s ↦ subst (λ i. p (slice_index_or xs i d) ≡ false) (omega (arith, l))
                  (sym (ap p (row_at xs a m (k - a) d (omega (arith, l, s)))) ∙ h.1 (k - a) d (omega (arith, l)) (omega (arith, l, s, e)))
              | inr s ↦ back k d s u
            ],
      )

  pub cut_of_front : (m n : ℕ) → m ≤ length xs → n ≤ length (take m xs) → AllWithin (λ y. p y ≡ false) xs m (length xs)
      → (IsPartitionedBy p (take m xs) → IsPartitionPoint (λ y. p y ≡ true) (λ y. p y ≡ false) (take m xs) n)
      → IsPartitionPoint (λ y. p y ≡ true) (λ y. p y ≡ false) xs n
  cut_of_front m n w b back cut =
      let behind : AllWithin (λ y. p y ≡ false) xs (0 + m) (length xs) =
      subst (λ i. AllWithin (λ y. p y ≡ false) xs i (length xs)) (omega arith) back in
      subst (IsPartitionPoint (λ y. p y ≡ true) (λ y. p y ≡ false) xs) (omega arith)
      (cut_of_part 0 m n (omega (arith, w)) b (λ k d l u. absurd (omega (arith, l, u))) behind cut)
