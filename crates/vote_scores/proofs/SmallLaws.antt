-- How large counted scores are.
use Rattle.std.proofs.Common.{arith, ℕ, ◌+◌, ◌*◌, ◌≤◌, Bool, true, false, ℤ, pos, ◌+ℤ◌, ◌≤ℤ◌, FitsSigned, w64, List, [], ◌∷◌, if◌then◌else◌}
use Rattle.std.specs.Prelude.{neg_ℤ, ◌==◌}
use Rattle.std.proofs.lemmas.Int.{ints}
use Rattle.tap_rows.specs.declared.score.Score.{Score}
use Rattle.vote_scores.specs.Counts.{with_vote_counted, AreSmall}

abbrev low : ℕ → ℤ
low n = neg_ℤ (pos (9223372036854775808 * n))

abbrev high : ℕ → ℤ
high n = pos (9223372036854775808 * n)

higher : (n m : ℕ) (sum : ℤ) → n ≤ m → low n ≤ℤ sum → sum ≤ℤ high n → (low m ≤ℤ sum) × (sum ≤ℤ high m)
higher n m sum le down up = (omega (arith, ints), omega (arith, ints))

pub small_up : (n m : ℕ) (scores : List Score) → n ≤ m → AreSmall n scores → AreSmall m scores
small_up n m [] le small = tt
small_up n m (score ∷ scores) le small =
    let h = higher n m score.sum le small.0.1 small.0.2 in
    (((omega (arith, le, small.0.0)), h.0, h.1), small_up n m scores le small.1)

value_within : (value : ℤ) → FitsSigned w64 value → (neg_ℤ (pos 9223372036854775808) ≤ℤ value) × (value ≤ℤ pos 9223372036854775808)
value_within value fits = (omega (arith, ints, fits.sfits), omega (arith, ints, fits.sfits))

grown : (n : ℕ) (sum value : ℤ) → low n ≤ℤ sum → sum ≤ℤ high n → neg_ℤ (pos 9223372036854775808) ≤ℤ value → value ≤ℤ pos 9223372036854775808
    → (low (n + 1) ≤ℤ (sum +ℤ value)) × ((sum +ℤ value) ≤ℤ high (n + 1))
grown n sum value down up below above = (omega (arith, ints), omega (arith, ints))

begun : (n : ℕ) (value : ℤ) → neg_ℤ (pos 9223372036854775808) ≤ℤ value → value ≤ℤ pos 9223372036854775808
    → (low (n + 1) ≤ℤ value) × (value ≤ℤ high (n + 1))
begun n value below above = (omega (arith, ints), omega (arith, ints))

pub small_more : (n doc : ℕ) (value : ℤ) (scores : List Score) → FitsSigned w64 value → AreSmall n scores
    → AreSmall (n + 1) (with_vote_counted doc value scores)
small_more n doc value [] fits small =
    let v = value_within value fits in
    let b = begun n value v.0 v.1 in
    ((omega arith, b.0, b.1), tt)
small_more n doc value (score ∷ scores) fits small = go (doc == score.doc.0) (small_more n doc value scores fits small.1) where
  go : (b : Bool) → AreSmall (n + 1) (with_vote_counted doc value scores) → AreSmall (n + 1) (if b
      then record score { voters = score.voters + 1; sum = score.sum +ℤ value } ∷ scores else score ∷ with_vote_counted doc value scores)
  go true rest =
      let v = value_within value fits in
      let g = grown n score.sum value small.0.1 small.0.2 v.0 v.1 in
      ((omega (arith, small.0.0), g.0, g.1), small_up n (n + 1) scores (omega arith) small.1)
  go false rest =
      let h = higher n (n + 1) score.sum (omega arith) small.0.1 small.0.2 in
      ((omega (arith, small.0.0), h.0, h.1), rest)
