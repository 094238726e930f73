-- Few bytes in one array.
use Rattle.std.proofs.Common.{◌≡◌, ◌∙◌, ap, refl, arith, ℕ, List, ◌++◌, ◌+◌, length, take}
use Rattle.std.proofs.Math.Seq.{take-append_seam}
use Rattle.std.proofs.lemmas.List.{length-append}
use Rattle.std.proofs.lemmas.Slice.{take-put_mid}
use borrow.Rule.Slice.PartMut.{put_mid}

-- what was put at the start of an array, and behind it, is read back as one run
pub joined-bytes : (front back first second : List ℕ) (k : ℕ) (rest : List ℕ) → first ≡ front → second ≡ back
    → take (length front + length back) (put_mid (length front) k (first ++ rest) second) ≡ front ++ back
joined-bytes front back first second k rest is after =
    rw (is, after) (take-put_mid (length front) k (front ++ rest) back (length front + length back) refl
    (rw (length-append front rest) (omega arith)) ∙ ap (λ xs. xs ++ back) (take-append_seam front rest))
