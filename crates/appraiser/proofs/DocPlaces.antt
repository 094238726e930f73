-- The document of a number is the one at its place.
use Rattle.std.proofs.Common.{◌≡◌, ℕ, zero, suc, ◌+◌, ◌-◌, ◌<◌, ◌≤◌, true, false, List, [], ◌∷◌, length, Option, Some, None, refl, subst}
use Rattle.std.proofs.Common.{arith, nat_eq}
use Rattle.std.specs.Prelude.{◌==◌, slice_get, option_to_list}
use Rattle.std.specs.List.{find}
use Rattle.tap_rows.specs.declared.rows.Doc.{Doc}
use Rattle.tap_rows.specs.WellFormed.{row_at}
use Rattle.row_index.specs.Orders.{Numbered, doc_number}

this-one : (m n k : ℕ) → m ≡ n → k ≡ n → nat_eq m k ≡ true
this-one m n k e f = grind (arith, e, f)

another : (m n k : ℕ) → m ≡ n → n < k → nat_eq m k ≡ false
another m n k e f = grind (arith, e, f)

-- from a number on
place-from : (n k : ℕ) (docs : List Doc) → Numbered doc_number n docs → find (λ doc. nat_eq doc.num.0 (n + k)) docs ≡ slice_get docs k
place-from n k [] numbered = refl
place-from n zero (doc ∷ docs) numbered = rw (this-one doc.num.0 n (n + 0) numbered.0 (omega arith)) refl
place-from n (suc k) (doc ∷ docs) numbered =
    let next : n + 1 + k ≡ n + suc k = omega arith in
    rw (another doc.num.0 n (n + suc k) numbered.0 (omega arith))
    (subst (λ z. find (λ doc. nat_eq doc.num.0 z) docs ≡ slice_get docs k) next (place-from (n + 1) k docs numbered.1))

none-below : (n : ℕ) (docs : List Doc) → 0 < n → Numbered doc_number n docs → find (λ doc. nat_eq doc.num.0 0) docs ≡ None
none-below n [] some numbered = refl
none-below n (doc ∷ docs) some numbered =
    let other : nat_eq doc.num.0 0 ≡ false = not-zero doc.num.0 n numbered.0 some in
    rw other (none-below (n + 1) docs (omega arith) numbered.1) where
      not-zero : (m n : ℕ) → m ≡ n → 0 < n → nat_eq m 0 ≡ false
      not-zero m n e f = grind (arith, e, f)

pub doc-placed : (num : ℕ) (docs : List Doc) → Numbered doc_number 1 docs → find (λ doc. nat_eq doc.num.0 num) docs ≡ row_at num docs
doc-placed zero docs numbered = none-below 1 docs (omega arith) numbered
doc-placed (suc k) docs numbered =
    let some : (suc k == 0) ≡ false = is-some k in
    rw some (subst (λ n. find (λ doc. nat_eq doc.num.0 n) docs ≡ slice_get docs (suc k - 1)) (one-more k)
    (place-from 1 (suc k - 1) docs numbered)) where
      is-some : (n : ℕ) → (suc n == 0) ≡ false
      is-some n = grind arith

      one-more : (n : ℕ) → 1 + (suc n - 1) ≡ suc n
      one-more n = omega arith

pub one-at-most : {A : Type 0} (o : Option A) → length (option_to_list o) ≤ 1
one-at-most None = omega arith
one-at-most (Some x) = omega arith
