-- A vote that is counted in a map of scores.
use Rattle.std.proofs.Common.{◌≡◌, ◌∙◌, refl, sym, ap, subst, arith, ℕ, zero, suc, ◌+◌, ◌*◌, ◌<◌, ◌≤◌, Bool, true, false, ℤ, pos, ◌+ℤ◌}
use Rattle.std.proofs.Common.{◌≤ℤ◌, FitsSigned, w64, length, List, [], ◌∷◌, Some, None, nat_eq, if◌then◌else◌}
use Rattle.std.specs.Prelude.{neg_ℤ, slice_index_or}
use Rattle.std.specs.Int.{w128}
use Rattle.std.specs.List.{IsAmong}
use Rattle.std.proofs.lemmas.Int.{ints, fits_signed_from_abs}
use Rattle.std.specs.Map.{values_of, lookup, set_value}
use Rattle.indexmap.specs.IndexMap.{insert_entry}
use Rattle.tap_rows.specs.Kept.{Each}
use Rattle.tap_rows.specs.declared.score.Score.{Score}
use Rattle.vote_scores.specs.Counts.{with_vote_counted, AreUnderTheirDocuments, AreSmall}

head_is : {x y : ℕ} {xs ys : List ℕ} → x ∷ xs ≡ y ∷ ys → x ≡ y
head_is e = cc

tail_is : {x y : ℕ} {xs ys : List ℕ} → x ∷ xs ≡ y ∷ ys → xs ≡ ys
tail_is e = cc

-- sums stay within 128 bits

each_among : {X : Type 0} (P : X → Type 0) (xs : List X) (x : X) → Each P xs → IsAmong xs x → P x
each_among {X = X} P xs x each among = at xs each among.0 among.1.0 among.1.1 where
  at : (ys : List X) → Each P ys → (i : ℕ) → i < length ys → x ≡ slice_index_or ys i x → P x
  at [] each i low is = absurd (omega (arith, low))
  at (y ∷ ys) each zero low is = subst P (sym is) each.0
  at (y ∷ ys) each (suc i) low is = at ys each.1 i (omega (arith, low)) is

value_within : (value : ℤ) → FitsSigned w64 value → (neg_ℤ (pos 9223372036854775808) ≤ℤ value) × (value ≤ℤ pos 9223372036854775807)
value_within value fits = (omega (arith, ints, fits.sfits), omega (arith, ints, fits.sfits))

sum_within : (sum value : ℤ) → neg_ℤ (pos (9223372036854775808 * 4294967294)) ≤ℤ sum → sum ≤ℤ pos (9223372036854775808 * 4294967294)
    → neg_ℤ (pos 9223372036854775808) ≤ℤ value → value ≤ℤ pos 9223372036854775807
    → (neg_ℤ (pos 39614081257132168796771975168) ≤ℤ (sum +ℤ value)) × ((sum +ℤ value) ≤ℤ pos 39614081257132168796771975168)
sum_within sum value low high down up = (omega (arith, ints), omega (arith, ints))

within_fits : (z : ℤ) → neg_ℤ (pos 39614081257132168796771975168) ≤ℤ z → z ≤ℤ pos 39614081257132168796771975168 → FitsSigned w128 z
within_fits z low high = fits_signed_from_abs w128 z (omega (arith, ints))

sum_fits : (sum value : ℤ) → neg_ℤ (pos (9223372036854775808 * 4294967294)) ≤ℤ sum → sum ≤ℤ pos (9223372036854775808 * 4294967294)
    → FitsSigned w64 value → FitsSigned w128 (sum +ℤ value)
sum_fits sum value low high fits =
    let v = value_within value fits in
    let s = sum_within sum value low high v.0 v.1 in
    within_fits (sum +ℤ value) s.0 s.1

pub grown_fits : (scores : List Score) (score : Score) (value : ℤ) → AreSmall 4294967294 scores → IsAmong scores score
    → FitsSigned w64 value → FitsSigned w128 (score.sum +ℤ value)
grown_fits scores score value small among fits =
    let s = each_among (λ (score : Score). (score.voters ≤ 4294967294) × (neg_ℤ (pos (9223372036854775808 * 4294967294)) ≤ℤ score.sum)
    × (score.sum ≤ℤ pos (9223372036854775808 * 4294967294))) scores score small among in
    sum_fits score.sum value s.1 s.2 fits

-- a score with one more vote

abbrev more : ℤ → Score → Score
more value score = record score { voters = score.voters + 1; sum = score.sum +ℤ value }

raised_from : (doc : ℕ) (value : ℤ) (entries : List (ℕ × Score)) (old : Score) → AreUnderTheirDocuments entries
    → lookup (nat_eq doc) entries ≡ Some old
    → values_of (set_value (nat_eq doc) entries (more value old)) ≡ with_vote_counted doc value (values_of entries)
raised_from doc value [] old keyed there = absurd cc
raised_from doc value ((k, score) ∷ entries) old keyed there =
    go (nat_eq doc k) refl (ap (λ n. nat_eq doc n) (sym (head_is keyed))) there (raised_from doc value entries old (tail_is keyed))
  where
    go : (b : Bool) → nat_eq doc k ≡ b → nat_eq doc score.doc.0 ≡ nat_eq doc k
        → (if nat_eq doc k then Some score else lookup (nat_eq doc) entries) ≡ Some old → (lookup (nat_eq doc) entries ≡ Some old
        → values_of (set_value (nat_eq doc) entries (more value old)) ≡ with_vote_counted doc value (values_of entries))
        → values_of (set_value (nat_eq doc) ((k, score) ∷ entries) (more value old))
        ≡ with_vote_counted doc value (score ∷ values_of entries)
    go true q t there rest =
        let there' = rw q at there in
        let is : old ≡ score = cc in
        rw (q, t, q) (ap (λ s. more value s ∷ values_of entries) is)
    go false q t there rest = let there' = rw q at there in rw (q, t, q) (ap (λ scores. score ∷ scores) (rest there'))

docs_raised : (doc : ℕ) (value : ℤ) (entries : List (ℕ × Score)) (old : Score) → AreUnderTheirDocuments entries
    → lookup (nat_eq doc) entries ≡ Some old → AreUnderTheirDocuments (set_value (nat_eq doc) entries (more value old))
docs_raised doc value [] old keyed there = absurd cc
docs_raised doc value ((k, score) ∷ entries) old keyed there =
    go (nat_eq doc k) refl there (docs_raised doc value entries old (tail_is keyed)) where
      joined : {x y : ℕ} {xs ys : List ℕ} → x ≡ y → xs ≡ ys → x ∷ xs ≡ y ∷ ys
      joined e t = cc

      go : (b : Bool) → nat_eq doc k ≡ b → (if nat_eq doc k then Some score else lookup (nat_eq doc) entries) ≡ Some old
          → (lookup (nat_eq doc) entries ≡ Some old → AreUnderTheirDocuments (set_value (nat_eq doc) entries (more value old)))
          → AreUnderTheirDocuments (set_value (nat_eq doc) ((k, score) ∷ entries) (more value old))
      go true q there rest =
          let there' = rw q at there in
          let is : score ≡ old = cc in
          rw q (joined (head_is keyed ∙ ap (λ (s : Score). s.doc.0) is) (tail_is keyed))
      go false q there rest = let there' = rw q at there in rw q (joined (head_is keyed) (rest there'))

raised_is : (value : ℤ) (old new : Score) → new.doc ≡ old.doc → new.voters ≡ old.voters + 1 → new.sum ≡ old.sum +ℤ value
    → new ≡ more value old
raised_is value old new d v s =
    ap (λ x. record { doc = x; voters = new.voters; sum = new.sum }) d ∙ ap (λ x. record { doc = old.doc; voters = x; sum = new.sum }) v
    ∙ ap (λ x. record { doc = old.doc; voters = old.voters + 1; sum = x }) s

-- the scores of a map in which one was raised
pub raised : (doc : ℕ) (value : ℤ) (entries others : List (ℕ × Score)) (old new : Score) → AreUnderTheirDocuments entries
    → lookup (nat_eq doc) entries ≡ Some old → others ≡ set_value (nat_eq doc) entries new → new.doc ≡ old.doc → new.voters ≡ old.voters + 1
    → new.sum ≡ old.sum +ℤ value → values_of others ≡ with_vote_counted doc value (values_of entries)
raised doc value entries others old new keyed there are d v s =
    ap values_of (are ∙ ap (λ score. set_value (nat_eq doc) entries score) (raised_is value old new d v s))
    ∙ raised_from doc value entries old keyed there

pub raised_keyed : (doc : ℕ) (value : ℤ) (entries others : List (ℕ × Score)) (old new : Score) → AreUnderTheirDocuments entries
    → lookup (nat_eq doc) entries ≡ Some old → others ≡ set_value (nat_eq doc) entries new → new.doc ≡ old.doc → new.voters ≡ old.voters + 1
    → new.sum ≡ old.sum +ℤ value → AreUnderTheirDocuments others
raised_keyed doc value entries others old new keyed there are d v s =
    subst AreUnderTheirDocuments (sym (are ∙ ap (λ score. set_value (nat_eq doc) entries score) (raised_is value old new d v s)))
    (docs_raised doc value entries old keyed there)

-- a new score

abbrev begun : ℕ → ℤ → Score
begun doc value = record { doc = record { 0 = doc }; voters = 1; sum = value }

new_from : (doc : ℕ) (value : ℤ) (entries : List (ℕ × Score)) → AreUnderTheirDocuments entries → lookup (nat_eq doc) entries ≡ None
    → values_of (insert_entry nat_eq entries doc (begun doc value)) ≡ with_vote_counted doc value (values_of entries)
new_from doc value [] keyed none = refl
new_from doc value ((k, score) ∷ entries) keyed none =
    go (nat_eq doc k) refl (ap (λ n. nat_eq doc n) (sym (head_is keyed))) none (new_from doc value entries (tail_is keyed))
  where
    go : (b : Bool) → nat_eq doc k ≡ b → nat_eq doc score.doc.0 ≡ nat_eq doc k
        → (if nat_eq doc k then Some score else lookup (nat_eq doc) entries) ≡ None → (lookup (nat_eq doc) entries ≡ None
        → values_of (insert_entry nat_eq entries doc (begun doc value)) ≡ with_vote_counted doc value (values_of entries))
        → values_of (insert_entry nat_eq ((k, score) ∷ entries) doc (begun doc value))
        ≡ with_vote_counted doc value (score ∷ values_of entries)
    go true q t none rest = let none' = rw q at none in absurd cc
    go false q t none rest = let none' = rw q at none in rw (q, t, q) (ap (λ scores. score ∷ scores) (rest none'))

docs_new : (doc : ℕ) (value : ℤ) (entries : List (ℕ × Score)) → AreUnderTheirDocuments entries → lookup (nat_eq doc) entries ≡ None
    → AreUnderTheirDocuments (insert_entry nat_eq entries doc (begun doc value))
docs_new doc value [] keyed none = refl
docs_new doc value ((k, score) ∷ entries) keyed none = go (nat_eq doc k) refl none (docs_new doc value entries (tail_is keyed)) where
  joined : {x y : ℕ} {xs ys : List ℕ} → x ≡ y → xs ≡ ys → x ∷ xs ≡ y ∷ ys
  joined e t = cc

  go : (b : Bool) → nat_eq doc k ≡ b → (if nat_eq doc k then Some score else lookup (nat_eq doc) entries) ≡ None
      → (lookup (nat_eq doc) entries ≡ None → AreUnderTheirDocuments (insert_entry nat_eq entries doc (begun doc value)))
      → AreUnderTheirDocuments (insert_entry nat_eq ((k, score) ∷ entries) doc (begun doc value))
  go true q none rest = let none' = rw q at none in absurd cc
  go false q none rest = let none' = rw q at none in rw q (joined (head_is keyed) (rest none'))

begun_is : (doc : ℕ) (value : ℤ) (new : Score) → new.doc.0 ≡ doc → new.voters ≡ 1 → new.sum ≡ value → new ≡ begun doc value
begun_is doc value new d v s =
    ap (λ x. record { doc = record { 0 = x }; voters = new.voters; sum = new.sum }) d
    ∙ ap (λ x. record { doc = record { 0 = doc }; voters = x; sum = new.sum }) v
    ∙ ap (λ x. record { doc = record { 0 = doc }; voters = 1; sum = x }) s

-- the scores of a map to which one was added
pub added : (doc : ℕ) (value : ℤ) (entries old others : List (ℕ × Score)) (new : Score) → AreUnderTheirDocuments entries
    → lookup (nat_eq doc) entries ≡ None → old ≡ entries → others ≡ insert_entry nat_eq old doc new → new.doc.0 ≡ doc → new.voters ≡ 1
    → new.sum ≡ value → values_of others ≡ with_vote_counted doc value (values_of entries)
added doc value entries old others new keyed none same are d v s =
    ap values_of (are ∙ ap (λ es. insert_entry nat_eq es doc new) same
    ∙ ap (λ score. insert_entry nat_eq entries doc score) (begun_is doc value new d v s)) ∙ new_from doc value entries keyed none

pub added_keyed : (doc : ℕ) (value : ℤ) (entries old others : List (ℕ × Score)) (new : Score) → AreUnderTheirDocuments entries
    → lookup (nat_eq doc) entries ≡ None → old ≡ entries → others ≡ insert_entry nat_eq old doc new → new.doc.0 ≡ doc → new.voters ≡ 1
    → new.sum ≡ value → AreUnderTheirDocuments others
added_keyed doc value entries old others new keyed none same are d v s =
    subst AreUnderTheirDocuments (sym (are ∙ ap (λ es. insert_entry nat_eq es doc new) same
    ∙ ap (λ score. insert_entry nat_eq entries doc score) (begun_is doc value new d v s))) (docs_new doc value entries keyed none)
