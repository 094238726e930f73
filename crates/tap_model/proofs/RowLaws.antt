-- Rows at their places, and what holds of each of some rows.
use Rattle.std.proofs.Common.{◌≡◌, ◌∙◌, sym, ap, refl, subst, arith, ℕ, zero, suc, ◌+◌, ◌-◌, ◌≤◌, ◌<◌, ℤ, pos, Bool, true, false, Option}
use Rattle.std.proofs.Common.{Some, None, List, [], ◌∷◌, ◌++◌, length, map, inl, inr, if◌then◌else◌}
use Rattle.std.specs.Prelude.{◌==◌, ◌≤ℤ◌, slice_get, filter}
use Rattle.std.specs.List.{list_any}
use Rattle.tap_rows.specs.declared.rows.Doc.{Doc}
use Rattle.tap_rows.specs.declared.rows.QueryRow.{QueryRow}
use Rattle.tap_rows.specs.Arrivals.{Arrived}
use Rattle.tap_rows.specs.WellFormed.{row_at, is_row}
use Rattle.tap_rows.specs.Fits.{last_row, moment_or_start, low_of}
use Rattle.tap_rows.specs.Kept.{Each, In, QueriesFrom}

no-some : {A : Type 0} (x : A) → None ≡ Some x → ⊥
no-some x e = cc

pub some-same : {A : Type 0} (x y : A) → Some x ≡ Some y → x ≡ y
some-same x y e = cc

-- what holds of all that are there
pub each-in : {A : Type 0} (P : A → Type 0) (xs : List A) → ((x : A) → In x xs → P x) → Each P xs
each-in P [] all = tt
each-in P (x ∷ xs) all = (all x (inl refl), each-in P xs (λ y has. all y (inr has)))

pub in-each : {A : Type 0} (P : A → Type 0) (xs : List A) (x : A) → In x xs → Each P xs → P x
in-each P [] x has each = absurd has
in-each P (y ∷ xs) x (inl e) each = subst P (sym e) each.0
in-each P (y ∷ xs) x (inr has) each = in-each P xs x has each.1

pub each-get : {A : Type 0} (P : A → Type 0) (xs : List A) (i : ℕ) (x : A) → Each P xs → slice_get xs i ≡ Some x → P x
each-get P [] i x each e = absurd (no-some x e)
each-get P (y ∷ xs) zero x each e = subst P (some-same y x e) each.0
each-get P (y ∷ xs) (suc i) x each e = each-get P xs i x each.1 e

pub each-row : {A : Type 0} (P : A → Type 0) (xs : List A) (num : ℕ) (x : A) → Each P xs → row_at num xs ≡ Some x → P x
each-row {A = A} P xs num x each e = go (num == 0) refl where
  go : (b : Bool) → (num == 0) ≡ b → P x
  go true is = absurd (no-some x (rw is at e))
  go false is = each-get P xs (num - 1) x each (rw is at e)

-- of those that pass a test, and of what they are mapped to
pub each-filter : {A : Type 0} (P : A → Type 0) (test : A → Bool) (xs : List A) → Each P xs → Each P (filter test xs)
each-filter P test [] each = tt
each-filter P test (x ∷ xs) each = elim (test x) as (λ b. Each P (if b then x ∷ filter test xs else filter test xs)) [
  | true ↦ (each.0, each-filter P test xs each.1)
  | false ↦ each-filter P test xs each.1
]

pub each-passed : {A : Type 0} (P : A → Type 0) (test : A → Bool) (xs : List A) → Each P (filter test xs)
    → Each (λ x. test x ≡ true → P x) xs
each-passed P test [] each = tt
each-passed {A = A} P test (x ∷ xs) each = go (test x) refl (each-passed P test xs) each where
  not-both : false ≡ true → ⊥
  not-both e = cc

  go : (b : Bool) → test x ≡ b → (Each P (filter test xs) → Each (λ x. test x ≡ true → P x) xs)
      → Each P (if b then x ∷ filter test xs else filter test xs) → Each (λ x. test x ≡ true → P x) (x ∷ xs)
  go true e rest all = ((λ h. all.0), rest all.1)
  go false e rest all = ((λ h. absurd (not-both (sym e ∙ h))), rest all)

pub each-mapped : {A B : Type 0} (P : B → Type 0) (f : A → B) (xs : List A) → Each (λ x. P (f x)) xs → Each P (map f xs)
each-mapped P f [] each = tt
each-mapped P f (x ∷ xs) each = (each.0, each-mapped P f xs each.1)

pub each-unmapped : {A B : Type 0} (P : B → Type 0) (f : A → B) (xs : List A) → Each P (map f xs) → Each (λ x. P (f x)) xs
each-unmapped P f [] each = tt
each-unmapped P f (x ∷ xs) each = (each.0, each-unmapped P f xs each.1)

-- none passes a test
pub none-any : {A : Type 0} (test : A → Bool) (xs : List A) → Each (λ x. test x ≡ false) xs → list_any test xs ≡ false
none-any test [] each = refl
none-any test (x ∷ xs) each = rw each.0 (none-any test xs each.1)

-- the last of some rows is of no later moment than all of them
pub low-by : {A : Type 0} (moment : A → ℤ) (m : ℤ) (xs : List A) → pos 0 ≤ℤ m → Each (λ x. moment x ≤ℤ m) xs → low_of moment xs ≤ℤ m
low-by {A = A} moment m xs positive each = go (last_row xs) refl where
  go : (o : Option A) → last_row xs ≡ o → moment_or_start moment o ≤ℤ m
  go None is = positive
  go (Some x) is = each-row (λ x. moment x ≤ℤ m) xs (length xs) x each is

-- rows that have their places as numbers, from this one on
abbrev pub Placed : {A : Type 0} → (A → ℕ) → ℕ → List A → Type 0
Placed num k [] = Unit {0}
Placed num k (x ∷ xs) = (num x ≡ k) × Placed num (suc k) xs

pub docs-placed : (k : ℕ) (low : ℤ) (docs : List Doc) → Arrived k low docs → Placed (λ doc. doc.num.0) k docs
docs-placed k low [] arrived = tt
docs-placed k low (doc ∷ docs) arrived = (arrived.1, docs-placed (suc k) doc.arrival docs arrived.2)

pub queries-placed : (k : ℕ) (queries : List QueryRow) → QueriesFrom k queries → Placed (λ query. query.num.0) k queries
queries-placed k [] from = tt
queries-placed k (query ∷ queries) from = (from.0, queries-placed (suc k) queries from.1)

-- a row that is there stands at its number
placed-get : {A : Type 0} (num : A → ℕ) (k : ℕ) (xs : List A) (x : A) → Placed num k xs → In x xs
    → (k ≤ num x) × (slice_get xs (num x - k) ≡ Some x)
placed-get num k [] x placed has = absurd has
placed-get num k (y ∷ xs) x placed (inl e) =
    let is : num x ≡ k = ap num e ∙ placed.0 in
    (omega (arith, is), at (num x - k) (omega (arith, is)) ∙ ap Some (sym e)) where
      at : (i : ℕ) → i ≡ 0 → slice_get (y ∷ xs) i ≡ Some y
      at i z = rw z refl
placed-get num k (y ∷ xs) x placed (inr has) =
    let rest = placed-get num (suc k) xs x placed.1 has in
    (omega (arith, rest.0), at (num x - k) (num x - suc k) (omega (arith, rest.0)) ∙ rest.1) where
      at : (i j : ℕ) → i ≡ suc j → slice_get (y ∷ xs) i ≡ slice_get xs j
      at i j e = rw e refl

pub placed-row : {A : Type 0} (num : A → ℕ) (xs : List A) (x : A) → Placed num 1 xs → In x xs → row_at (num x) xs ≡ Some x
placed-row num xs x placed has =
    let there = placed-get num 1 xs x placed has in
    let some : (num x == 0) ≡ false = not-zero (num x) there.0 in
    rw some there.1
  where
    not-zero : (n : ℕ) → 1 ≤ n → (n == 0) ≡ false
    not-zero n le = grind arith

-- two rows that are there and have one number are one
pub placed-same : {A : Type 0} (num : A → ℕ) (xs : List A) (x y : A) → Placed num 1 xs → In x xs → In y xs → num x ≡ num y → x ≡ y
placed-same num xs x y placed has has' same =
    some-same x y (sym (placed-row num xs x placed has) ∙ ap (λ n. row_at n xs) same ∙ placed-row num xs y placed has')

pub placed-from : {A : Type 0} (num : A → ℕ) (k : ℕ) (xs : List A) → Placed num k xs → Each (λ x. k ≤ num x) xs
placed-from num k [] placed = tt
placed-from {A = A} num k (x ∷ xs) placed = (omega (arith, placed.0), weaker k xs (placed-from num (suc k) xs placed.1)) where
  weaker : (k : ℕ) (xs : List A) → Each (λ x. suc k ≤ num x) xs → Each (λ x. k ≤ num x) xs
  weaker k [] each = tt
  weaker k (x ∷ xs) each = (omega (arith, each.0), weaker k xs each.1)

-- a number within the rows has a row, and what holds of all holds of it
pub row-within : {A : Type 0} (test : A → Bool) (xs : List A) (num : ℕ) → 1 ≤ num → num ≤ length xs → Each (λ x. test x ≡ true) xs
    → is_row test (row_at num xs) ≡ true
row-within {A = A} test xs num from to each =
    let some : (num == 0) ≡ false = not-zero num from in
    rw some (get test xs (num - 1) (omega (arith, from, to)) each)
  where
    not-zero : (n : ℕ) → 1 ≤ n → (n == 0) ≡ false
    not-zero n le = grind arith

    get : (test : A → Bool) (xs : List A) (i : ℕ) → i < length xs → Each (λ x. test x ≡ true) xs → is_row test (slice_get xs i) ≡ true
    get test [] i lt each = absurd (omega (arith, lt))
    get test (x ∷ xs) zero lt each = each.0
    get test (x ∷ xs) (suc i) lt each = get test xs i (omega (arith, lt)) each.1

-- the row that is added stands last
pub row-last : {A : Type 0} (xs : List A) (x : A) → row_at (length xs + 1) (xs ++ x ∷ []) ≡ Some x
row-last xs x = rw (some (length xs), back (length xs)) (get xs x) where
  some : (n : ℕ) → (n + 1 == 0) ≡ false
  some n = grind arith

  back : (n : ℕ) → n + 1 - 1 ≡ n
  back n = omega arith

  get : {A : Type 0} (xs : List A) (x : A) → slice_get (xs ++ x ∷ []) (length xs) ≡ Some x
  get [] x = refl
  get (y ∷ xs) x = get xs x
