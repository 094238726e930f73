-- Rows whose numbers are the next places go to the end of their tree.
use Rattle.std.proofs.Common.{◌≡◌, ◌+◌, ◌<◌, ◌≤◌, ◌^◌, ℕ, ℤ, pos, negsuc, List, [], ◌∷◌, ◌++◌, nat_lt, map, length, inl, inr, refl, sym, ap}
use Rattle.std.proofs.Common.{subst, ◌∙◌, arith, append_assoc, append-nil, Less, int_cmp, length-append}
use Rattle.std.proofs.lemmas.Int.{ints}
use Rattle.std.proofs.lemmas.Bool.{cases_Bool}
use Rattle.std.proofs.lemmas.List.{map-append, length-map}
use Rattle.std.specs.Prelude.{◌<ℤ◌}
use Rattle.std.specs.List.{AllByRecursion}
use Rattle.sqlite_value.specs.declared.value.Value.TheVariants.{Int}
use Rattle.sqlite_value.specs.Order.{Row, column, value_cmp}
use Rattle.sqlite_value.proofs.OrderLemmas.{value_cmp-Int}
use Rattle.sqlite_trees.specs.Tree.{IsAscending, rowid, put_row}
use Rattle.keeper_sql.specs.RowsAsValues.{number_in_value}
use Rattle.keeper_sql.specs.Store.{Cells, as_row, AreKeyed, put_all}

-- each has its place as its number, from this one on
abbrev pub NumberedBy : {X : Type 0} → (X → ℕ) → ℕ → List X → Type 0
NumberedBy num place [] = Unit {0}
NumberedBy num place (x ∷ xs) = (num x ≡ place) × NumberedBy num (place + 1) xs

abbrev pub key_number : Row → ℕ
key_number r = number_in_value (column r 0)

pub numbered_map : {X : Type 0} (f : Row → X) (num : X → ℕ) (place : ℕ) (rows : List Row) → NumberedBy num place (map f rows)
    → NumberedBy (λ r. num (f r)) place rows
numbered_map f num place [] h = tt
numbered_map f num place (r ∷ rows) h = (h.0, numbered_map f num (place + 1) rows h.1)

numbered_more : (place : ℕ) (rows : List Row) (row : Row) → NumberedBy key_number place rows → key_number row ≡ place + length rows
    → NumberedBy key_number place (rows ++ row ∷ [])
numbered_more place [] row h is = (is ∙ omega arith, tt)
numbered_more place (r ∷ rows) row h is = (h.0, numbered_more (place + 1) rows row h.1 (omega (arith, is)))

key_is : (k : ℤ) (place : ℕ) → 0 < place → number_in_value (Int k) ≡ place → k ≡ pos place
key_is (negsuc n) place low is = absurd (omega (arith, is))
key_is (pos n) place low is = elim (cases_Bool (nat_lt n (2 ^ 32))) [
  | inl fits ↦ ap pos (rw fits at is)
  | inr beyond ↦ let none : 0 ≡ place = rw beyond at is in absurd (omega (arith, none))
]

less_pos : (m n : ℕ) → m < n → int_cmp (pos m) (pos n) ≡ Less
less_pos m n h = grind (arith, ints)

all_more : {X : Type 0} (P : X → Type 0) (xs : List X) (y : X) → AllByRecursion P xs → P y → AllByRecursion P (xs ++ y ∷ [])
all_more P [] y all p = (p, tt)
all_more P (x ∷ xs) y all p = (all.0, all_more P xs y all.1 p)

ascending_more : {X : Type 0} (R : X → X → Type 0) (xs : List X) (y : X) → IsAscending R xs → AllByRecursion (λ x. R x y) xs
    → IsAscending R (xs ++ y ∷ [])
ascending_more R [] y asc all = (tt, tt)
ascending_more R (x ∷ xs) y asc all = (all_more (R x) xs y asc.0 all.0, ascending_more R xs y asc.1 all.1)

-- the keys are below the next place
below : (place bound : ℕ) (xs : List Cells) → 0 < place → NumberedBy key_number place (map as_row xs) → place + length xs ≤ bound
    → AllByRecursion (λ (x : Cells). x.0 <ℤ pos bound) xs
below place bound [] low h fits = tt
below place bound (x ∷ xs) low h fits =
    let key : x.0 ≡ pos place = key_is x.0 place low h.0 in
    let less : x.0 <ℤ pos bound = omega (arith, ints, key, fits) in
    (less, below (place + 1) bound xs (omega arith) h.1 (omega (arith, fits)))

less_cmp : (a b : ℤ) → a <ℤ b → int_cmp a b ≡ Less
less_cmp a b h = grind (arith, ints)

-- a row above all others goes to the end
put_last : (row : Row) (n : ℕ) (xs : List Cells) → rowid row ≡ Int (pos n) → AllByRecursion (λ (x : Cells). x.0 <ℤ pos n) xs
    → put_row row (map as_row xs) ≡ map as_row xs ++ row ∷ []
put_last row n [] key all = refl
put_last row n (x ∷ xs) key all =
    let less : value_cmp (rowid (as_row x)) (rowid row) ≡ Less = ap (value_cmp (Int x.0)) key ∙ value_cmp-Int x.0 (pos n)
    ∙ less_cmp x.0 (pos n) all.0 in
    rw less (ap (λ l. as_row x ∷ l) (put_last row n xs key all.1))

pub append_one : (tree : List Row) (n : ℕ) (rest : Row) → AreKeyed tree → NumberedBy key_number 1 tree → n ≡ length tree + 1
    → (put_row (Int (pos n) ∷ rest) tree ≡ tree ++ (Int (pos n) ∷ rest) ∷ []) × AreKeyed (tree ++ (Int (pos n) ∷ rest) ∷ [])
append_one tree n rest keyed numbered is =
    let xs = keyed.0 in
    let row : Row = Int (pos n) ∷ rest in
    let len : length xs ≡ length tree = sym (length-map xs as_row) ∙ sym (ap length keyed.1) in
    let low = below 1 n xs (omega arith) (subst (NumberedBy key_number 1) keyed.1 numbered) (omega (arith, len, is)) in
    let put : put_row row tree ≡ tree ++ row ∷ [] = ap (put_row row) keyed.1 ∙ put_last row n xs refl low
    ∙ ap (λ l. l ++ row ∷ []) (sym keyed.1) in
    let cell : Cells = (pos n, rest) in
    let more : tree ++ row ∷ [] ≡ map as_row (xs ++ cell ∷ []) = ap (λ l. l ++ row ∷ []) keyed.1 ∙ sym (map-append as_row xs (cell ∷ [])) in
    (put, (xs ++ cell ∷ [], more, ascending_more (λ (a b : Cells). a.0 <ℤ b.0) xs cell keyed.2 low))

pub append_rows : {X : Type 0} (write : X → Row) (num : X → ℕ) (rest : X → Row) → ((x : X) → write x ≡ Int (pos (num x)) ∷ rest x)
    → (tree : List Row) (xs : List X) → AreKeyed tree → NumberedBy key_number 1 tree
    → NumberedBy num (length tree + 1) xs → AllByRecursion (λ x. key_number (write x) ≡ num x) xs
    → (put_all (map write xs) tree ≡ tree ++ map write xs) × AreKeyed (tree ++ map write xs)
append_rows write num rest shape tree [] keyed numbered next back = (sym (append-nil tree), subst AreKeyed (sym (append-nil tree)) keyed)
append_rows write num rest shape tree (x ∷ xs) keyed numbered next back =
    let one = append_one tree (num x) (rest x) keyed numbered next.0 in
    let put : put_row (write x) tree ≡ tree ++ write x ∷ [] = rw (shape x) one.0 in
    let keyed' : AreKeyed (tree ++ write x ∷ []) = rw (shape x) one.1 in
    let key : key_number (write x) ≡ 1 + length tree = back.0 ∙ next.0 ∙ omega arith in
    let numbered' = numbered_more 1 tree (write x) numbered key in
    let len : length (tree ++ write x ∷ []) ≡ length tree + 1 = length-append tree (write x ∷ []) in
    let next' : NumberedBy num (length (tree ++ write x ∷ []) + 1) xs = subst (λ n. NumberedBy num (n + 1) xs) (sym len) next.1 in
    let all = append_rows write num rest shape (tree ++ write x ∷ []) xs keyed' numbered' next' back.1 in (
      ap (put_all (map write xs)) put ∙ all.0
          ∙ append_assoc tree (write x ∷ []) (map write xs),
      subst AreKeyed (append_assoc tree (write x ∷ []) (map write xs)) all.1,
    )

-- what was appended is read behind what was there
pub read_appended : {X : Type 0} (read : Row → X) (tree new rows : List Row) (xs : List X) → new ≡ tree ++ rows → map read rows ≡ xs
    → map read new ≡ map read tree ++ xs
read_appended read tree new rows xs is back = ap (map read) is ∙ map-append read tree rows ∙ ap (λ l. map read tree ++ l) back

-- rows that are read back as they were have their numbers back
pub back_numbers : {X : Type 0} (write : X → Row) (read : Row → X) (num : X → ℕ) → ((r : Row) → num (read r) ≡ key_number r) → (xs : List X)
    → map read (map write xs) ≡ xs → AllByRecursion (λ x. key_number (write x) ≡ num x) xs
back_numbers write read num is [] back = tt
back_numbers write read num is (x ∷ xs) back =
    let head : read (write x) ≡ x = cc in
    let tail : map read (map write xs) ≡ xs = cc in
    (sym (is (write x)) ∙ ap num head, back_numbers write read num is xs tail)
