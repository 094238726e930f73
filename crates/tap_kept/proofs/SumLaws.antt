-- The sums of rows, and the greatest of their moments.
use Rattle.std.proofs.Common.{◌≡◌, ◌∙◌, sym, ap, refl, arith, ℕ, ◌+◌, ℤ, Option, Some, None, List, [], ◌∷◌, ◌++◌, length, map}
use Rattle.std.proofs.Common.{if◌then◌else◌}
use Rattle.std.specs.Prelude.{int_le, sum_by}
use Rattle.std.proofs.lemmas.Int.{ints}
use Rattle.std.proofs.lemmas.List.Sums.{sum_by-append}
use Rattle.tap_rows.specs.declared.tables.Tables.{Tables}
use Rattle.tap_model.specs.Limits.{stored_bytes}
use Rattle.tap_model.specs.Sessions.{later_of, greatest_of, greatest_moment}
use Rattle.tap_kept.specs.declared.sums.Sums.{Sums}
use Rattle.tap_kept.specs.Starting.{added, summed, sums_of}

bytes-are : {A : Type 0} (moment : A → ℤ) (bytes : A → ℕ) (sums : Sums) (rows : List A)
    → (summed moment bytes sums rows).bytes ≡ sums.bytes + sum_by bytes rows
bytes-are moment bytes sums [] = none sums.bytes where
  none : (n : ℕ) → n ≡ n + 0
  none n = omega arith
bytes-are moment bytes sums (row ∷ rows) = bytes-are moment bytes (added (moment row) (bytes row) sums) rows
    ∙ more sums.bytes (bytes row) (sum_by bytes rows) (sum_by bytes (row ∷ rows)) (sum_by-append bytes (row ∷ []) rows) where
      more : (a b c d : ℕ) → d ≡ 0 + b + c → a + b + c ≡ a + d
      more a b c d e = omega (arith, e)

-- the greatest of a moment and some more
abbrev joined : Option ℤ → Option ℤ → Option ℤ
joined None known = known
joined (Some m) known = Some (later_of m known)

joined-none : (known : Option ℤ) → joined known None ≡ known
joined-none None = refl
joined-none (Some m) = refl

-- the greater of two does not depend on their order
abbrev later : ℤ → ℤ → ℤ
later m n = if int_le n m then m else n

three : (a b c : ℤ) → later (later a b) c ≡ later b (later a c)
three a b c = grind (arith, ints)

two : (a b : ℤ) → later a b ≡ later b a
two a b = grind (arith, ints)

stepped : (m : ℤ) (known rest : Option ℤ) → joined (Some (later_of m known)) rest ≡ joined known (Some (later_of m rest))
stepped m None rest = refl
stepped m (Some n) None = ap Some (two m n)
stepped m (Some n) (Some k) = ap Some (three m n k)

greatest-is : {A : Type 0} (moment : A → ℤ) (bytes : A → ℕ) (sums : Sums) (rows : List A)
    → (summed moment bytes sums rows).greatest ≡ joined sums.greatest (greatest_of (map moment rows))
greatest-is moment bytes sums [] = sym (joined-none sums.greatest)
greatest-is moment bytes sums (row ∷ rows) = greatest-is moment bytes (added (moment row) (bytes row) sums) rows
    ∙ stepped (moment row) sums.greatest (greatest_of (map moment rows))

joined-assoc : (a b c : Option ℤ) → joined (joined a b) c ≡ joined a (joined b c)
joined-assoc None b c = refl
joined-assoc (Some a) None c = refl
joined-assoc (Some a) (Some b) None = refl
joined-assoc (Some a) (Some b) (Some c) = ap Some (assoc a b c) where
  assoc : (a b c : ℤ) → later (later a b) c ≡ later a (later b c)
  assoc a b c = grind (arith, ints)

both-greatest : (xs ys : List ℤ) → greatest_of (xs ++ ys) ≡ joined (greatest_of xs) (greatest_of ys)
both-greatest [] ys = refl
both-greatest (x ∷ xs) ys = ap (λ o. Some (later_of x o)) (both-greatest xs ys)
    ∙ sym (joined-assoc (Some x) (greatest_of xs) (greatest_of ys))

none-stored : {A : Type 0} (rows : List A) → sum_by (λ row. 0) rows ≡ 0
none-stored [] = refl
none-stored (row ∷ rows) = none-stored rows

pub bytes-of : (t : Tables) → (sums_of t).bytes ≡ stored_bytes t
bytes-of t =
    let start : Sums = record { bytes = 0; greatest = None } in
    let docs = summed (λ doc. doc.arrival) (λ doc. length doc.text) start t.docs in
    let notes = summed (λ note. note.arrival) (λ note. length note.text) docs t.notes in
    let queries = summed (λ query. query.arrival) (λ query. length query.source) notes t.queries in
    let runs = summed (λ run. run.moment) (λ run. 0) queries t.runs in
    all _ _ _ _ _ _ _ _ _
    (bytes-are (λ doc. doc.arrival) (λ doc. length doc.text) start t.docs)
    (bytes-are (λ note. note.arrival) (λ note. length note.text) docs t.notes)
    (bytes-are (λ query. query.arrival) (λ query. length query.source) notes t.queries)
    (bytes-are (λ run. run.moment) (λ run. 0) queries t.runs ∙ ap (λ n. queries.bytes + n) (none-stored t.runs))
    (bytes-are (λ filter. filter.arrival) (λ filter. length filter.source) runs t.filters)
  where
    all : (d n q f a b c e g : ℕ) → a ≡ 0 + d → b ≡ a + n → c ≡ b + q → e ≡ c + 0 → g ≡ e + f → g ≡ d + n + q + f
    all d n q f a b c e g is-a is-b is-c is-e is-g = omega (arith, is-a, is-b, is-c, is-e, is-g)

pub greatest-in : (t : Tables) → (sums_of t).greatest ≡ greatest_moment t
greatest-in t =
    let start : Sums = record { bytes = 0; greatest = None } in
    let docs = summed (λ doc. doc.arrival) (λ doc. length doc.text) start t.docs in
    let notes = summed (λ note. note.arrival) (λ note. length note.text) docs t.notes in
    let queries = summed (λ query. query.arrival) (λ query. length query.source) notes t.queries in
    let runs = summed (λ run. run.moment) (λ run. 0) queries t.runs in
    let d = map (λ doc. doc.arrival) t.docs in
    let n = map (λ note. note.arrival) t.notes in
    let q = map (λ query. query.arrival) t.queries in
    let r = map (λ run. run.moment) t.runs in
    let f = map (λ filter. filter.arrival) t.filters in
    greatest-is (λ filter. filter.arrival) (λ filter. length filter.source) runs t.filters
    ∙ ap (λ o. joined o (greatest_of f)) (greatest-is (λ run. run.moment) (λ run. 0) queries t.runs)
    ∙ ap (λ o. joined (joined o (greatest_of r)) (greatest_of f))
    (greatest-is (λ query. query.arrival) (λ query. length query.source) notes t.queries)
    ∙ ap (λ o. joined (joined (joined o (greatest_of q)) (greatest_of r)) (greatest_of f))
    (greatest-is (λ note. note.arrival) (λ note. length note.text) docs t.notes)
    ∙ ap (λ o. joined (joined (joined (joined o (greatest_of n)) (greatest_of q)) (greatest_of r)) (greatest_of f))
    (greatest-is (λ doc. doc.arrival) (λ doc. length doc.text) start t.docs)
    ∙ sym (both-greatest (d ++ n ++ q ++ r) f
    ∙ ap (λ o. joined o (greatest_of f)) (both-greatest (d ++ n ++ q) r
    ∙ ap (λ o. joined o (greatest_of r)) (both-greatest (d ++ n) q
    ∙ ap (λ o. joined o (greatest_of q)) (both-greatest d n))))
