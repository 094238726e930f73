-- The rows of a change stand in order behind those of well formed tables just where the tables are well formed afterwards.
use Rattle.std.proofs.Common.{◌≡◌, ◌∙◌, sym, refl, subst, arith, ℕ, zero, suc, ◌+◌, ◌-◌, ℤ, pos, Bool, true, false, Option, Some, None}
use Rattle.std.proofs.Common.{List, [], ◌∷◌, ◌++◌, length}
use Rattle.std.specs.Prelude.{◌&&◌, ◌==◌, slice_get, int_le}
use Rattle.std.proofs.lemmas.Bool.{and_parts, and_from, false≢true}
use Rattle.std.proofs.lemmas.List.{append_assoc, append-nil}
use Rattle.tap_rows.specs.declared.tables.Tables.{Tables}
use Rattle.tap_rows.specs.declared.rows.Doc.{Doc}
use Rattle.tap_rows.specs.declared.rows.Note.{Note}
use Rattle.tap_rows.specs.declared.rows.QueryRow.{QueryRow}
use Rattle.tap_rows.specs.declared.rows.RunRow.{RunRow}
use Rattle.tap_rows.specs.declared.rows.Pick.{Pick}
use Rattle.tap_rows.specs.declared.rows.FilterRow.{FilterRow}
use Rattle.tap_rows.specs.declared.change.Change.{Change}
use Rattle.tap_rows.specs.declared.change.Change.TheVariants.{Docs, OneNote, OneQuery, RunDone, OneFilter}
use Rattle.tap_rows.specs.Tables.{after}
use Rattle.tap_rows.specs.WellFormed.{row_at, is_row, doc_stands, docs_stand, note_stands, notes_stand, query_stands, queries_stand}
use Rattle.tap_rows.specs.WellFormed.{run_stands, runs_stand, is_picked, pick_stands, picks_stand, filter_stands, filters_stand}
use Rattle.tap_rows.specs.WellFormed.{is_well_formed}
use Rattle.tap_rows.specs.Fits.{last_row, moment_or_start, low_of, fits}
use Rattle.tap_rows.proofs.Tests.{and_end}

-- what the last of some elements hands on, or the state before if there is none
abbrev last_from : {A S : Type 0} → (A → S) → S → List A → S
last_from next s [] = s
last_from next s (x ∷ xs) = last_from next (next x) xs

abbrev handed : {A S : Type 0} → (A → S) → S → Option A → S
handed next s None = s
handed next s (Some x) = next x

last_row-more : {A : Type 0} (x y : A) (ys : List A) → last_row (x ∷ y ∷ ys) ≡ last_row (y ∷ ys)
last_row-more x y ys = rw (some (suc (length ys)), some (length ys), less (suc (length ys)), less (length ys)) refl where
  some : (n : ℕ) → (suc n == 0) ≡ false
  some n = grind arith

  less : (n : ℕ) → suc n - 1 ≡ n
  less n = omega arith

last_from-is : {A S : Type 0} (next : A → S) (s : S) (xs : List A) → last_from next s xs ≡ handed next s (last_row xs)
last_from-is next s [] = refl
last_from-is next s (x ∷ []) = refl
last_from-is {A = A} next s (x ∷ y ∷ ys) = last_from-is next (next x) (y ∷ ys)
    ∙ sym (same (last_row (x ∷ y ∷ ys)) (last_row (y ∷ ys)) (last_row-more x y ys) (some y ys)) where
      some : {A : Type 0} (y : A) (ys : List A) → (z : A) × (last_row (y ∷ ys) ≡ Some z)
      some y [] = (y, refl)
      some y (z ∷ zs) = let rest = some z zs in (rest.0, last_row-more y z zs ∙ rest.1)

      same : (a b : Option A) → a ≡ b → (z : A) × (b ≡ Some z) → handed next s a ≡ handed next (next x) b
      same a b e z = rw (e, z.1) refl

low-is : {A : Type 0} (moment : A → ℤ) (xs : List A) → last_from moment (pos 0) xs ≡ low_of moment xs
low-is {A = A} moment xs = last_from-is moment (pos 0) xs ∙ plain (last_row xs) where
  plain : (o : Option A) → handed moment (pos 0) o ≡ moment_or_start moment o
  plain None = refl
  plain (Some x) = refl

before-is : {A : Type 0} (xs : List A) → last_from (λ x. Some x) None xs ≡ last_row xs
before-is {A = A} xs = last_from-is (λ x. Some x) None xs ∙ plain (last_row xs) where
  plain : (o : Option A) → handed (λ x. Some x) None o ≡ o
  plain None = refl
  plain (Some x) = refl

and-assoc : (a b c : Bool) → (a && (b && c)) ≡ (a && b && c)
and-assoc true b c = refl
and-assoc false b c = refl

-- rows that are tested one after another, by those before them, their place and what the one before hands on
stand-append : {A S : Type 0} (one : List A → ℕ → S → A → Bool) (next : A → S) (all : List A → ℕ → S → List A → Bool)
    → ((earlier : List A) (place : ℕ) (s : S) → all earlier place s [] ≡ true)
    → ((earlier : List A) (place : ℕ) (s : S) (x : A) (xs : List A)
    → all earlier place s (x ∷ xs) ≡ (one earlier place s x && all (earlier ++ x ∷ []) (place + 1) (next x) xs))
    → (earlier : List A) (place : ℕ) (s : S) (xs ys : List A)
    → all earlier place s (xs ++ ys) ≡ (all earlier place s xs && all (earlier ++ xs) (place + length xs) (last_from next s xs) ys)
stand-append one next all none some earlier place s [] ys = rw (none earlier place s, append-nil earlier, same place) refl where
  same : (n : ℕ) → n + 0 ≡ n
  same n = omega arith
stand-append one next all none some earlier place s (x ∷ xs) ys =
    rw (
      some earlier place s x (xs ++ ys),
      some earlier place s x xs,
      stand-append one next all none some (earlier ++ x ∷ []) (place + 1)
          (next x) xs ys,
      append_assoc earlier (x ∷ []) xs,
      shift place (length xs),
    )
    (and-assoc (one earlier place s x) (all (earlier ++ x ∷ []) (place + 1) (next x) xs)
    (all (earlier ++ x ∷ xs) (place + suc (length xs)) (last_from next (next x) xs) ys)) where
      shift : (n m : ℕ) → n + 1 + m ≡ n + suc m
      shift n m = omega arith

-- a row that is there stays, and so does what is said of it
get-more : {A : Type 0} (xs ys : List A) (i : ℕ) (x : A) → slice_get xs i ≡ Some x → slice_get (xs ++ ys) i ≡ Some x
get-more [] ys i x e = absurd cc
get-more (y ∷ xs) ys zero x e = e
get-more (y ∷ xs) ys (suc i) x e = get-more xs ys i x e

row-more : {A : Type 0} (num : ℕ) (xs ys : List A) (x : A) → row_at num xs ≡ Some x → row_at num (xs ++ ys) ≡ Some x
row-more {A = A} num xs ys x e = go (num == 0) refl where
  go : (b : Bool) → (num == 0) ≡ b → row_at num (xs ++ ys) ≡ Some x
  go true is = absurd (none_some x (rw is at e)) where
    none_some : (x : A) → None ≡ Some x → ⊥
    none_some x e = cc
  go false is = rw is (get-more xs ys (num - 1) x (rw is at e))

is_row-more : {A : Type 0} (test : A → Bool) (num : ℕ) (xs ys : List A) → is_row test (row_at num xs) ≡ true
    → is_row test (row_at num (xs ++ ys)) ≡ true
is_row-more {A = A} test num xs ys holds = go (row_at num xs) refl holds where
  go : (o : Option A) → row_at num xs ≡ o → is_row test o ≡ true → is_row test (row_at num (xs ++ ys)) ≡ true
  go None e h = absurd (false≢true h)
  go (Some x) e h = rw (row-more num xs ys x e) h

notes-more : (docs new : List Doc) (place : ℕ) (low : ℤ) (notes : List Note) → notes_stand docs place low notes ≡ true
    → notes_stand (docs ++ new) place low notes ≡ true
notes-more docs new place low [] holds = refl
notes-more docs new place low (note ∷ notes) holds =
    let parts = and_parts (note_stands docs place low note) (notes_stand docs (place + 1) note.arrival notes) holds in
    let kinds = and_parts _ _ parts.0 in
    let authors = and_parts _ _ kinds.0 in
    let places = and_parts _ _ authors.0 in
    and_from _ _ (and_from _ _ (and_from _ _
    (and_from _ _ places.0 (is_row-more (λ doc. int_le doc.arrival note.arrival) note.doc.0 docs new places.1)) authors.1) kinds.1)
    (notes-more docs new (place + 1) note.arrival notes parts.1)

runs-more : (queries new : List QueryRow) (place : ℕ) (low : ℤ) (runs : List RunRow) → runs_stand queries place low runs ≡ true
    → runs_stand (queries ++ new) place low runs ≡ true
runs-more queries new place low [] holds = refl
runs-more queries new place low (run ∷ runs) holds =
    let parts = and_parts (run_stands queries place low run) (runs_stand queries (place + 1) run.moment runs) holds in
    let this = and_parts _ _ parts.0 in
    and_from _ _ (and_from _ _ this.0 (is_row-more (λ query. int_le query.arrival run.moment) run.query.0 queries new this.1))
    (runs-more queries new (place + 1) run.moment runs parts.1)

picked-more : (pick : Pick) (run run' : Option RunRow) (doc doc' : Option Doc) → ((r : RunRow) → run ≡ Some r → run' ≡ Some r)
    → ((d : Doc) → doc ≡ Some d → doc' ≡ Some d) → is_picked pick run doc ≡ true → is_picked pick run' doc' ≡ true
picked-more pick None run' doc doc' f g holds = absurd (false≢true holds)
picked-more pick (Some r) run' None doc' f g holds = absurd (false≢true holds)
picked-more pick (Some r) run' (Some d) doc' f g holds = rw (f r refl, g d refl) holds

picks-more : (runs more : List RunRow) (docs new : List Doc) (earlier : List Pick) (place : ℕ) (before : Option Pick) (picks : List Pick)
    → picks_stand runs docs earlier place before picks ≡ true → picks_stand (runs ++ more) (docs ++ new) earlier place before picks ≡ true
picks-more runs more docs new earlier place before [] holds = refl
picks-more runs more docs new earlier place before (pick ∷ picks) holds =
    let parts = and_parts (pick_stands runs docs earlier place before pick)
    (picks_stand runs docs (earlier ++ pick ∷ []) (place + 1) (Some pick) picks) holds in
    let orders = and_parts _ _ parts.0 in
    let once = and_parts _ _ orders.0 in
    let this = and_parts _ _ once.0 in
    and_from _ _ (and_from _ _ (and_from _ _
    (and_from _ _ this.0 (picked-more pick (row_at pick.run runs) (row_at pick.run (runs ++ more)) (row_at pick.doc.0 docs)
    (row_at pick.doc.0 (docs ++ new)) (λ r. row-more pick.run runs more r) (λ d. row-more pick.doc.0 docs new d) this.1)) once.1)
    orders.1)
    (picks-more runs more docs new (earlier ++ pick ∷ []) (place + 1) (Some pick) picks parts.1)

-- the parts of what is well formed
record Formed (tables : Tables) : Type 0 where
  pub docs : docs_stand 1 (pos 0) tables.docs ≡ true
  pub notes : notes_stand tables.docs 1 (pos 0) tables.notes ≡ true
  pub queries : queries_stand [] 1 (pos 0) tables.queries ≡ true
  pub runs : runs_stand tables.queries 1 (pos 0) tables.runs ≡ true
  pub picks : picks_stand tables.runs tables.docs [] 1 None tables.picks ≡ true
  pub filters : filters_stand 1 (pos 0) tables.filters ≡ true

formed : (tables : Tables) → is_well_formed tables ≡ true → Formed tables
formed tables holds =
    let f = and_parts _ _ holds in
    let p = and_parts _ _ f.0 in
    let r = and_parts _ _ p.0 in
    let q = and_parts _ _ r.0 in
    let n = and_parts _ _ q.0 in
    record { docs = n.0; notes = n.1; queries = q.1; runs = r.1; picks = p.1; filters = f.1 }

-- of six tests all but one hold, or all but two
six-same : (a b c d e f a' b' c' d' e' f' : Bool) → a ≡ a' → b ≡ b' → c ≡ c' → d ≡ d' → e ≡ e' → f ≡ f'
    → (a && b && c && d && e && f) ≡ (a' && b' && c' && d' && e' && f')
six-same a b c d e f a' b' c' d' e' f' p q r s t u = rw (p, q, r, s, t, u) refl

six-first : (a b c d e f x : Bool) → a ≡ x → b ≡ true → c ≡ true → d ≡ true → e ≡ true → f ≡ true → (a && b && c && d && e && f) ≡ x
six-first a b c d e f x p q r s t u = six-same a b c d e f x true true true true true p q r s t u ∙ only x where
  only : (x : Bool) → (x && true && true && true && true && true) ≡ x
  only true = refl
  only false = refl

six-second : (a b c d e f x : Bool) → a ≡ true → b ≡ x → c ≡ true → d ≡ true → e ≡ true → f ≡ true → (a && b && c && d && e && f) ≡ x
six-second a b c d e f x p q r s t u = six-same a b c d e f true x true true true true p q r s t u ∙ only x where
  only : (x : Bool) → (true && x && true && true && true && true) ≡ x
  only true = refl
  only false = refl

six-third : (a b c d e f x : Bool) → a ≡ true → b ≡ true → c ≡ x → d ≡ true → e ≡ true → f ≡ true → (a && b && c && d && e && f) ≡ x
six-third a b c d e f x p q r s t u = six-same a b c d e f true true x true true true p q r s t u ∙ only x where
  only : (x : Bool) → (true && true && x && true && true && true) ≡ x
  only true = refl
  only false = refl

six-runs : (a b c d e f x y : Bool) → a ≡ true → b ≡ true → c ≡ true → d ≡ x → e ≡ y → f ≡ true → (a && b && c && d && e && f) ≡ (x && y)
six-runs a b c d e f x y p q r s t u = six-same a b c d e f true true true x y true p q r s t u ∙ only x y where
  only : (x y : Bool) → (true && true && true && x && y && true) ≡ (x && y)
  only true true = refl
  only true false = refl
  only false y = refl

six-last : (a b c d e f x : Bool) → a ≡ true → b ≡ true → c ≡ true → d ≡ true → e ≡ true → f ≡ x → (a && b && c && d && e && f) ≡ x
six-last a b c d e f x p q r s t u = six-same a b c d e f true true true true true x p q r s t u

one-more : (n : ℕ) → 1 + n ≡ n + 1
one-more n = omega arith

-- what a list and one row more are, where the list stands
both : (all xs ys : Bool) → all ≡ (xs && ys) → xs ≡ true → all ≡ ys
both all xs ys e h = rw (e, h) refl

docs-fit : (docs new : List Doc) → docs_stand 1 (pos 0) docs ≡ true
    → docs_stand 1 (pos 0) (docs ++ new) ≡ docs_stand (length docs + 1) (low_of (λ doc. doc.arrival) docs) new
docs-fit docs new holds =
    both _ _ _ (stand-append (λ earlier place low doc. doc_stands place low doc) (λ doc. doc.arrival)
    (λ earlier place low rows. docs_stand place low rows) (λ e p s. refl) (λ e p s x xs. refl) [] 1 (pos 0) docs new) holds
    ∙ moved (1 + length docs) (length docs + 1) (last_from (λ doc. doc.arrival) (pos 0) docs) (low_of (λ doc. doc.arrival) docs)
    (one-more (length docs)) (low-is (λ doc. doc.arrival) docs) where
      moved : (p p' : ℕ) (l l' : ℤ) → p ≡ p' → l ≡ l' → docs_stand p l new ≡ docs_stand p' l' new
      moved p p' l l' e f = rw (e, f) refl

note-fits : (docs : List Doc) (notes : List Note) (new : Note) → notes_stand docs 1 (pos 0) notes ≡ true
    → notes_stand docs 1 (pos 0) (notes ++ new ∷ []) ≡ note_stands docs (length notes + 1) (low_of (λ note. note.arrival) notes) new
note-fits docs notes new holds =
    both _ _ _ (stand-append (λ earlier place low note. note_stands docs place low note) (λ note. note.arrival) (λ earlier place low rows.
    notes_stand docs place low rows) (λ e p s. refl) (λ e p s x xs. refl) [] 1 (pos 0) notes (new ∷ [])) holds
    ∙ moved (1 + length notes) (length notes + 1) (last_from (λ note. note.arrival) (pos 0) notes) (low_of (λ note. note.arrival) notes)
    (one-more (length notes)) (low-is (λ note. note.arrival) notes) where
      moved : (p p' : ℕ) (l l' : ℤ) → p ≡ p' → l ≡ l' → notes_stand docs p l (new ∷ []) ≡ note_stands docs p' l' new
      moved p p' l l' e f = rw (e, f) (and_end (note_stands docs p' l' new))

query-fits : (queries : List QueryRow) (new : QueryRow) → queries_stand [] 1 (pos 0) queries ≡ true → queries_stand [] 1 (pos 0)
    (queries ++ new ∷ []) ≡ query_stands queries (length queries + 1) (low_of (λ query. query.arrival) queries) new
query-fits queries new holds =
    both _ _ _ (stand-append query_stands (λ query. query.arrival) queries_stand (λ e p s. refl) (λ e p s x xs. refl) [] 1 (pos 0) queries
    (new ∷ [])) holds
    ∙ moved (1 + length queries) (length queries + 1) (last_from (λ query. query.arrival) (pos 0) queries)
    (low_of (λ query. query.arrival) queries) (one-more (length queries)) (low-is (λ query. query.arrival) queries) where
      moved : (p p' : ℕ) (l l' : ℤ) → p ≡ p' → l ≡ l' → queries_stand queries p l (new ∷ []) ≡ query_stands queries p' l' new
      moved p p' l l' e f = rw (e, f) (and_end (query_stands queries p' l' new))

run-fits : (queries : List QueryRow) (runs : List RunRow) (new : RunRow) → runs_stand queries 1 (pos 0) runs ≡ true
    → runs_stand queries 1 (pos 0) (runs ++ new ∷ []) ≡ run_stands queries (length runs + 1) (low_of (λ run. run.moment) runs) new
run-fits queries runs new holds =
    both _ _ _ (stand-append (λ earlier place low run. run_stands queries place low run) (λ run. run.moment) (λ earlier place low rows.
    runs_stand queries place low rows) (λ e p s. refl) (λ e p s x xs. refl) [] 1 (pos 0) runs (new ∷ [])) holds
    ∙ moved (1 + length runs) (length runs + 1) (last_from (λ run. run.moment) (pos 0) runs) (low_of (λ run. run.moment) runs)
    (one-more (length runs)) (low-is (λ run. run.moment) runs) where
      moved : (p p' : ℕ) (l l' : ℤ) → p ≡ p' → l ≡ l' → runs_stand queries p l (new ∷ []) ≡ run_stands queries p' l' new
      moved p p' l l' e f = rw (e, f) (and_end (run_stands queries p' l' new))

picks-fit : (runs : List RunRow) (docs : List Doc) (picks new : List Pick) → picks_stand runs docs [] 1 None picks ≡ true
    → picks_stand runs docs [] 1 None (picks ++ new) ≡ picks_stand runs docs picks (length picks + 1) (last_row picks) new
picks-fit runs docs picks new holds =
    both _ _ _ (stand-append (pick_stands runs docs) (λ pick. Some pick) (picks_stand runs docs) (λ e p s. refl) (λ e p s x xs. refl) [] 1
    None picks new) holds
    ∙ moved (1 + length picks) (length picks + 1) (last_from (λ pick. Some pick) None picks) (last_row picks) (one-more (length picks))
    (before-is picks) where
      moved : (p p' : ℕ) (l l' : Option Pick) → p ≡ p' → l ≡ l'
          → picks_stand runs docs picks p l new ≡ picks_stand runs docs picks p' l' new
      moved p p' l l' e f = rw (e, f) refl

filter-fits : (filters : List FilterRow) (new : FilterRow) → filters_stand 1 (pos 0) filters ≡ true
    → filters_stand 1 (pos 0) (filters ++ new ∷ []) ≡ filter_stands (length filters + 1) (low_of (λ filter. filter.arrival) filters) new
filter-fits filters new holds =
    both _ _ _ (stand-append (λ earlier place low filter. filter_stands place low filter) (λ filter. filter.arrival)
    (λ earlier place low rows. filters_stand place low rows) (λ e p s. refl) (λ e p s x xs. refl) [] 1 (pos 0) filters (new ∷ [])) holds
    ∙ moved (1 + length filters) (length filters + 1) (last_from (λ filter. filter.arrival) (pos 0) filters)
    (low_of (λ filter. filter.arrival) filters) (one-more (length filters)) (low-is (λ filter. filter.arrival) filters) where
      moved : (p p' : ℕ) (l l' : ℤ) → p ≡ p' → l ≡ l' → filters_stand p l (new ∷ []) ≡ filter_stands p' l' new
      moved p p' l l' e f = rw (e, f) (and_end (filter_stands p' l' new))

-- picks stand over more runs and no more documents
picks-runs : (runs more : List RunRow) (docs : List Doc) (picks : List Pick) → picks_stand runs docs [] 1 None picks ≡ true
    → picks_stand (runs ++ more) docs [] 1 None picks ≡ true
picks-runs runs more docs picks holds = subst (λ all. picks_stand (runs ++ more) all [] 1 None picks ≡ true) (append-nil docs)
    (picks-more runs more docs [] [] 1 None picks holds)

picks-docs : (runs : List RunRow) (docs new : List Doc) (picks : List Pick) → picks_stand runs docs [] 1 None picks ≡ true
    → picks_stand runs (docs ++ new) [] 1 None picks ≡ true
picks-docs runs docs new picks holds = subst (λ all. picks_stand all (docs ++ new) [] 1 None picks ≡ true) (append-nil runs)
    (picks-more runs [] docs new [] 1 None picks holds)

pub fits-is : (tables : Tables) (change : Change) → is_well_formed tables ≡ true → is_well_formed (after tables change) ≡ fits tables change
fits-is tables (Docs docs) holds =
    let f = formed tables holds in
    six-first _ _ _ _ _ _ _ (docs-fit tables.docs docs f.docs) (notes-more tables.docs docs 1 (pos 0) tables.notes f.notes)
    f.queries f.runs (picks-docs tables.runs tables.docs docs tables.picks f.picks) f.filters
fits-is tables (OneNote note) holds =
    let f = formed tables holds in
    six-second _ _ _ _ _ _ _ f.docs (note-fits tables.docs tables.notes note f.notes) f.queries f.runs f.picks f.filters
fits-is tables (OneQuery query) holds =
    let f = formed tables holds in
    six-third _ _ _ _ _ _ _ f.docs f.notes (query-fits tables.queries query f.queries)
    (runs-more tables.queries (query ∷ []) 1 (pos 0) tables.runs f.runs) f.picks f.filters
fits-is tables (RunDone run picks) holds =
    let f = formed tables holds in
    six-runs _ _ _ _ _ _ _ _ f.docs f.notes f.queries (run-fits tables.queries tables.runs run f.runs) (picks-fit (tables.runs ++ run ∷ [])
    tables.docs tables.picks picks (picks-runs tables.runs (run ∷ []) tables.docs tables.picks f.picks)) f.filters
fits-is tables (OneFilter filter) holds =
    let f = formed tables holds in
    six-last _ _ _ _ _ _ _ f.docs f.notes f.queries f.runs f.picks (filter-fits tables.filters filter f.filters)
