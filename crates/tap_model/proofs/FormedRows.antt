-- What well formed tables say of their rows.
use Rattle.std.proofs.Common.{◌≡◌, ◌∙◌, sym, refl, ap, subst, arith, ℕ, zero, suc, ◌+◌, ◌-◌, ◌≤◌, ◌<◌, ℤ, pos, Bool, true, false, Option}
use Rattle.std.proofs.Common.{Some, None, List, [], ◌∷◌, ◌++◌, length, inl, inr}
use Rattle.std.specs.Prelude.{◌==◌, ◌⊎◌, ◌≤ℤ◌, nat_le, int_le, slice_get}
use Rattle.std.proofs.lemmas.Bool.{and_parts, cases_Bool, false≢true, eqb-true}
use Rattle.std.proofs.lemmas.Int.{ints}
use Rattle.std.proofs.lemmas.Option.{none-some, same_Some}
use Rattle.tap_base.specs.declared.moments.TheConstants.{LAST_MOMENT}
use Rattle.tap_rows.specs.declared.tables.Tables.{Tables}
use Rattle.tap_rows.specs.declared.rows.Doc.{Doc}
use Rattle.tap_rows.specs.declared.rows.QueryRow.{QueryRow}
use Rattle.tap_rows.specs.declared.rows.RunRow.{RunRow}
use Rattle.tap_rows.specs.declared.rows.Pick.{Pick}
use Rattle.tap_rows.specs.Arrivals.{Arrived}
use Rattle.tap_rows.specs.Kept.{Each, In, HasRun, RunsFrom, QueriesFrom, Rising}
use Rattle.tap_rows.specs.Results.{run_moments}
use Rattle.tap_rows.specs.WellFormed.{may_follow, row_at, is_row, doc_stands, docs_stand, query_stands, queries_stand, was_defined}
use Rattle.tap_rows.specs.WellFormed.{run_stands, runs_stand, is_picked, pick_stands, picks_stand, is_well_formed}
use Rattle.tap_base.specs.Numbers.{IsMoment}

pub at-most : (a b : ℕ) → nat_le a b ≡ true → a ≤ b
at-most a b e = grind arith

-- what a moment that may follow says
pub follows : (low m : ℤ) → may_follow low m ≡ true → (low ≤ℤ m) × (m ≤ℤ pos LAST_MOMENT)
follows low m e =
    let parts = and_parts (int_le low m) (int_le m (pos LAST_MOMENT)) e in
    (omega (arith, ints, parts.0), omega (arith, ints, parts.1))

next : (n : ℕ) → n + 1 ≡ suc n
next n = omega arith

docs-arrived : (place : ℕ) (low : ℤ) (docs : List Doc) → docs_stand place low docs ≡ true → Arrived place low docs
docs-arrived place low [] e = tt
docs-arrived place low (doc ∷ docs) e =
    let both = and_parts (doc_stands place low doc) (docs_stand (place + 1) doc.arrival docs) e in
    let this = and_parts _ _ both.0 in
    let here = and_parts _ _ this.0 in (
      (follows low doc.arrival here.1).0,
      eqb-true doc.num.0 place here.0,
      subst (λ n. Arrived n doc.arrival docs) (next place) (docs-arrived (place + 1) doc.arrival docs both.1),
    )

-- the row of a number is one of that many
row-within : {A : Type 0} (xs : List A) (i : ℕ) (x : A) → slice_get xs i ≡ Some x → i < length xs
row-within [] i x e = absurd cc
row-within (y ∷ xs) zero x e = omega arith
row-within (y ∷ xs) (suc i) x e = let rest = row-within xs i x e in omega (arith, rest)

some-is : (n : ℕ) → (suc n == 0) ≡ false
some-is n = grind arith

pub one-of : {A : Type 0} (test : A → Bool) (num : ℕ) (xs : List A) → is_row test (row_at num xs) ≡ true → (1 ≤ num) × (num ≤ length xs)
one-of {A = A} test zero xs e = absurd (false≢true e)
one-of {A = A} test (suc n) xs e = let some = some-is n in go (slice_get xs (suc n - 1)) refl (rw some at e) where
  go : (o : Option A) → slice_get xs (suc n - 1) ≡ o → is_row test o ≡ true → (1 ≤ suc n) × (suc n ≤ length xs)
  go None at h = absurd (false≢true h)
  go (Some x) at h = let within = row-within xs (suc n - 1) x at in (omega arith, omega (arith, within))

not-below : (low m : ℤ) → pos 0 ≤ℤ low → low ≤ℤ m → pos 0 ≤ℤ m
not-below low m from le = omega (arith, ints, from, le)

queries-from : (earlier : List QueryRow) (place : ℕ) (low : ℤ) (queries : List QueryRow) → pos 0 ≤ℤ low
    → queries_stand earlier place low queries ≡ true → QueriesFrom place queries × Each (λ query. IsMoment query.arrival) queries
queries-from earlier place low [] from e = (tt, tt)
queries-from earlier place low (query ∷ queries) from e =
    let both =
    and_parts (query_stands earlier place low query) (queries_stand (earlier ++ query ∷ []) (place + 1) query.arrival queries) e in
    let once = and_parts _ _ both.0 in
    let name = and_parts _ _ once.0 in
    let owner = and_parts _ _ name.0 in
    let here = and_parts _ _ owner.0 in
    let moment = follows low query.arrival here.1 in
    let above = not-below low query.arrival from moment.0 in
    let rest = queries-from (earlier ++ query ∷ []) (place + 1) query.arrival queries above both.1 in
    ((eqb-true query.num.0 place here.0, subst (λ n. QueriesFrom n queries) (next place) rest.0), ((above, moment.1), rest.1))

runs-from : (queries : List QueryRow) (place : ℕ) (low : ℤ) (runs : List RunRow) → pos 0 ≤ℤ low → runs_stand queries place low runs ≡ true
    → RunsFrom place runs × Each (λ run. (1 ≤ run.query.0) × (run.query.0 ≤ length queries)) runs × Each (λ run. IsMoment run.moment) runs
runs-from queries place low [] from e = (tt, tt, tt)
runs-from queries place low (run ∷ runs) from e =
    let both = and_parts (run_stands queries place low run) (runs_stand queries (place + 1) run.moment runs) e in
    let this = and_parts _ _ both.0 in
    let here = and_parts _ _ this.0 in
    let moment = follows low run.moment here.1 in
    let above : pos 0 ≤ℤ run.moment = omega (arith, ints, moment.0, from) in
    let rest = runs-from queries (place + 1) run.moment runs above both.1 in (
      (eqb-true run.num place here.0, subst (λ n. RunsFrom n runs) (next place) rest.0),
      (one-of (λ query. int_le query.arrival run.moment) run.query.0 queries this.1, rest.1),
      ((above, moment.1), rest.2),
    )

-- the run at a place is there
has-at : (k i : ℕ) (runs : List RunRow) (run : RunRow) (query : ℕ) → RunsFrom k runs → slice_get runs i ≡ Some run → run.query.0 ≡ query
    → HasRun (k + i) query runs
has-at k i [] run query from e of = absurd (none-some run e)
has-at k zero (x ∷ runs) run query from e of = let same = same_Some x run e in inl (omega (arith, from.0), ap (λ r. r.query.0) same ∙ of)
has-at k (suc i) (x ∷ runs) run query from e of =
    inr (subst (λ n. HasRun n query runs) (shift k i) (has-at (suc k) i runs run query from.1 e of)) where
      shift : (k i : ℕ) → suc k + i ≡ k + suc i
      shift k i = omega arith

row-has : (num query : ℕ) (runs : List RunRow) (run : RunRow) → RunsFrom 1 runs → row_at num runs ≡ Some run → run.query.0 ≡ query
    → HasRun num query runs
row-has zero query runs run from e of = absurd (none-some run e)
row-has (suc n) query runs run from e of =
    let some = some-is n in
    subst (λ n. HasRun n query runs) (place n) (has-at 1 (suc n - 1) runs run query from (rw some at e) of) where
      place : (n : ℕ) → 1 + (suc n - 1) ≡ suc n
      place n = omega arith

pick-has : (pick : Pick) (runs : List RunRow) (run : Option RunRow) (doc : Option Doc) → RunsFrom 1 runs → row_at pick.run runs ≡ run
    → is_picked pick run doc ≡ true → HasRun pick.run pick.query.0 runs
pick-has pick runs None doc from e holds = absurd (false≢true holds)
pick-has pick runs (Some run) None from e holds = absurd (false≢true holds)
pick-has pick runs (Some run) (Some doc) from e holds =
    let this = and_parts _ _ holds in
    let here = and_parts _ _ this.0 in
    row-has pick.run pick.query.0 runs run from e (eqb-true run.query.0 pick.query.0 here.0)

picks-have : (runs : List RunRow) (docs : List Doc) (earlier : List Pick) (place : ℕ) (before : Option Pick) (picks : List Pick)
    → RunsFrom 1 runs → picks_stand runs docs earlier place before picks ≡ true → Each (λ pick. HasRun pick.run pick.query.0 runs) picks
picks-have runs docs earlier place before [] from e = tt
picks-have runs docs earlier place before (pick ∷ picks) from e =
    let both = and_parts (pick_stands runs docs earlier place before pick)
    (picks_stand runs docs (earlier ++ pick ∷ []) (place + 1) (Some pick) picks) e in
    let order = and_parts _ _ both.0 in
    let once = and_parts _ _ order.0 in
    let this = and_parts _ _ once.0 in (
      pick-has pick runs (row_at pick.run runs) (row_at pick.doc.0 docs) from refl this.1,
      picks-have runs docs (earlier ++ pick ∷ []) (place + 1) (Some pick) picks from both.1,
    )

-- the numbers go up from the first one on
above : (k : ℕ) (queries : List QueryRow) (query : QueryRow) → QueriesFrom k queries → In query queries → k ≤ query.num.0
above k [] query from has = absurd has
above k (x ∷ queries) query from (inl e) = let num = ap (λ (q : QueryRow). q.num.0) e in omega (arith, num, from.0)
above k (x ∷ queries) query from (inr has) = let up = above (suc k) queries query from.1 has in omega (arith, up)

-- the query of a number is at its place
at-place : (k i : ℕ) (queries : List QueryRow) (query : QueryRow) → QueriesFrom k queries → In query queries → query.num.0 ≡ k + i
    → slice_get queries i ≡ Some query
at-place k i [] query from has is = absurd has
at-place k zero (x ∷ queries) query from (inl e) is = ap Some (sym e)
at-place k (suc i) (x ∷ queries) query from (inl e) is =
    let num = ap (λ (q : QueryRow). q.num.0) e in
    absurd (omega (arith, num, is, from.0))
at-place k zero (x ∷ queries) query from (inr has) is = let up = above (suc k) queries query from.1 has in absurd (omega (arith, is, up))
at-place k (suc i) (x ∷ queries) query from (inr has) is = at-place (suc k) i queries query from.1 has (omega (arith, is))

query-at : (num : ℕ) (queries : List QueryRow) (query : QueryRow) → QueriesFrom 1 queries → In query queries → query.num.0 ≡ num
    → row_at num queries ≡ Some query
query-at zero queries query from has is = let up = above 1 queries query from has in absurd (omega (arith, up, is))
query-at (suc n) queries query from has is =
    let some = some-is n in
    rw some (at-place 1 (suc n - 1) queries query from has (omega (arith, is)))

-- a run of a query was made after the query had arrived
ran-late : (queries : List QueryRow) (query : QueryRow) (run : RunRow) → QueriesFrom 1 queries → In query queries
    → (run.query.0 == query.num.0) ≡ true → was_defined queries run.query.0 run.moment ≡ true → query.arrival ≤ℤ run.moment
ran-late queries query run from has same defined =
    let test : QueryRow → Bool = λ query. int_le query.arrival run.moment in
    up-to query.arrival run.moment
    (sym (ap (is_row test) (query-at run.query.0 queries query from has (sym (eqb-true run.query.0 query.num.0 same)))) ∙ defined) where
      up-to : (a b : ℤ) → int_le a b ≡ true → a ≤ℤ b
      up-to a b e = grind (arith, ints)

-- the runs of a query never fall from a second on that isn't after its arrival, or not after an earlier run
runs-rising : (queries : List QueryRow) (query : QueryRow) (place : ℕ) (low start : ℤ) (runs : List RunRow) → QueriesFrom 1 queries
    → In query queries → (start ≤ℤ query.arrival) ⊎ (start ≤ℤ low) → runs_stand queries place low runs ≡ true
    → Rising start (run_moments query.num.0 runs)
runs-rising queries query place low start [] from has begins e = tt
runs-rising queries query place low start (run ∷ runs) from has begins e =
    let both = and_parts (run_stands queries place low run) (runs_stand queries (place + 1) run.moment runs) e in
    let this = and_parts _ _ both.0 in
    let here = and_parts _ _ this.0 in
    let after = (follows low run.moment here.1).0 in
    elim (cases_Bool (run.query.0 == query.num.0)) [
      | inl y ↦ rw y (
        late start low query.arrival run.moment begins after (ran-late queries query run from has y this.1),
        runs-rising queries query (place + 1) run.moment run.moment runs from has (inr (same run.moment)) both.1,
      )
      | inr n ↦ rw n (runs-rising queries query (place + 1) run.moment start runs from has
          (next-low start low query.arrival run.moment begins after) both.1)
    ]
  where
    same : (m : ℤ) → m ≤ℤ m
    same m = omega (arith, ints)

    late : (start low arrival m : ℤ) → (start ≤ℤ arrival) ⊎ (start ≤ℤ low) → low ≤ℤ m → arrival ≤ℤ m → start ≤ℤ m
    late start low arrival m (inl a) after defined = omega (arith, ints, a, defined)
    late start low arrival m (inr l) after defined = omega (arith, ints, l, after)

    next-low : (start low arrival m : ℤ) → (start ≤ℤ arrival) ⊎ (start ≤ℤ low) → low ≤ℤ m → (start ≤ℤ arrival) ⊎ (start ≤ℤ m)
    next-low start low arrival m (inl a) after = inl a
    next-low start low arrival m (inr l) after = inr (omega (arith, ints, l, after))

-- what well formed tables say of their documents, queries, runs and picks
pub record Placed (tables : Tables) : Type 0 where
  pub docs : Arrived 1 (pos 0) tables.docs
  pub queries : QueriesFrom 1 tables.queries
  pub arrivals : Each (λ query. IsMoment query.arrival) tables.queries
  pub runs : RunsFrom 1 tables.runs
  pub owned : Each (λ run. (1 ≤ run.query.0) × (run.query.0 ≤ length tables.queries)) tables.runs
  pub times : Each (λ run. IsMoment run.moment) tables.runs
  pub picks : Each (λ pick. HasRun pick.run pick.query.0 tables.runs) tables.picks
  pub rising : (query : QueryRow) (start : ℤ) → In query tables.queries → start ≤ℤ query.arrival
      → Rising start (run_moments query.num.0 tables.runs)

pub placed : (tables : Tables) → is_well_formed tables ≡ true → Placed tables
placed tables holds =
    let f = and_parts _ _ holds in
    let p = and_parts _ _ f.0 in
    let r = and_parts _ _ p.0 in
    let q = and_parts _ _ r.0 in
    let n = and_parts _ _ q.0 in
    let first : pos 0 ≤ℤ pos 0 = omega (arith, ints) in
    let queries = queries-from [] 1 (pos 0) tables.queries first q.1 in
    let runs = runs-from tables.queries 1 (pos 0) tables.runs first r.1 in
    record {
      docs = docs-arrived 1 (pos 0) tables.docs n.0;
      queries = queries.0;
      arrivals = queries.1;
      runs = runs.0;
      owned = runs.1;
      times = runs.2;
      picks = picks-have tables.runs tables.docs [] 1 None tables.picks runs.0 p.1;
      rising = λ query start has le. runs-rising tables.queries query 1 (pos 0) start tables.runs queries.0 has (inl le) r.1;
    }
