-- An engine that has started represents its tables, and is ready.
use Rattle.std.proofs.Common.{◌≡◌, ◌∙◌, sym, ap, subst, refl, arith, ℕ, suc, ◌≤◌, ℤ, Bool, true, false, Option, Some, None, List, [], ◌∷◌}
use Rattle.std.proofs.Common.{◌++◌, length, map, append_assoc, if◌then◌else◌, inl, inr}
use Rattle.std.specs.Prelude.{◌⊎◌, ◌≤ℤ◌, int_le, is_some}
use Rattle.std.proofs.lemmas.Int.{ints}
use Rattle.std.proofs.lemmas.List.{append-nil}
use Rattle.tap_base.specs.Words.{has_text, with_new}
use Rattle.tap_rows.specs.declared.tables.Tables.{Tables}
use Rattle.tap_rows.specs.declared.rows.QueryRow.{QueryRow}
use Rattle.std.specs.Option.{option_or, option_map}
use Rattle.std.proofs.lemmas.Option.{none-some}
use Rattle.row_index.specs.Orders.{doc_arrival, note_arrival}
use Rattle.row_index.specs.Rows.{rows_alone}
use Rattle.tap_model.specs.Queries.{start_of}
use Rattle.tap_model.proofs.SoundLaws.{start-moment}
use Rattle.tap_kept.proofs.PlanLaws.{covered-each}
use Rattle.tap_rows.specs.Kept.{Each, QueriesFrom}
use Rattle.tap_rows.proofs.LaterLaws.{each-map}
use Rattle.tap_model.specs.Limits.{stored_bytes, owners_in, different}
use Rattle.tap_model.specs.Sessions.{no_session, later_of, greatest_of, greatest_moment}
use Rattle.vote_scores.specs.Tally.{tally}
use Rattle.tap_engine.specs.declared.engine.Engine.{Engine}
use Rattle.tap_kept.specs.Keeping.{cached_query, with_owner}
use Rattle.tap_kept.specs.BoxFronts.{AreFrontsOfBoxes}
use Rattle.tap_engine.specs.Standing.{Represents}
use Rattle.tap_rows.specs.declared.rows.FilterRow.{FilterRow}
use Rattle.tap_model.specs.Verdicts.{filter_fault}
use Rattle.tap_kept.specs.declared.start_fault.StartFault.{StartFault}
use Rattle.tap_kept.specs.declared.start_fault.StartFault.TheVariants.{Rules, Memory}
use Rattle.tap_engine.specs.Ready.{CachedFrom, RowsBy, IsTime, IsReady}
use Rattle.tap_kept.specs.Starting.{runs_alone, first_unread}
use Rattle.tap_kept.proofs.PlaceLaws.{runs-few}
use Rattle.tap_engine.proofs.OwnerLaws.{users-more, owners-more}
use Rattle.tap_engine.proofs.FormedLaws.{Formed}
use Rattle.tap_base.specs.Numbers.{IsMoment}

-- the different ones of some texts, after those that are there
record HasAllOwners (held all : List (List ℕ)) : Type 0 where
  pub count : length held ≡ different all
  pub same : (text : List ℕ) → has_text held text ≡ has_text all text

with-more : (held xs : List (List ℕ)) (x : List ℕ) → with_new held (x ∷ xs) ≡ with_new (with_owner held x) xs
with-more held xs x = go (has_text held x) where
  go : (b : Bool) → (if b then with_new held xs else with_new (held ++ x ∷ []) xs) ≡ with_new (if b then held else held ++ x ∷ []) xs
  go true = refl
  go false = refl

new-holds : (held all xs : List (List ℕ)) → HasAllOwners held all → HasAllOwners (with_new held xs) (all ++ xs)
new-holds held all [] is = subst (λ l. HasAllOwners held l) (sym (append-nil all)) is
new-holds held all (x ∷ xs) is =
    let none : all ++ [] ≡ all = append-nil all in
    let count : length held ≡ different (all ++ []) = is.count ∙ ap different (sym none) in
    let same : (text : List ℕ)
    → has_text held text ≡ has_text (all ++ []) text = λ text. is.same text ∙ ap (λ l. has_text l text) (sym none) in
    let one : HasAllOwners (with_owner held x) (all ++ x ∷ []) =
    record { count = users-more held all [] x count (same x); same = λ text. owners-more held all [] x text same } in
    let rest = new-holds (with_owner held x) (all ++ x ∷ []) xs one in
    subst (λ l. HasAllOwners l (all ++ x ∷ xs)) (sym (with-more held xs x))
    (subst (λ l. HasAllOwners (with_new (with_owner held x) xs) l) (append_assoc all (x ∷ []) xs) rest)

new-all : (xs : List (List ℕ)) → HasAllOwners (with_new [] xs) xs
new-all xs = new-holds [] [] xs (record { count = refl; same = λ text. refl })

-- an engine made of these parts
pub record IsStarted (e : Engine) (t : Tables) : Type 0 where
  pub session : e.session ≡ no_session
  pub rows : e.index ≡ rows_alone t.docs t.notes
  pub room : length e.index.docs ≤ e.hits.room
  pub fronts : e.hits.fronts ≡ []
  pub queries : e.queries ≡ map (cached_query (runs_alone t.runs t.picks)) t.queries
  pub filters : e.filters ≡ t.filters
  pub votes : e.votes ≡ tally t.notes
  pub run_count : e.run_count ≡ length t.runs
  pub pick_count : e.pick_count ≡ length t.picks
  pub bytes : e.bytes ≡ stored_bytes t
  pub owners : e.owners ≡ with_new [] (owners_in t)
  pub greatest : e.greatest ≡ greatest_moment t

pub represents-start : (e : Engine) (t : Tables) → IsStarted e t → Represents e t
represents-start e t is = record {
  rows = is.rows;
  queries = is.queries;
  filters = is.filters;
  votes = is.votes;
  run_count = is.run_count;
  pick_count = is.pick_count;
  bytes = is.bytes;
  users = ap length is.owners ∙ (new-all (owners_in t)).count;
  owners = λ user. ap (λ l. has_text l user) is.owners ∙ (new-all (owners_in t)).same user;
  greatest = λ none. is.greatest;
}

kept-from : (t : Tables) (k : ℕ) (queries : List QueryRow) → QueriesFrom k queries → Each (λ query. IsMoment query.arrival) queries
    → Each (λ run. IsMoment run.moment) t.runs → CachedFrom k (length t.runs) (map (cached_query t) queries)
kept-from t k [] from moments times = tt
kept-from t k (query ∷ queries) from moments times = (
  from.0,
  runs-few query.num.0 t.runs,
  covered-each IsMoment (start_of query)
      query.num.0 t.runs (start-moment query moments.0) times,
  kept-from t (suc k) queries from.1 moments.1 times,
)

-- no document arrived after the greatest moment
later-self : (m : ℤ) (known : Option ℤ) → m ≤ℤ later_of m known
later-self m None = omega (arith, ints)
later-self m (Some n) = greater m n where
  greater : (m n : ℤ) → m ≤ℤ (if int_le n m then m else n)
  greater m n = grind (arith, ints)

later-known : (m n : ℤ) → n ≤ℤ (if int_le n m then m else n)
later-known m n = grind (arith, ints)

by-later : {A : Type 0} (f : A → ℤ) (m : ℤ) (o : Option ℤ) (rows : List A) → RowsBy f o rows → Each (λ row. f row ≤ℤ later_of m o) rows
by-later f m None rows none = subst (λ l. Each (λ row. f row ≤ℤ m) l) (sym none) tt
by-later f m (Some n) rows each = each-map (λ row. f row ≤ℤ n) (λ row. f row ≤ℤ later_of m (Some n)) rows
    (λ row le. let up = later-known m n in omega (arith, ints, le, up)) each

no-row-by : {A : Type 0} (f : A → ℤ) (o : Option ℤ) → RowsBy f o []
no-row-by f None = refl
no-row-by f (Some m) = tt

by-greatest : {A : Type 0} (f : A → ℤ) (rows : List A) (more : List ℤ) → RowsBy f (greatest_of (map f rows ++ more)) rows
by-greatest f [] more = no-row-by f (greatest_of more)
by-greatest f (row ∷ rows) more = (
  later-self (f row) (greatest_of (map f rows ++ more)),
  by-later f (f row) (greatest_of (map f rows ++ more)) rows (by-greatest f rows more),
)

by-before : {A : Type 0} (f : A → ℤ) (rows : List A) (before more : List ℤ) → RowsBy f (greatest_of (map f rows ++ more)) rows
    → RowsBy f (greatest_of (before ++ (map f rows ++ more))) rows
by-before f rows [] more by = by
by-before f rows (m ∷ before) more by = by-later f m (greatest_of (before ++ (map f rows ++ more))) rows (by-before f rows before more by)

regrouped : (a b c d e : List ℤ) → a ++ (b ++ (c ++ (d ++ e))) ≡ a ++ b ++ c ++ d ++ e
regrouped a b c d e = sym (append_assoc (a ++ b ++ c) d e ∙ append_assoc (a ++ b) c (d ++ e) ∙ append_assoc a b (c ++ (d ++ e)))

all-moments : (t : Tables) → map doc_arrival t.docs ++ (map note_arrival t.notes
    ++ (map (λ query. query.arrival) t.queries ++ (map (λ run. run.moment) t.runs ++ map (λ filter. filter.arrival) t.filters)))
    ≡ map (λ doc. doc.arrival) t.docs ++ map (λ note. note.arrival) t.notes ++ map (λ query. query.arrival) t.queries
    ++ map (λ run. run.moment) t.runs ++ map (λ filter. filter.arrival) t.filters
all-moments t = regrouped (map doc_arrival t.docs) (map note_arrival t.notes) (map (λ query. query.arrival) t.queries)
    (map (λ run. run.moment) t.runs) (map (λ filter. filter.arrival) t.filters)

docs-by : (t : Tables) → RowsBy doc_arrival (greatest_moment t) t.docs
docs-by t = subst (λ all. RowsBy doc_arrival (greatest_of all) t.docs) (all-moments t) (by-greatest doc_arrival t.docs _)

notes-by : (t : Tables) → RowsBy note_arrival (greatest_moment t) t.notes
notes-by t = subst (λ all. RowsBy note_arrival (greatest_of all) t.notes) (all-moments t)
    (by-before note_arrival t.notes (map doc_arrival t.docs) _ (by-greatest note_arrival t.notes _))

by-started : {A : Type 0} (f : A → ℤ) (e : Engine) (t : Tables) (rows : List A) → e.session ≡ no_session → e.greatest ≡ greatest_moment t
    → RowsBy f (greatest_moment t) rows → RowsBy f (option_or e.session.moment e.greatest) rows
by-started f e t rows session greatest by = subst (λ session. RowsBy f (option_or session.moment e.greatest) rows) (sym session)
    (subst (λ known. RowsBy f known rows) (sym greatest) by)

pub ready-start : (e : Engine) (t : Tables) → IsStarted e t → Formed t → IsReady e
ready-start e t is formed = record {
  docs = by-started doc_arrival e t
      e.index.docs is.session is.greatest (subst (λ rows. RowsBy doc_arrival (greatest_moment t) rows.docs) (sym is.rows) (docs-by t));
  notes = by-started note_arrival e t
      e.index.notes is.session is.greatest (subst (λ rows. RowsBy note_arrival (greatest_moment t) rows.notes) (sym is.rows) (notes-by t));
  queries = subst (λ n. CachedFrom 1 n e.queries) (sym is.run_count) (subst (λ queries. CachedFrom 1 (length t.runs) queries)
      (sym is.queries) (kept-from t 1 t.queries formed.queries formed.moments formed.times));
  moment = subst (λ session. IsTime session.moment) (sym is.session) tt;
  room = is.room;
  fronts = subst (AreFrontsOfBoxes e.index.docs e.queries) (sym is.fronts) tt;
}

-- the texts of filters of tables that a session may begin with can be read
pub none-unread : (filters : List FilterRow) → Each (λ filter. filter_fault filter.source ≡ None) filters → first_unread filters ≡ None
none-unread [] each = refl
none-unread (filter ∷ filters) each = ap (λ fault. if is_some fault then Some filter.num else first_unread filters) each.0
    ∙ none-unread filters each.1

none-fault : (fault : StartFault) → None ≡ Some fault → fault ≡ Memory
none-fault fault e = absurd (none-some fault e)

pub only-memory : (filters : List FilterRow) (fault : StartFault) → Each (λ filter. filter_fault filter.source ≡ None) filters
    → (fault ≡ Memory) ⊎ (option_map Rules (first_unread filters) ≡ Some fault) → fault ≡ Memory
only-memory filters fault each (inl memory) = memory
only-memory filters fault each (inr rules) = none-fault fault (sym (ap (option_map Rules) (none-unread filters each)) ∙ rules)
