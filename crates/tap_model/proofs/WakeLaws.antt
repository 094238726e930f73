-- The earliest moment at which a run delivers, by the least second that the window query finds.
use Rattle.std.proofs.Common.{◌≡◌, ◌∙◌, sym, ap, refl, subst, arith, ℕ, suc, ◌+◌, ℤ, pos, Bool, true, false, Option, Some, None, List, []}
use Rattle.std.proofs.Common.{◌∷◌, ◌++◌, length, if◌then◌else◌, inl, inr}
use Rattle.std.specs.Prelude.{◌+ℤ◌, ◌≤ℤ◌, ◌<ℤ◌, ◌==◌, ◌||◌, ◌&&◌, int_le, int_lt, nat_lt, not}
use Rattle.std.specs.Option.{option_or, option_map}
use Rattle.std.specs.List.{list_any, filter_map, cons_option}
use Rattle.std.proofs.lemmas.Bool.{cases_Bool}
use Rattle.std.proofs.lemmas.Int.{ints, by_lt_z}
use Rattle.tap_base.specs.Names.{is_name}
use Rattle.tap_base.specs.declared.moments.TheConstants.{LAST_MOMENT}
use Rattle.tap_rows.specs.declared.tables.Tables.{Tables}
use Rattle.tap_rows.specs.declared.rows.Doc.{Doc}
use Rattle.tap_rows.specs.declared.rows.QueryRow.{QueryRow}
use Rattle.tap_rows.specs.declared.rows.RunRow.{RunRow}
use Rattle.tap_rows.specs.declared.results.Hit.{Hit}
use Rattle.tap_rows.specs.WellFormed.{may_follow, is_query_of, query_stands, queries_stand, was_defined, run_stands, runs_stand, docs_stand}
use Rattle.tap_rows.specs.WellFormed.{notes_stand, picks_stand, filters_stand, is_well_formed}
use Rattle.tap_rows.specs.Kept.{In}
use Rattle.tap_rows.specs.Results.{Truth, is_given, first_second, hit_of, at_least, hits_by, last_or, run_moments, covered, fresh_in}
use Rattle.tap_rows.specs.Seconds.{first_from, least_second}
use Rattle.tap_rows.proofs.SecondsLaws.{gap-none, least_second-within, least_second-same, least_second-more, least_second-never}
use Rattle.tap_rows.proofs.SecondsLaws.{least_second-is}
use Rattle.tap_rows.proofs.RunLaws.{Within, fresh-within}
use Rattle.tap_rows.proofs.Tests.{lt_yes, lt_not, le_yes, le_not}
use Rattle.restart_core.specs.Starts.{is_from_now}
use Rattle.time_marks.specs.NextWake.{lesser, lesser_or, greater, least_mark, after_mark, next_wake}
use Rattle.tap_model.specs.Queries.{query_truth, start_of, hits_of}
use Rattle.tap_model.specs.Wakes.{does_deliver, wake_moment}
use Rattle.tap_model.specs.WindowRuns.{WakesAreWindows}
use Rattle.tap_model.proofs.WindowLaws.{order-any, first-part, second-part, run-of-sound}

-- is the hit's second below the moment?
abbrev is_below : ℤ → Hit → Bool
is_below t hit = int_lt hit.first t

abbrev second_below : ℤ → Option ℤ → Bool
second_below t None = false
second_below t (Some f) = int_lt f t

abbrev any_hit : Hit → Bool
any_hit hit = true

-- a test of the hit of a document's second, if it has one
abbrev hit_passes : (Hit → Bool) → Doc → Option ℤ → Bool
hit_passes test doc None = false
hit_passes test doc (Some f) = test (record { doc = doc.num; first = f })

length-any : (hits : List Hit) → nat_lt 0 (length hits) ≡ list_any any_hit hits
length-any [] = refl
length-any (hit ∷ hits) = some (length hits) where
  some : (n : ℕ) → nat_lt 0 (suc n) ≡ true
  some n = grind arith

one-any : (test : Hit → Bool) (doc : Doc) (o : Option ℤ) (hits : List Hit)
    → list_any test (cons_option (hit_of doc o) hits) ≡ (hit_passes test doc o || list_any test hits)
one-any test doc None hits = refl
one-any test doc (Some f) hits = refl

-- some hit passes a test if and only if that of some document does
docs-any : (test : Hit → Bool) (second : Doc → Option ℤ) (docs : List Doc)
    → list_any test (filter_map (λ doc. hit_of doc (second doc)) docs) ≡ list_any (λ doc. hit_passes test doc (second doc)) docs
docs-any test second [] = refl
docs-any test second (doc ∷ docs) =
    one-any test doc (second doc) (filter_map (λ doc. hit_of doc (second doc)) docs)
    ∙ ap (λ b. hit_passes test doc (second doc) || b) (docs-any test second docs)

by-any : (test : Hit → Bool) (second : Doc → Option ℤ) (docs : List Doc)
    → list_any test (hits_by second docs) ≡ list_any (λ doc. hit_passes test doc (second doc)) docs
by-any test second docs = order-any test (filter_map (λ doc. hit_of doc (second doc)) docs) ∙ docs-any test second docs

any-same : (p q : Doc → Bool) (docs : List Doc) → ((doc : Doc) → p doc ≡ q doc) → list_any p docs ≡ list_any q docs
any-same p q [] same = refl
any-same p q (doc ∷ docs) same = rw (same doc, any-same p q docs same) refl

-- the greater of two seconds of which the second isn't above the first
greater-is : (a b : ℤ) → b ≤ℤ a → greater a b ≡ a
greater-is a b le = grind (arith, ints)

-- a second that isn't below the moment
late-hit : (doc : Doc) (from t g : ℤ) → t ≤ℤ g → hit_passes (is_below t) doc (at_least from (Some g)) ≡ false
late-hit doc from t g le = elim (int_le from g) as (λ b. hit_passes (is_below t) doc (if b then Some g else None) ≡ false) [
  | true ↦ lt_not g t le
  | false ↦ refl
]

late-second : (doc : Doc) (from t : ℤ) (o : Option ℤ) → ((g : ℤ) → o ≡ Some g → t ≤ℤ g)
    → hit_passes (is_below t) doc (at_least from o) ≡ false
late-second doc from t None late = refl
late-second doc from t (Some g) late = late-hit doc from t g (late g refl)

early-hit : (doc : Doc) (from t f : ℤ) → f <ℤ t
    → hit_passes any_hit doc (at_least from (Some f)) ≡ hit_passes (is_below t) doc (at_least from (Some f))
early-hit doc from t f lt = elim (int_le from f)
    as (λ b. hit_passes any_hit doc (if b then Some f else None) ≡ hit_passes (is_below t) doc (if b then Some f else None)) [
      | true ↦ sym (lt_yes f t lt)
      | false ↦ refl
    ]

no-seconds : (p : ℤ → Bool) (start t : ℤ) → t ≤ℤ start → least_second p start t ≡ None
no-seconds p start t le = ap (λ n. first_from p n start) (gap-none start t le)

-- a second is found up to a moment if and only if the one that is found up to a later moment is below it
second-same : (p : ℤ → Bool) (doc : Doc) (start from t last : ℤ) → t ≤ℤ last
    → hit_passes any_hit doc (at_least from (least_second p start t))
    ≡ hit_passes (is_below t) doc (at_least from (least_second p start last))
second-same p doc start from t last le =
    by_lt_z t start
    (λ lt. ap (λ o. hit_passes any_hit doc (at_least from o)) (no-seconds p start t (omega (arith, ints, lt)))
    ∙ sym (late-second doc from t (least_second p start last) (λ g e. let w = least_second-within p start last g e in
    omega (arith, ints, lt, w.0))))
    (λ ge. go (least_second p start t) refl
    ∙ sym (ap (λ o. hit_passes (is_below t) doc (at_least from o)) (least_second-more p start t last ge le)))
  where
    go : (o : Option ℤ) → least_second p start t ≡ o → hit_passes any_hit doc (at_least from (least_second p start t))
        ≡ hit_passes (is_below t) doc (at_least from (option_or (least_second p start t) (least_second p t last)))
    go None e = rw e (sym (late-second doc from t (least_second p t last) (λ g e. (least_second-within p t last g e).0)))
    go (Some f) e = rw e (early-hit doc from t f (least_second-within p start t f e).1)

-- a run at a moment delivers if and only if a hit of a later moment is below it
deliver-below : (truth : Truth) (tables : Tables) (start from t last : ℤ) → t ≤ℤ last
    → nat_lt 0 (length (fresh_in truth tables start from t)) ≡ list_any (is_below t) (fresh_in truth tables start from last)
deliver-below truth tables start from t last le =
    length-any (fresh_in truth tables start from t)
    ∙ by-any any_hit (λ doc. at_least from (first_second truth tables doc start t)) tables.docs
    ∙ any-same (λ doc. hit_passes any_hit doc (at_least from (first_second truth tables doc start t)))
    (λ doc. hit_passes (is_below t) doc (at_least from (first_second truth tables doc start last))) tables.docs
    (λ doc. second-same (is_given truth tables doc) doc start from t last le)
    ∙ sym (by-any (is_below t) (λ doc. at_least from (first_second truth tables doc start last)) tables.docs)

-- some hit is below a moment if and only if the least is
less-below : (a b t : ℤ) → (int_lt a t || int_lt b t) ≡ int_lt (lesser a b) t
less-below a b t =
    by_lt_z b a
    (λ lt. rw (le_not a b lt)
    (by_lt_z a t (λ l. rw (lt_yes a t l, lt_yes b t (omega (arith, ints, lt, l))) refl) (λ l. rw (lt_not a t l) refl)))
    (λ ge. rw (le_yes a b ge)
    (by_lt_z a t (λ l. rw (lt_yes a t l) refl) (λ l. rw (lt_not a t l, lt_not b t (omega (arith, ints, ge, l))) refl)))

lesser-below : (a t : ℤ) (o : Option ℤ) → (int_lt a t || second_below t o) ≡ second_below t (lesser_or a o)
lesser-below a t None = elim (int_lt a t) as (λ b. (b || false) ≡ b) [ true ↦ refl | false ↦ refl ]
lesser-below a t (Some b) = less-below a b t

least-below : (t : ℤ) (hits : List Hit) → list_any (is_below t) hits ≡ second_below t (least_mark hits)
least-below t [] = refl
least-below t (hit ∷ hits) = ap (λ b. int_lt hit.first t || b) (least-below t hits) ∙ lesser-below hit.first t (least_mark hits)

some-second : (a b : ℤ) → Some a ≡ Some b → a ≡ b
some-second a b e = cc

none-second : (b : ℤ) → None ≡ Some b → ⊥
none-second b e = cc

lesser-within : (a b high : ℤ) (o : Option ℤ) → a <ℤ high → ((m : ℤ) → o ≡ Some m → m <ℤ high) → lesser_or a o ≡ Some b → b <ℤ high
lesser-within a b high None lt rest e = subst (λ x. x <ℤ high) (some-second a b e) lt
lesser-within a b high (Some m) lt rest e =
    subst (λ x. x <ℤ high) (some-second (lesser a m) b e)
    (elim (int_le a m) as (λ c. (if c then a else m) <ℤ high) [ true ↦ lt | false ↦ rest m refl ])

-- the least mark lies below the end of the window
least-within : (low high : ℤ) (hits : List Hit) (b : ℤ) → Within low high hits → least_mark hits ≡ Some b → b <ℤ high
least-within low high [] b within e = absurd (none-second b e)
least-within low high (hit ∷ hits) b within e =
    lesser-within hit.first b high (least_mark hits) within.1 (λ m is. least-within low high hits m within.2 is) e

-- the least moment from now on that is above a second
after-second : (o : Option ℤ) (now : ℤ) (last : ℕ) → now ≤ℤ pos last → ((b : ℤ) → o ≡ Some b → b <ℤ pos last)
    → option_map (λ b. greater now (after_mark b)) o ≡ least_second (λ t. second_below t o) now (pos (suc last))
after-second None now last le within = sym (least_second-never (λ t. false) now (pos (suc last)) (λ x lo hi. refl))
after-second (Some b) now last le within =
    let high = within b refl in
    sym (by_lt_z b now
    (λ lt. by_lt_z now (b +ℤ pos 1)
    (λ no. absurd (omega (arith, ints, lt, no)))
    (λ ge. later now (greater-is now (b +ℤ pos 1) ge)
    (least_second-is (λ t. int_lt b t) now (pos (suc last)) now (omega (arith, ints)) (omega (arith, ints, le)) (lt_yes b now lt)
    (λ x lo hi. absurd (omega (arith, ints, lo, hi))))))
    (λ ge. later (b +ℤ pos 1) (ap (λ c. if c then b +ℤ pos 1 else now) (le_yes now (b +ℤ pos 1) (omega (arith, ints, ge))))
    (least_second-is (λ t. int_lt b t) now (pos (suc last)) (b +ℤ pos 1) (omega (arith, ints, ge)) (omega (arith, ints, high))
    (lt_yes b (b +ℤ pos 1) (omega (arith, ints))) (λ x lo hi. lt_not b x (omega (arith, ints, hi))))))
  where
    later : (s : ℤ) → greater now (b +ℤ pos 1) ≡ s → least_second (λ t. int_lt b t) now (pos (suc last)) ≡ Some s
        → least_second (λ t. int_lt b t) now (pos (suc last)) ≡ Some (greater now (b +ℤ pos 1))
    later s is found = found ∙ ap Some (sym is)

follow-last : (low m : ℤ) → may_follow low m ≡ true → m ≤ℤ pos LAST_MOMENT
follow-last low m e = grind (arith, ints)

-- the last run of a query isn't after the last moment
runs-last : (queries : List QueryRow) (place : ℕ) (low start : ℤ) (num : ℕ) (runs : List RunRow) → runs_stand queries place low runs ≡ true
    → start ≤ℤ pos LAST_MOMENT → last_or start (run_moments num runs) ≤ℤ pos LAST_MOMENT
runs-last queries place low start num [] stand le = le
runs-last queries place low start num (run ∷ runs) stand le =
    let here = first-part (run_stands queries place low run) (runs_stand queries (place + 1) run.moment runs) stand in
    let rest = second-part (run_stands queries place low run) (runs_stand queries (place + 1) run.moment runs) stand in
    let moment = second-part (run.num == place) (may_follow low run.moment)
    (first-part ((run.num == place) && may_follow low run.moment) (was_defined queries run.query.0 run.moment) here) in
    elim (cases_Bool (run.query.0 == num)) [
      | inl y ↦ rw y (runs-last queries (place + 1) run.moment run.moment num runs rest (follow-last low run.moment moment))
      | inr n ↦ rw n (runs-last queries (place + 1) run.moment start num runs rest le)
    ]

query-last : (low : ℤ) (x : QueryRow) (earlier : List QueryRow) (place : ℕ) → query_stands earlier place low x ≡ true
    → x.arrival ≤ℤ pos LAST_MOMENT
query-last low x earlier place stands =
    let named = first-part ((x.num.0 == place) && may_follow low x.arrival && is_name x.owner && is_name x.name)
    (not (list_any (is_query_of x.owner x.name) earlier)) stands in
    let owned = first-part ((x.num.0 == place) && may_follow low x.arrival && is_name x.owner) (is_name x.name) named in
    let placed = first-part ((x.num.0 == place) && may_follow low x.arrival) (is_name x.owner) owned in
    follow-last low x.arrival (second-part (x.num.0 == place) (may_follow low x.arrival) placed)

queries-last : (earlier : List QueryRow) (place : ℕ) (low : ℤ) (queries : List QueryRow) (query : QueryRow)
    → queries_stand earlier place low queries ≡ true → In query queries → query.arrival ≤ℤ pos LAST_MOMENT
queries-last earlier place low [] query stand has = absurd has
queries-last earlier place low (x ∷ queries) query stand (inl e) =
    let here = first-part (query_stands earlier place low x) (queries_stand (earlier ++ x ∷ []) (place + 1) x.arrival queries) stand in
    subst (λ (q : QueryRow). q.arrival ≤ℤ pos LAST_MOMENT) (sym e) (query-last low x earlier place here)
queries-last earlier place low (x ∷ queries) query stand (inr has) =
    queries-last (earlier ++ x ∷ []) (place + 1) x.arrival queries query
    (second-part (query_stands earlier place low x) (queries_stand (earlier ++ x ∷ []) (place + 1) x.arrival queries) stand) has

start-last : (query : QueryRow) → query.arrival ≤ℤ pos LAST_MOMENT → start_of query ≤ℤ pos LAST_MOMENT
unfolding start_of
start-last query le = elim (is_from_now query.source)
    as (λ b. (if b then query.arrival else pos 0) ≤ℤ pos LAST_MOMENT) [ true ↦ le | false ↦ omega (arith, ints) ]

-- what a query has covered isn't after the last moment
covered-last : (t : Tables) (query : QueryRow) → is_well_formed t ≡ true → In query t.queries
    → covered (start_of query) query.num.0 t.runs ≤ℤ pos LAST_MOMENT
covered-last t query formed has =
    let docs = docs_stand 1 (pos 0) t.docs in
    let notes = notes_stand t.docs 1 (pos 0) t.notes in
    let queries = queries_stand [] 1 (pos 0) t.queries in
    let runs = runs_stand t.queries 1 (pos 0) t.runs in
    let picks = picks_stand t.runs t.docs [] 1 None t.picks in
    let filters = filters_stand 1 (pos 0) t.filters in
    let four =
    first-part (docs && notes && queries && runs) picks (first-part (docs && notes && queries && runs && picks) filters formed) in
    let three = first-part (docs && notes && queries) runs four in
    runs-last t.queries 1 (pos 0) (start_of query) query.num.0 t.runs (second-part (docs && notes && queries) runs four)
    (start-last query (queries-last [] 1 (pos 0) t.queries query (second-part (docs && notes) queries three) has))

pub wakes-are-windows : WakesAreWindows
unfolding wake_moment
wakes-are-windows tables session query now sound has moment =
    let last : ℤ = pos LAST_MOMENT in
    let from = covered (start_of query) query.num.0 tables.runs in
    let hits = hits_of query tables last in
    ap (next_wake now) (run-of-sound tables session query last sound has (covered-last tables query sound.formed has))
    ∙ after-second (least_mark hits) now LAST_MOMENT moment.1 (λ b is.
    least-within (start_of query) last hits b (fresh-within (query_truth query) tables (start_of query) from last) is)
    ∙ sym (least_second-same (does_deliver query tables) (λ t. second_below t (least_mark hits)) now (pos (suc LAST_MOMENT))
    (λ t lo hi. deliver-below (query_truth query) tables (start_of query) from t last (omega (arith, ints, hi)) ∙ least-below t hits))
