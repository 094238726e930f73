-- A run by the window query delivers what is fresh.
use Rattle.std.proofs.Common.{◌≡◌, ◌∙◌, sym, ap, refl, subst, arith, ℕ, suc, ◌+◌, ◌≤◌, ◌<◌, ℤ, pos, Bool, true, false, Option, Some, None}
use Rattle.std.proofs.Common.{List, [], ◌∷◌, ◌++◌, length, map, inl, inr, if◌then◌else◌, nat_eq, Result, Ok, Err}
use Rattle.std.specs.Prelude.{◌==◌, ◌||◌, ◌&&◌, not, ◌≤ℤ◌, ◌<ℤ◌, int_le, filter, is_some}
use Rattle.std.specs.List.{list_any, filter_map, cons_option}
use Rattle.std.proofs.lemmas.Bool.{cases_Bool, or_left, or_right, or_cases}
use Rattle.std.proofs.lemmas.Int.{ints, by_lt_z}
use Rattle.std.proofs.lemmas.List.Folds.{list_any-append}
use Rattle.tap_rows.specs.declared.tables.Tables.{Tables}
use Rattle.tap_rows.specs.declared.rows.Doc.{Doc}
use Rattle.tap_rows.specs.declared.rows.QueryRow.{QueryRow}
use Rattle.tap_rows.specs.declared.results.Entry.{Entry}
use Rattle.tap_rows.specs.declared.results.Hit.{Hit}
use Rattle.tap_base.specs.Names.{is_name}
use Rattle.tap_rows.specs.Arrivals.{Arrived}
use Rattle.tap_rows.specs.WellFormed.{may_follow, is_query_of, query_stands, queries_stand, docs_stand, notes_stand, runs_stand}
use Rattle.tap_rows.specs.WellFormed.{picks_stand, filters_stand, is_well_formed}
use Rattle.tap_rows.specs.Kept.{In, Rising, IsKeptQuery}
use Rattle.tap_rows.specs.Results.{Truth, is_given, first_second, hit_of, at_least, hits_by, put_in, is_before, hits_in_order, run_of}
use Rattle.tap_rows.specs.Results.{entry_at, entries_of, entries_from, last_or, run_moments, covered, union_until, fresh_in}
use Rattle.tap_rows.specs.Deliveries.{delivered}
use Rattle.tap_rows.proofs.SecondsLaws.{least_second-within, least_second-same}
use Rattle.tap_rows.proofs.RunLaws.{rising-le, Within, fresh-within}
use Rattle.tap_rows.proofs.Tests.{agree, nat_itself, lt_yes, lt_not, le_yes}
use Rattle.tap_rows.proofs.LaterLaws.{each-in}
use Rattle.tql_core.proofs.OfTheSecond.{of-the-second}
use Rattle.tql_core.specs.Condition.{Condition}
use Rattle.tql_core.specs.Scope.{IsQuery}
use Rattle.tql_core.specs.Holds as Holds
use Rattle.tql_types.proofs.ScopeLaws.{typed-is-query}
use Rattle.tql_types.specs.declared.fault.TypeFault.{TypeFault}
use Rattle.tql_types.specs.Core.{typed}
use Rattle.tql_lex.specs.declared.fault.LexFault.{LexFault}
use Rattle.tql_lex.specs.declared.token.Token.{Token}
use Rattle.tql_lex.specs.Tokens.{lexed}
use Rattle.tql_tree.specs.Syntax.{Syntax}
use Rattle.tql_parse.specs.declared.fault.ParseFault.{ParseFault}
use Rattle.tql_parse.specs.Reading.{query_at}
use Rattle.tql_text.specs.Texts.{of_typing, of_tree, of_tokens}
use Rattle.time_marks.specs.declared.window.Window.{Window}
use Rattle.time_marks.specs.Probes.{Probe, meaning_without, least}
use Rattle.tap_model.proofs.FormLaws.{form_is_union}
use Rattle.restart_core.specs.Starts.{is_from_now, condition_text}
use Rattle.tap_model.specs.Queries.{or_never, condition_in, condition_by, query_truth, start_of, probes_of_query, hits_of}
use Rattle.tap_model.specs.WindowRuns.{is_delivered, asked_rows, found_since, was_given, UnseenIsFresh, RunsAreWindows}

-- is the hit of this document?
abbrev is_of : ℕ → Hit → Bool
is_of doc hit = nat_eq doc hit.doc.0

abbrev is_entry_of : ℕ → Entry → Bool
is_entry_of doc entry = nat_eq doc entry.doc.0

-- the entries of a run are of hits
run-hits : (doc run : ℕ) (ms : List ℤ) (hits : List Hit)
    → list_any (is_entry_of doc) (map (entry_at run) (filter (λ hit. run_of hit.first ms == run) hits)) ≡ true
    → list_any (is_of doc) hits ≡ true
run-hits doc run ms [] e = e
run-hits doc run ms (hit ∷ hits) e = elim (cases_Bool (run_of hit.first ms == run)) [
  | inl y ↦ elim (or_cases (nat_eq doc hit.doc.0)
      (list_any (is_entry_of doc) (map (entry_at run) (filter (λ hit. run_of hit.first ms == run) hits))) (rw y at e)) [
        | inl here ↦ or_left (nat_eq doc hit.doc.0) (list_any (is_of doc) hits) here
        | inr later ↦ or_right (nat_eq doc hit.doc.0) (list_any (is_of doc) hits) (run-hits doc run ms hits later)
      ]
  | inr n ↦ or_right (nat_eq doc hit.doc.0) (list_any (is_of doc) hits) (run-hits doc run ms hits (rw n at e))
]

-- and so are all entries
box-hits : (doc run : ℕ) (mm ms : List ℤ) (hits : List Hit) → list_any (is_entry_of doc) (entries_from mm hits run ms) ≡ true
    → list_any (is_of doc) hits ≡ true
box-hits doc run mm [] hits e = absurd cc
box-hits doc run mm (m ∷ ms) hits e =
    elim (or_cases (list_any (is_entry_of doc) (entries_of mm hits run)) (list_any (is_entry_of doc) (entries_from mm hits (run + 1) ms))
    (sym (list_any-append (is_entry_of doc) (entries_of mm hits run) (entries_from mm hits (run + 1) ms)) ∙ e)) [
      | inl here ↦ run-hits doc run mm hits here
      | inr later ↦ box-hits doc (run + 1) mm ms hits later
    ]

-- a second below the last run belongs to a run that there was
run-there : (low f : ℤ) (ms : List ℤ) → Rising low ms → low ≤ℤ f → f <ℤ last_or low ms → (1 ≤ run_of f ms) × (run_of f ms ≤ length ms)
run-there low f [] rising from below = absurd (omega (arith, ints))
run-there low f (m ∷ ms) rising from below =
    by_lt_z f m
    (λ lt. rw (lt_yes f m lt) (omega arith, omega arith))
    (λ ge. let rest = run-there m f ms rising.1 ge below in rw (lt_not f m ge) (omega (arith, rest.0), omega (arith, rest.1)))

same : (a : ℕ) → (a == a) ≡ true
same a = grind arith

-- a hit of this run and document is among the run's entries
hit-in-run : (doc run : ℕ) (ms : List ℤ) (hits : List Hit) (hit : Hit) → In hit hits → is_of doc hit ≡ true → run_of hit.first ms ≡ run
    → list_any (is_entry_of doc) (map (entry_at run) (filter (λ hit. run_of hit.first ms == run) hits)) ≡ true
hit-in-run doc run ms [] hit has is at = absurd has
hit-in-run doc run ms (x ∷ hits) hit (inl e) is at =
    let yes : (run_of x.first ms == run) ≡ true = ap (λ (h : Hit). run_of h.first ms == run) (sym e) ∙ ap (λ k. k == run) at ∙ same run in
    rw yes (or_left (nat_eq doc x.doc.0) (list_any (is_entry_of doc) (map (entry_at run) (filter (λ hit. run_of hit.first ms == run) hits)))
    (ap (is_of doc) (sym e) ∙ is))
hit-in-run doc run ms (x ∷ hits) hit (inr has) is at = elim (cases_Bool (run_of x.first ms == run)) [
  | inl y ↦
      rw y
      (or_right (nat_eq doc x.doc.0) (list_any (is_entry_of doc) (map (entry_at run) (filter (λ hit. run_of hit.first ms == run) hits)))
      (hit-in-run doc run ms hits hit has is at))
  | inr n ↦ rw n (hit-in-run doc run ms hits hit has is at)
]

-- and so among all entries
hit-in-box : (doc k : ℕ) (mm ms : List ℤ) (hits : List Hit) (hit : Hit) → In hit hits → is_of doc hit ≡ true → k ≤ run_of hit.first mm
    → run_of hit.first mm < k + length ms → list_any (is_entry_of doc) (entries_from mm hits k ms) ≡ true
hit-in-box doc k mm [] hits hit has is from below = absurd (omega arith)
hit-in-box doc k mm (m ∷ ms) hits hit has is from below = elim (cases_Bool (run_of hit.first mm == k)) [
  | inl y ↦ list_any-append (is_entry_of doc) (entries_of mm hits k) (entries_from mm hits (k + 1) ms)
      ∙ or_left (list_any (is_entry_of doc) (entries_of mm hits k)) (list_any (is_entry_of doc) (entries_from mm hits (k + 1) ms))
      (hit-in-run doc k mm hits hit has is (equal (run_of hit.first mm) k y))
  | inr n ↦ list_any-append (is_entry_of doc) (entries_of mm hits k) (entries_from mm hits (k + 1) ms)
      ∙ or_right (list_any (is_entry_of doc) (entries_of mm hits k)) (list_any (is_entry_of doc) (entries_from mm hits (k + 1) ms))
      (hit-in-box doc (k + 1) mm ms hits hit has is (next (run_of hit.first mm) k n from) (fewer (run_of hit.first mm) k (length ms) below))
]
  where
    equal : (a b : ℕ) → (a == b) ≡ true → a ≡ b
    equal a b e = grind arith

    next : (a b : ℕ) → (a == b) ≡ false → b ≤ a → b + 1 ≤ a
    next a b e le = grind arith

    fewer : (a b n : ℕ) → a < b + suc n → a < b + 1 + n
    fewer a b n lt = omega arith

-- a hit that a test finds
pub record Hits (test : Hit → Bool) (hits : List Hit) : Type 0 where
  pub hit : Hit
  pub has : In hit hits
  pub passes : test hit ≡ true

any-hit : (test : Hit → Bool) (hits : List Hit) → list_any test hits ≡ true → Hits test hits
any-hit test [] e = absurd cc
any-hit test (hit ∷ hits) e = elim (or_cases (test hit) (list_any test hits) e) [
  | inl here ↦ record { hit = hit; has = inl refl; passes = here }
  | inr later ↦ let rest = any-hit test hits later in record { hit = rest.hit; has = inr rest.has; passes = rest.passes }
]

-- a hit among hits of a window is of its seconds
in-window : (low high : ℤ) (hits : List Hit) (hit : Hit) → Within low high hits → In hit hits → (low ≤ℤ hit.first) × (hit.first <ℤ high)
in-window low high [] hit within has = absurd has
in-window low high (x ∷ hits) hit within (inl e) = subst (λ (h : Hit). (low ≤ℤ h.first) × (h.first <ℤ high)) (sym e) (within.0, within.1)
in-window low high (x ∷ hits) hit within (inr has) = in-window low high hits hit within.2 has

-- a box has just the documents of its hits
box-docs : (doc : ℕ) (low : ℤ) (ms : List ℤ) (hits : List Hit) → Rising low ms → Within low (last_or low ms) hits
    → list_any (is_entry_of doc) (entries_from ms hits 1 ms) ≡ list_any (is_of doc) hits
box-docs doc low ms hits rising within =
    agree (list_any (is_entry_of doc) (entries_from ms hits 1 ms)) (list_any (is_of doc) hits)
    (box-hits doc 1 ms ms hits)
    (λ e.
    let one = any-hit (is_of doc) hits e in
    let at = in-window low (last_or low ms) hits one.hit within one.has in
    let run = run-there low one.hit.first ms rising at.0 at.1 in
    hit-in-box doc 1 ms ms hits one.hit one.has one.passes run.0 (omega (arith, run.1)))

pub or-swap : (a b c : Bool) → (a || (b || c)) ≡ (b || (a || c))
or-swap true true c = refl
or-swap true false c = refl
or-swap false true c = refl
or-swap false false c = refl

-- the order doesn't matter
put-any : (test : Hit → Bool) (hit : Hit) (hits : List Hit) → list_any test (put_in hit hits) ≡ (test hit || list_any test hits)
put-any test hit [] = refl
put-any test hit (other ∷ hits) = elim (cases_Bool (is_before hit other)) [
  | inl y ↦ rw y refl
  | inr n ↦ rw n (ap (λ b. test other || b) (put-any test hit hits) ∙ or-swap (test other) (test hit) (list_any test hits))
]

pub order-any : (test : Hit → Bool) (hits : List Hit) → list_any test (hits_in_order hits) ≡ list_any test hits
order-any test [] = refl
order-any test (hit ∷ hits) = put-any test hit (hits_in_order hits) ∙ ap (λ b. test hit || b) (order-any test hits)

nat-less : (n k : ℕ) → n < k → nat_eq n k ≡ false
nat-less n k lt = grind arith

nat-more : (n k : ℕ) → k < n → nat_eq n k ≡ false
nat-more n k lt = grind arith

-- the hit of another document
other-hit : (doc : ℕ) (d : Doc) (o : Option ℤ) (hits : List Hit) → nat_eq doc d.num.0 ≡ false
    → list_any (is_of doc) (cons_option (hit_of d o) hits) ≡ list_any (is_of doc) hits
other-hit doc d None hits n = refl
other-hit doc d (Some f) hits n = rw n refl

-- documents of greater numbers have no hit of this one
none-later : (second : Doc → Option ℤ) (doc num : ℕ) (low : ℤ) (docs : List Doc) → Arrived num low docs → doc < num
    → list_any (is_of doc) (filter_map (λ d. hit_of d (second d)) docs) ≡ false
none-later second doc num low [] arrived lt = refl
none-later second doc num low (d ∷ docs) arrived lt =
    other-hit doc d (second d) (filter_map (λ d. hit_of d (second d)) docs) (nat-less doc d.num.0 (omega (arith, arrived.1, lt)))
    ∙ none-later second doc (suc num) d.arrival docs arrived.2 (omega (arith, lt))

own-hit : (d : Doc) (o : Option ℤ) (hits : List Hit) → list_any (is_of d.num.0) hits ≡ false
    → list_any (is_of d.num.0) (cons_option (hit_of d o) hits) ≡ is_some o
own-hit d None hits none = none
own-hit d (Some f) hits none = rw (nat_itself d.num.0) refl

num-from : (num : ℕ) (low : ℤ) (docs : List Doc) (d : Doc) → Arrived num low docs → In d docs → num ≤ d.num.0
num-from num low [] d arrived has = absurd has
num-from num low (x ∷ docs) d arrived (inl e) = omega (arith, ap (λ (y : Doc). y.num.0) e, arrived.1)
num-from num low (x ∷ docs) d arrived (inr has) = let rest = num-from (suc num) x.arrival docs d arrived.2 has in omega (arith, rest)

-- a document has a hit just where it has a second
doc-hit : (second : Doc → Option ℤ) (num : ℕ) (low : ℤ) (docs : List Doc) (d : Doc) → Arrived num low docs → In d docs
    → list_any (is_of d.num.0) (filter_map (λ d. hit_of d (second d)) docs) ≡ is_some (second d)
doc-hit second num low [] d arrived has = absurd has
doc-hit second num low (x ∷ docs) d arrived (inl e) =
    subst (λ (y : Doc). list_any (is_of y.num.0) (cons_option (hit_of x (second x)) (filter_map (λ d. hit_of d (second d)) docs))
    ≡ is_some (second y)) (sym e)
    (own-hit x (second x) (filter_map (λ d. hit_of d (second d)) docs)
    (none-later second x.num.0 (suc num) x.arrival docs arrived.2 (omega (arith, arrived.1))))
doc-hit second num low (x ∷ docs) d arrived (inr has) =
    let from = num-from (suc num) x.arrival docs d arrived.2 has in
    other-hit d.num.0 x (second x) (filter_map (λ d. hit_of d (second d)) docs) (nat-more d.num.0 x.num.0 (omega (arith, arrived.1, from)))
    ∙ doc-hit second (suc num) x.arrival docs d arrived.2 has

-- a first second is not below the start
from-start : (truth : Truth) (tables : Tables) (d : Doc) (start t : ℤ)
    → is_some (at_least start (first_second truth tables d start t)) ≡ is_some (first_second truth tables d start t)
from-start truth tables d start t = go (first_second truth tables d start t) refl where
  go : (o : Option ℤ) → first_second truth tables d start t ≡ o → is_some (at_least start o) ≡ is_some o
  go None e = refl
  go (Some f) e = rw (le_yes start f (least_second-within (is_given truth tables d) start t f e).0) refl

-- what was delivered are the documents that were given before the last run
delivered-before : (truth : QueryRow → Truth) (start : QueryRow → ℤ) (tables : Tables) (query : QueryRow) (d : Doc)
    → IsKeptQuery truth start tables query → Arrived 1 (pos 0) tables.docs → In d tables.docs
    → is_delivered (delivered query.num.0 tables) d
    ≡ is_some (first_second (truth query) tables d (start query) (covered (start query) query.num.0 tables.runs))
delivered-before truth start tables query d kept arrived has =
    let last = covered (start query) query.num.0 tables.runs in
    let second : Doc → Option ℤ = λ doc. at_least (start query) (first_second (truth query) tables doc (start query) last) in
    ap (λ entries. list_any (is_entry_of d.num.0) entries) kept.box
    ∙ box-docs d.num.0 (start query) (run_moments query.num.0 tables.runs) (union_until (truth query) tables (start query) last)
    kept.rising (fresh-within (truth query) tables (start query) (start query) last)
    ∙ order-any (is_of d.num.0) (filter_map (λ doc. hit_of doc (second doc)) tables.docs)
    ∙ doc-hit second 1 (pos 0) tables.docs d arrived has
    ∙ from-start (truth query) tables d (start query) last

-- rows that a condition doesn't look at
same-first : (c : Condition) (t : Tables) (d : Doc) (start until : ℤ)
    → first_second (Holds.truth_of c) (asked_rows t) d start until ≡ first_second (Holds.truth_of c) t d start until
same-first c t d start until =
    least_second-same (is_given (Holds.truth_of c) (asked_rows t) d) (is_given (Holds.truth_of c) t d) start until
    (λ s lo hi. ap (λ b. int_le d.arrival s && b) (of-the-second c t (asked_rows t) d s refl refl))

filter_map-same : (f g : Doc → Option Hit) (docs : List Doc) → ((doc : Doc) → f doc ≡ g doc) → filter_map f docs ≡ filter_map g docs
filter_map-same f g [] same = refl
filter_map-same f g (doc ∷ docs) same = rw (same doc, filter_map-same f g docs same) refl

same-fresh : (c : Condition) (t : Tables) (start tau until : ℤ)
    → fresh_in (Holds.truth_of c) (asked_rows t) start tau until ≡ fresh_in (Holds.truth_of c) t start tau until
same-fresh c t start tau until =
    ap hits_in_order (filter_map-same (λ doc. hit_of doc (at_least tau (first_second (Holds.truth_of c) (asked_rows t) doc start until)))
    (λ doc. hit_of doc (at_least tau (first_second (Holds.truth_of c) t doc start until))) t.docs
    (λ doc. ap (λ o. hit_of doc (at_least tau o)) (same-first c t doc start until)))

filter-in : (p q : Doc → Bool) (docs : List Doc) → ((d : Doc) → In d docs → p d ≡ q d)
    → filter (λ d. not (p d)) docs ≡ filter (λ d. not (q d)) docs
filter-in p q [] same = refl
filter-in p q (d ∷ docs) same = rw (same d (inl refl), filter-in p q docs (λ x has. same x (inr has))) refl

-- what the window query gives without some documents, for two tests that say the same of each
same-without : (p q : Doc → Bool) (X : List Probe) (t : Tables) (w : Window) → ((d : Doc) → In d t.docs → p d ≡ q d)
    → meaning_without p X t w ≡ meaning_without q X t w
same-without p q X t w same = ap (hits_by (λ d. least X t d w)) (filter-in p q t.docs same)

pub from-zero : (num : ℕ) (low : ℤ) (docs : List Doc) → pos 0 ≤ℤ low → Arrived num low docs → (d : Doc) → In d docs → pos 0 ≤ℤ d.arrival
from-zero num low [] positive arrived d has = absurd has
from-zero num low (x ∷ docs) positive arrived d (inl e) =
    subst (λ (y : Doc). pos 0 ≤ℤ y.arrival) (sym e) (omega (arith, ints, positive, arrived.0))
from-zero num low (x ∷ docs) positive arrived d (inr has) =
    from-zero (suc num) x.arrival docs (omega (arith, ints, positive, arrived.0)) arrived.2 d has

-- a condition of a text is a query's
typing-query : (typing : Result Condition TypeFault) (syntax : Syntax) → typed syntax ≡ typing → IsQuery (or_never (of_typing typing))
typing-query (Err fault) syntax is = tt
typing-query (Ok c) syntax is = typed-is-query syntax c is

tree-query : (tree : Result Syntax ParseFault) → IsQuery (or_never (of_tree tree))
tree-query (Err fault) = tt
tree-query (Ok syntax) = typing-query (typed syntax) syntax refl

tokens-query : (tokens : Result (List Token) LexFault) → IsQuery (or_never (of_tokens tokens))
tokens-query (Err fault) = tt
tokens-query (Ok tokens) = tree-query (query_at 32 tokens)

pub is-query : (text : List ℕ) → IsQuery (condition_in text)
unfolding condition_in
is-query text = tokens-query (lexed text)

pub first-part : (a b : Bool) → (a && b) ≡ true → a ≡ true
first-part true b e = refl
first-part false b e = e

pub second-part : (a b : Bool) → (a && b) ≡ true → b ≡ true
second-part true b e = e
second-part false b e = absurd cc

follow-le : (low m : ℤ) → may_follow low m ≡ true → low ≤ℤ m
follow-le low m e = grind (arith, ints)

not-early : (low : ℤ) (x : QueryRow) (earlier : List QueryRow) (place : ℕ) → query_stands earlier place low x ≡ true → pos 0 ≤ℤ low
    → pos 0 ≤ℤ x.arrival
not-early low x earlier place stands le =
    let named = first-part ((x.num.0 == place) && may_follow low x.arrival && is_name x.owner && is_name x.name)
    (not (list_any (is_query_of x.owner x.name) earlier)) stands in
    let owned = first-part ((x.num.0 == place) && may_follow low x.arrival && is_name x.owner) (is_name x.name) named in
    let placed = first-part ((x.num.0 == place) && may_follow low x.arrival) (is_name x.owner) owned in
    omega (arith, ints, le, follow-le low x.arrival (second-part (x.num.0 == place) (may_follow low x.arrival) placed))

start-positive : (query : QueryRow) → pos 0 ≤ℤ query.arrival → pos 0 ≤ℤ start_of query
unfolding start_of
start-positive query le =
    elim (is_from_now query.source) as (λ b. pos 0 ≤ℤ (if b then query.arrival else pos 0)) [ true ↦ le | false ↦ omega (arith, ints) ]

-- no document was given before the start
none-before : (query : QueryRow) (tables : Tables) (d : Doc) → false ≡ was_given query tables (start_of query) d
none-before query tables d = go (first_second (query_truth query) tables d (start_of query) (start_of query)) refl where
  go : (o : Option ℤ) → first_second (query_truth query) tables d (start_of query) (start_of query) ≡ o → false ≡ is_some o
  go None e = refl
  go (Some f) e =
      let at = least_second-within (is_given (query_truth query) tables d) (start_of query) (start_of query) f e in
      absurd (omega (arith, ints, at.0, at.1))

pub unseen-is-fresh : UnseenIsFresh
unseen-is-fresh query tables positive zero =
    let union = form_is_union (condition_by query) (start_of query) (is-query (condition_text query.source)) positive in
    let unseen : (seen : Doc → Bool) (from until : ℤ) → start_of query ≤ℤ from → from ≤ℤ until
    → ((doc : Doc) → In doc tables.docs → seen doc ≡ was_given query tables from doc)
    → meaning_without seen (probes_of_query query) tables (record { low = from; high = until })
    ≡ fresh_in (query_truth query) tables (start_of query) from until
    = λ seen from until late le same.
    same-without seen (was_given query tables from) (probes_of_query query) tables (record { low = from; high = until }) same
    ∙ union.since tables from until zero late le in
    record {
      unseen = unseen;
      first = λ until le. unseen (λ _. false) (start_of query) until (omega (arith, ints)) le (λ d has. none-before query tables d);
    }

pub run-is-window : (tables : Tables) (query : QueryRow) (moment : ℤ) → IsKeptQuery query_truth start_of tables query
    → Arrived 1 (pos 0) tables.docs → pos 0 ≤ℤ start_of query
    → covered (start_of query) query.num.0 tables.runs ≤ℤ moment → found_since query tables moment ≡ hits_of query tables moment
run-is-window tables query moment kept arrived positive le =
    let start = start_of query in
    let c = condition_by query in
    let last = covered start query.num.0 tables.runs in
    let w : Window = record { low = last; high = moment } in
    let rows = asked_rows tables in
    same-without (is_delivered (delivered query.num.0 tables)) (λ d. is_some (first_second (Holds.truth_of c) rows d start last))
    (probes_of_query query) rows w
    (λ d has. delivered-before query_truth start_of tables query d kept arrived has ∙ ap is_some (sym (same-first c tables d start last)))
    ∙ (form_is_union c start (is-query (condition_text query.source)) positive).since rows last moment
    (from-zero 1 (pos 0) tables.docs (omega (arith, ints)) arrived) (rising-le start (run_moments query.num.0 tables.runs) kept.rising) le
    ∙ same-fresh c tables start last moment

queries-late : (earlier : List QueryRow) (place : ℕ) (low : ℤ) (queries : List QueryRow) (query : QueryRow)
    → queries_stand earlier place low queries ≡ true → pos 0 ≤ℤ low → In query queries → pos 0 ≤ℤ query.arrival
queries-late earlier place low [] query stand le has = absurd has
queries-late earlier place low (x ∷ queries) query stand le (inl e) =
    let here = first-part (query_stands earlier place low x) (queries_stand (earlier ++ x ∷ []) (place + 1) x.arrival queries) stand in
    subst (λ (q : QueryRow). pos 0 ≤ℤ q.arrival) (sym e) (not-early low x earlier place here le)
queries-late earlier place low (x ∷ queries) query stand le (inr has) =
    let here = first-part (query_stands earlier place low x) (queries_stand (earlier ++ x ∷ []) (place + 1) x.arrival queries) stand in
    queries-late (earlier ++ x ∷ []) (place + 1) x.arrival queries query
    (second-part (query_stands earlier place low x) (queries_stand (earlier ++ x ∷ []) (place + 1) x.arrival queries) stand)
    (not-early low x earlier place here le) has

pub run-of-sound : RunsAreWindows
run-of-sound tables session query moment sound has le =
    run-is-window tables query moment (each-in (IsKeptQuery query_truth start_of tables) tables.queries query sound.kept.each has)
    sound.kept.docs (start-positive query (late tables query sound.formed has)) le
  where
    late : (tables : Tables) (query : QueryRow) → is_well_formed tables ≡ true → In query tables.queries → pos 0 ≤ℤ query.arrival
    late t query formed has =
        let docs = docs_stand 1 (pos 0) t.docs in
        let notes = notes_stand t.docs 1 (pos 0) t.notes in
        let queries = queries_stand [] 1 (pos 0) t.queries in
        let runs = runs_stand t.queries 1 (pos 0) t.runs in
        let picks = picks_stand t.runs t.docs [] 1 None t.picks in
        let filters = filters_stand 1 (pos 0) t.filters in
        queries-late [] 1 (pos 0) t.queries query
        (second-part (docs && notes) queries (first-part (docs && notes && queries) runs
        (first-part (docs && notes && queries && runs) picks (first-part (docs && notes && queries && runs && picks) filters formed))))
        (omega (arith, ints)) has
