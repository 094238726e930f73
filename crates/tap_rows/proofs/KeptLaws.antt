-- Each change keeps what holds of the stored tables: above all, that a query's deliveries are its box.
use Rattle.std.proofs.Common.{◌≡◌, ◌∙◌, sym, ap, refl, subst, arith, ℕ, suc, ◌+◌, ◌≤◌, ◌<◌, ℤ, pos, true, false, List, [], ◌∷◌, ◌++◌}
use Rattle.std.proofs.Common.{length, map, if◌then◌else◌, inl, inr}
use Rattle.std.specs.Prelude.{◌==◌, ◌≤ℤ◌, filter}
use Rattle.std.proofs.lemmas.Int.{ints}
use Rattle.std.proofs.lemmas.List.{map-append, append-nil, length-append}
use Rattle.std.proofs.lemmas.List.Elements.{filter-append}
use Rattle.tap_rows.specs.declared.tables.Tables.{Tables}
use Rattle.tap_rows.specs.declared.rows.Doc.{Doc}
use Rattle.tap_rows.specs.declared.rows.Note.{Note}
use Rattle.tap_rows.specs.declared.rows.QueryRow.{QueryRow}
use Rattle.tap_rows.specs.declared.rows.RunRow.{RunRow}
use Rattle.tap_rows.specs.declared.rows.Pick.{Pick}
use Rattle.tap_rows.specs.declared.rows.FilterRow.{FilterRow}
use Rattle.tap_rows.specs.declared.change.Change.TheVariants.{Docs, OneNote, OneQuery, OneFilter}
use Rattle.tap_rows.specs.declared.results.Hit.{Hit}
use Rattle.tap_rows.specs.declared.results.Entry.{Entry}
use Rattle.tap_rows.specs.Tables.{no_rows, after}
use Rattle.tap_rows.specs.Arrivals.{Arrived}
use Rattle.tap_rows.specs.Results.{Truth, runs_of, run_moments, last_or, covered, entries_from, entry_at, union_until, box_of}
use Rattle.tap_rows.specs.Deliveries.{delivered, picked, picks_of, pick_rows, next_run, run_hits, run_change, run_ordinal}
use Rattle.tap_rows.specs.Kept.{Each, In, IsOfTheSecond, QueriesFrom, Rising, HasRun, IsKeptQuery, IsKept, IsBy}
use Rattle.tap_rows.specs.Grown.{Grown}
use Rattle.tap_rows.proofs.LaterLaws.{grown-same, fresh-later, filter-none, each-map, each-append}
use Rattle.tap_rows.proofs.PlaceLaws.{ordinal-new, moments-new, moments-other, old-picks, picks-all, picks-none, new-picks, picks-have-run}
use Rattle.tap_rows.proofs.PlaceLaws.{run-stays, run-last, runs-more, queries-more, query-bounds, runs-none, no-picks}
use Rattle.tap_rows.proofs.RunLaws.{box-after-run}

-- entries by moments and hits that are the same
entries-same : (ms ms' : List ℤ) (hits hits' : List Hit) → ms ≡ ms' → hits ≡ hits'
    → entries_from ms hits 1 ms ≡ entries_from ms' hits' 1 ms'
entries-same ms ms' hits hits' m h = rw (m, h) refl

delivered-same : (query : ℕ) (runs runs' : List RunRow) (picks picks' : List Pick) → runs' ≡ runs → picks' ≡ picks
    → map (picked runs') (picks_of query picks') ≡ map (picked runs) (picks_of query picks)
delivered-same query runs runs' picks picks' r p = rw (r, p) refl

-- the last of moments that are all at most this one is at most it
pub last-by : (low t : ℤ) (ms : List ℤ) → low ≤ℤ t → Each (λ m. m ≤ℤ t) ms → last_or low ms ≤ℤ t
last-by low t [] le each = le
last-by low t (m ∷ ms) le each = last-by m t ms each.0 each.1

moments-by : (query : ℕ) (t : ℤ) (runs : List RunRow) → Each (λ run. run.moment ≤ℤ t) runs → Each (λ m. m ≤ℤ t) (run_moments query runs)
moments-by query t [] each = tt
moments-by query t (run ∷ runs) each = elim (run.query.0 == query)
    as (λ b. Each (λ m. m ≤ℤ t) (map (λ run. run.moment) (if b then run ∷ runs_of query runs else runs_of query runs))) [
      | true ↦ (each.0, moments-by query t runs each.1)
      | false ↦ moments-by query t runs each.1
    ]

rising-more : (low t : ℤ) (ms : List ℤ) → Rising low ms → last_or low ms ≤ℤ t → Rising low (ms ++ t ∷ [])
rising-more low t [] rising le = (le, tt)
rising-more low t (m ∷ ms) rising le = (rising.0, rising-more m t ms rising.1 le)

module _ (truth : QueryRow → Truth) (start : QueryRow → ℤ) (causal : (query : QueryRow) → IsOfTheSecond (truth query)) where
  -- a query keeps its box where only later documents and notes are added
  query-later : (t : ℤ) (tables later : Tables) (query : QueryRow) → later.runs ≡ tables.runs → later.picks ≡ tables.picks
      → Grown t tables later → covered (start query) query.num.0 tables.runs ≤ℤ t → IsKeptQuery truth start tables query
      → IsKeptQuery truth start later query
  query-later t tables later query runs picks grown le kept =
      let moments : run_moments query.num.0 later.runs ≡ run_moments query.num.0 tables.runs = ap (run_moments query.num.0) runs in
      let until : covered (start query) query.num.0 later.runs ≡ covered (start query) query.num.0 tables.runs =
      ap (last_or (start query)) moments in
      let there : union_until (truth query) later (start query) (covered (start query) query.num.0 later.runs) ≡ union_until (truth query)
      later (start query) (covered (start query) query.num.0 tables.runs) = ap (union_until (truth query) later (start query)) until in
      let union : union_until (truth query) later (start query) (covered (start query) query.num.0 tables.runs)
      ≡ union_until (truth query) tables (start query) (covered (start query) query.num.0 tables.runs) = fresh-later (truth query) t
      tables later (start query) (start query) (covered (start query) query.num.0 tables.runs) (causal query) grown le in
      record {
        rising = subst (Rising (start query)) (sym moments) kept.rising;
        box = delivered-same query.num.0 tables.runs later.runs tables.picks later.picks runs picks ∙ kept.box
            ∙ sym (entries-same (run_moments query.num.0 later.runs) (run_moments query.num.0 tables.runs)
            (union_until (truth query) later (start query) (covered (start query) query.num.0 later.runs))
            (union_until (truth query) tables (start query) (covered (start query) query.num.0 tables.runs)) moments (there ∙ union));
      }

  -- a query has covered no more than up to the moment
  covered-by : (t : ℤ) (query : QueryRow) (runs : List RunRow) → start query ≤ℤ t → Each (λ run. run.moment ≤ℤ t) runs
      → covered (start query) query.num.0 runs ≤ℤ t
  covered-by t query runs le each = last-by (start query) t (run_moments query.num.0 runs) le (moments-by query.num.0 t runs each)

  queries-later : (t : ℤ) (tables later : Tables) (queries : List QueryRow) → later.runs ≡ tables.runs → later.picks ≡ tables.picks
      → Grown t tables later → Each (λ run. run.moment ≤ℤ t) tables.runs → Each (λ query. (query.arrival ≤ℤ t) × (start query ≤ℤ t)) queries
      → Each (IsKeptQuery truth start tables) queries → Each (IsKeptQuery truth start later) queries
  queries-later t tables later [] runs picks grown by starts each = tt
  queries-later t tables later (query ∷ queries) runs picks grown by starts each = (
    query-later t tables later query runs picks grown (covered-by t query tables.runs starts.0.1 by) each.0,
    queries-later t tables later queries runs picks grown by starts.1 each.1,
  )

  -- the empty tables are `IsKept`
  pub kept-empty : IsKept truth start no_rows
  kept-empty = record { docs = tt; queries = tt; runs = tt; owned = tt; picks = tt; each = tt }

  -- documents that arrive now
  pub kept-docs : (t : ℤ) (tables : Tables) (docs : List Doc) → IsKept truth start tables → IsBy start t tables
      → Each (λ doc. t ≤ℤ doc.arrival) docs → Arrived 1 (pos 0) (tables.docs ++ docs) → IsKept truth start (after tables (Docs docs))
  kept-docs t tables docs kept by late arrived = record {
    docs = arrived;
    queries = kept.queries;
    runs = kept.runs;
    owned = kept.owned;
    picks = kept.picks;
    each = queries-later t tables (after tables (Docs docs)) tables.queries refl refl
        (record { new_docs = docs; new_notes = []; docs = refl; notes = sym (append-nil tables.notes); late_docs = late; late_notes = tt })
        by.runs by.queries kept.each;
  }

  -- a note that arrives now
  pub kept-note : (t : ℤ) (tables : Tables) (note : Note) → IsKept truth start tables → IsBy start t tables → t ≤ℤ note.arrival
      → IsKept truth start (after tables (OneNote note))
  kept-note t tables note kept by late = record {
    docs = kept.docs;
    queries = kept.queries;
    runs = kept.runs;
    owned = kept.owned;
    picks = kept.picks;
    each = queries-later t tables (after tables (OneNote note)) tables.queries refl refl (record {
      new_docs = [];
      new_notes = note ∷ [];
      docs = sym (append-nil tables.docs);
      notes = refl;
      late_docs = tt;
      late_notes = (late, tt);
    }) by.runs by.queries kept.each;
  }

  -- a filter
  pub kept-filter : (t : ℤ) (tables : Tables) (filter : FilterRow) → IsKept truth start tables → IsBy start t tables
      → IsKept truth start (after tables (OneFilter filter))
  kept-filter t tables filter kept by = record {
    docs = kept.docs;
    queries = kept.queries;
    runs = kept.runs;
    owned = kept.owned;
    picks = kept.picks;
    each = queries-later t tables (after tables (OneFilter filter)) tables.queries refl refl
        (grown-same t tables (after tables (OneFilter filter)) refl refl) by.runs by.queries kept.each;
  }

  less : (n : ℕ) (runs : List RunRow) → Each (λ run. run.query.0 ≤ n) runs → Each (λ run. run.query.0 < n + 1) runs
  less n [] each = tt
  less n (run ∷ runs) each = (omega (arith, each.0), less n runs each.1)

  -- a new query has no run and no delivery
  query-new : (tables : Tables) (query : QueryRow) → IsKept truth start tables → query.num.0 ≡ length tables.queries + 1
      → IsKeptQuery truth start (after tables (OneQuery query)) query
  query-new tables query kept is =
      let none : runs_of query.num.0 tables.runs ≡ [] = runs-none query.num.0 tables.runs
      (subst (λ n. Each (λ run. run.query.0 < n) tables.runs) (sym is) (less (length tables.queries) tables.runs kept.owned)) in
      let moments : run_moments query.num.0 tables.runs ≡ [] = ap (map (λ run. run.moment)) none in
      let picks : picks_of query.num.0 tables.picks ≡ [] =
      no-picks query.num.0 (length tables.queries) tables.runs tables.picks (omega (arith, is)) kept.owned kept.picks in
      record {
        rising = subst (Rising (start query)) (sym moments) tt;
        box = ap (map (picked tables.runs)) picks ∙ sym (no-entries (run_moments query.num.0 tables.runs) (union_until (truth query)
            (after tables (OneQuery query)) (start query) (covered (start query) query.num.0 tables.runs)) moments);
      }
    where
      no-entries : (ms : List ℤ) (hits : List Hit) → ms ≡ [] → entries_from ms hits 1 ms ≡ []
      no-entries ms hits e = rw e refl

  pub kept-query : (t : ℤ) (tables : Tables) (query : QueryRow) → IsKept truth start tables → IsBy start t tables
      → query.num.0 ≡ length tables.queries + 1 → IsKept truth start (after tables (OneQuery query))
  kept-query t tables query kept by is = record {
    docs = kept.docs;
    queries = queries-more 1 tables.queries query kept.queries (omega (arith, is));
    runs = kept.runs;
    owned = each-map (λ run. run.query.0 ≤ length tables.queries) (λ run. run.query.0 ≤ length (tables.queries ++ query ∷ []))
        tables.runs (λ run le. longer run.query.0 tables.queries query le) kept.owned;
    picks = kept.picks;
    each = each-append (IsKeptQuery truth start (after tables (OneQuery query))) tables.queries (query ∷ [])
        (queries-later t tables (after tables (OneQuery query)) tables.queries refl refl
        (grown-same t tables (after tables (OneQuery query)) refl refl) by.runs by.queries kept.each)
        (query-new tables query kept is, tt);
  } where
    longer : (n : ℕ) (queries : List QueryRow) (query : QueryRow) → n ≤ length queries → n ≤ length (queries ++ query ∷ [])
    longer n queries query le = omega (arith, le, length-append queries (query ∷ []))

  -- the query of a run: its box grows by what the run delivers
  query-run : (t : ℤ) (tables : Tables) (query : QueryRow) → IsKept truth start tables → covered (start query) query.num.0 tables.runs ≤ℤ t
      → IsKeptQuery truth start tables query
      → IsKeptQuery truth start (after tables (run_change (truth query) (start query) tables query.num t)) query
  query-run t tables query kept le this =
      let run = next_run tables query.num t in
      let hits = run_hits (truth query) (start query) tables query.num.0 t in
      let picks = pick_rows (length tables.picks + 1) query.num (length tables.runs + 1) hits in
      let later = after tables (run_change (truth query) (start query) tables query.num t) in
      let moments : run_moments query.num.0 (tables.runs ++ run ∷ []) ≡ run_moments query.num.0 tables.runs ++ t ∷ [] =
      moments-new query.num.0 tables.runs run refl in
      let place : run_ordinal run.num query.num.0 (tables.runs ++ run ∷ []) ≡ length (run_moments query.num.0 tables.runs) + 1 =
      ordinal-new query.num.0 tables.runs run kept.runs refl refl in
      let both : picks_of query.num.0 (tables.picks ++ picks) ≡ picks_of query.num.0 tables.picks ++ picks =
      filter-append (λ pick. pick.query.0 == query.num.0) tables.picks picks ∙ ap (λ more. picks_of query.num.0 tables.picks ++ more)
      (picks-all (length tables.picks + 1) query.num (length tables.runs + 1) hits) in
      let old : map (picked (tables.runs ++ run ∷ [])) (picks_of query.num.0 tables.picks) ≡ box_of (truth query) tables (start query)
      query.num.0 = old-picks query.num.0 tables.runs run tables.picks kept.picks ∙ this.box in
      let new : map (picked (tables.runs ++ run ∷ [])) picks ≡ map (entry_at (length (run_moments query.num.0 tables.runs) + 1)) hits =
      new-picks (tables.runs ++ run ∷ []) (length tables.picks + 1) query.num (length tables.runs + 1)
      (length (run_moments query.num.0 tables.runs) + 1) hits place in
      let given : delivered query.num.0 later ≡ box_of (truth query) tables (start query) query.num.0
      ++ map (entry_at (length (run_moments query.num.0 tables.runs) + 1)) hits =
      ap (map (picked (tables.runs ++ run ∷ []))) both
      ∙ map-append (picked (tables.runs ++ run ∷ [])) (picks_of query.num.0 tables.picks) picks ∙ parts _ _ _ _ old new in
      let box = box-after-run (truth query) tables (tables.runs ++ run ∷ []) (start query) query.num.0 t moments this.rising le in
      let union : union_until (truth query) later (start query) (covered (start query) query.num.0 (tables.runs ++ run ∷ []))
      ≡ union_until (truth query) tables (start query) (covered (start query) query.num.0 (tables.runs ++ run ∷ [])) =
      fresh-later (truth query) (covered (start query) query.num.0 (tables.runs ++ run ∷ [])) tables later (start query) (start query)
      (covered (start query) query.num.0 (tables.runs ++ run ∷ [])) (causal query)
      (grown-same (covered (start query) query.num.0 (tables.runs ++ run ∷ [])) tables later refl refl) (omega (arith, ints)) in
      record {
        rising =
            subst (Rising (start query)) (sym moments) (rising-more (start query) t (run_moments query.num.0 tables.runs) this.rising le);
        box = given ∙ sym box
            ∙ sym (entries-same (run_moments query.num.0 (tables.runs ++ run ∷ [])) (run_moments query.num.0 (tables.runs ++ run ∷ []))
            (union_until (truth query) later (start query) (covered (start query) query.num.0 (tables.runs ++ run ∷ [])))
            (union_until (truth query) tables (start query) (covered (start query) query.num.0 (tables.runs ++ run ∷ []))) refl union);
      }
    where
      parts : (a a' b b' : List Entry) → a ≡ a' → b ≡ b' → a ++ b ≡ a' ++ b'
      parts a a' b b' e f = rw (e, f) refl

  -- the other queries keep theirs
  query-other : (t : ℤ) (tables : Tables) (query other : QueryRow) → IsKept truth start tables → (query.num.0 ≡ other.num.0 → ⊥)
      → IsKeptQuery truth start tables other
      → IsKeptQuery truth start (after tables (run_change (truth query) (start query) tables query.num t)) other
  query-other t tables query other kept differs this =
      let run = next_run tables query.num t in
      let hits = run_hits (truth query) (start query) tables query.num.0 t in
      let picks = pick_rows (length tables.picks + 1) query.num (length tables.runs + 1) hits in
      let later = after tables (run_change (truth query) (start query) tables query.num t) in
      let moments : run_moments other.num.0 (tables.runs ++ run ∷ []) ≡ run_moments other.num.0 tables.runs =
      moments-other other.num.0 tables.runs run differs in
      let until : covered (start other) other.num.0 (tables.runs ++ run ∷ []) ≡ covered (start other) other.num.0 tables.runs =
      ap (last_or (start other)) moments in
      let own : picks_of other.num.0 (tables.picks ++ picks) ≡ picks_of other.num.0 tables.picks =
      filter-none (λ pick. pick.query.0 == other.num.0) tables.picks picks
      (picks-none other.num.0 (length tables.picks + 1) query.num (length tables.runs + 1) hits differs) in
      let given : delivered other.num.0 later ≡ delivered other.num.0 tables = ap (map (picked (tables.runs ++ run ∷ []))) own
      ∙ old-picks other.num.0 tables.runs run tables.picks kept.picks in
      let there : union_until (truth other) later (start other) (covered (start other) other.num.0 (tables.runs ++ run ∷ []))
      ≡ union_until (truth other) later (start other) (covered (start other) other.num.0 tables.runs) =
      ap (union_until (truth other) later (start other)) until in
      let union : union_until (truth other) later (start other) (covered (start other) other.num.0 tables.runs)
      ≡ union_until (truth other) tables (start other) (covered (start other) other.num.0 tables.runs) =
      fresh-later (truth other) (covered (start other) other.num.0 tables.runs) tables later (start other) (start other)
      (covered (start other) other.num.0 tables.runs) (causal other)
      (grown-same (covered (start other) other.num.0 tables.runs) tables later refl refl) (omega (arith, ints)) in
      record {
        rising = subst (Rising (start other)) (sym moments) this.rising;
        box = given ∙ this.box ∙ sym (entries-same (run_moments other.num.0 (tables.runs ++ run ∷ [])) (run_moments other.num.0 tables.runs)
            (union_until (truth other) later (start other) (covered (start other) other.num.0 (tables.runs ++ run ∷ [])))
            (union_until (truth other) tables (start other) (covered (start other) other.num.0 tables.runs)) moments (there ∙ union));
      }

  queries-above : (t : ℤ) (tables : Tables) (query : QueryRow) (k : ℕ) (queries : List QueryRow) → IsKept truth start tables
      → QueriesFrom k queries → query.num.0 < k → Each (IsKeptQuery truth start tables) queries
      → Each (IsKeptQuery truth start (after tables (run_change (truth query) (start query) tables query.num t))) queries
  queries-above t tables query k [] kept from lt each = tt
  queries-above t tables query k (other ∷ queries) kept from lt each = (
    query-other t tables query other kept (λ e. absurd (omega (arith, e, from.0))) each.0,
    queries-above t tables query (suc k) queries kept from.1 (omega arith) each.1,
  )

  queries-run : (t : ℤ) (tables : Tables) (query : QueryRow) (k : ℕ) (queries : List QueryRow) → IsKept truth start tables
      → covered (start query) query.num.0 tables.runs ≤ℤ t → QueriesFrom k queries → In query queries
      → Each (IsKeptQuery truth start tables) queries
      → Each (IsKeptQuery truth start (after tables (run_change (truth query) (start query) tables query.num t))) queries
  queries-run t tables query k [] kept le from has each = tt
  queries-run t tables query k (other ∷ queries) kept le from (inl e) each = (
    subst (λ row. IsKeptQuery truth start (after tables (run_change (truth query) (start query) tables query.num t)) row) e
        (query-run t tables query kept le (subst (λ row. IsKeptQuery truth start tables row) (sym e) each.0)),
    queries-above t tables query (suc k) queries kept
        from.1 (let is : query.num.0 ≡ k = ap (λ row. row.num.0) e ∙ from.0 in omega (arith, is)) each.1,
  )
  queries-run t tables query k (other ∷ queries) kept le from (inr h) each =
      let bounds = query-bounds (suc k) queries query from.1 h in (
        query-other t tables query other kept (λ e. absurd (omega (arith, e, from.0, bounds.0))) each.0,
        queries-run t tables query (suc k) queries kept le from.1 h each.1,
      )

  start-by : (t : ℤ) (query : QueryRow) (queries : List QueryRow) → In query queries
      → Each (λ query. (query.arrival ≤ℤ t) × (start query ≤ℤ t)) queries → start query ≤ℤ t
  start-by t query [] has each = absurd has
  start-by t query (other ∷ queries) (inl e) each = subst (λ row. start row ≤ℤ t) (sym e) each.0.1
  start-by t query (other ∷ queries) (inr h) each = start-by t query queries h each.1

  -- a run of a query that is there, at this moment
  pub kept-run : (t : ℤ) (tables : Tables) (query : QueryRow) → IsKept truth start tables → IsBy start t tables → In query tables.queries
      → IsKept truth start (after tables (run_change (truth query) (start query) tables query.num t))
  kept-run t tables query kept by has =
      let run = next_run tables query.num t in
      let bounds = query-bounds 1 tables.queries query kept.queries has in
      record {
        docs = kept.docs;
        queries = kept.queries;
        runs = runs-more 1 tables.runs run kept.runs (omega arith);
        owned = each-append (λ run. run.query.0 ≤ length tables.queries) tables.runs (run ∷ []) kept.owned (omega (arith, bounds.1), tt);
        picks =
            each-append (λ pick. HasRun pick.run pick.query.0 (tables.runs ++ run ∷ [])) tables.picks (pick_rows (length tables.picks + 1)
            query.num (length tables.runs + 1) (run_hits (truth query) (start query) tables query.num.0 t))
            (each-map (λ pick. HasRun pick.run pick.query.0 tables.runs) (λ pick. HasRun pick.run pick.query.0 (tables.runs ++ run ∷ []))
            tables.picks (λ pick h. run-stays pick.run pick.query.0 tables.runs (run ∷ []) h) kept.picks)
            (picks-have-run (tables.runs ++ run ∷ []) (length tables.picks + 1) query.num (length tables.runs + 1)
            (run_hits (truth query) (start query) tables query.num.0 t) (run-last tables.runs run));
        each = queries-run t tables query 1 tables.queries kept
            (covered-by t query tables.runs (start-by t query tables.queries has by.queries) by.runs) kept.queries has kept.each;
      }

  -- a query that is there has delivered its box
  pub box-is : (tables : Tables) (query : QueryRow) (queries : List QueryRow) → In query queries
      → Each (IsKeptQuery truth start tables) queries → IsKeptQuery truth start tables query
  box-is tables query [] has each = absurd has
  box-is tables query (other ∷ queries) (inl e) each = subst (λ row. IsKeptQuery truth start tables row) (sym e) each.0
  box-is tables query (other ∷ queries) (inr h) each = box-is tables query queries h each.1
