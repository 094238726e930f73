-- The engine stays ready for its next step.
use Rattle.std.proofs.Common.{◌≡◌, ◌∙◌, sym, refl, ap, subst, inl, inr, arith, ℕ, zero, suc, ◌+◌, ◌-◌, ◌≤◌, ◌<◌, ℤ, List, [], ◌∷◌}
use Rattle.std.proofs.Common.{◌++◌, length, Bool, true, false, Option, Some, None, if◌then◌else◌}
use Rattle.std.specs.Prelude.{◌≤ℤ◌, find, slice_index_or, slice_set}
use Rattle.std.specs.Option.{option_or}
use Rattle.std.proofs.lemmas.Int.{ints}
use Rattle.std.proofs.Math.Seq.{take-append_seam}
use Rattle.tap_base.specs.declared.numbers.QueryNum.{QueryNum}
use Rattle.tap_rows.specs.declared.rows.QueryRow.{QueryRow}
use Rattle.tap_rows.specs.declared.results.Entry.{Entry}
use Rattle.tap_rows.specs.declared.rows.Note.{Note}
use Rattle.tap_rows.specs.declared.change.Change.TheVariants.{Docs, OneNote}
use Rattle.tap_rows.specs.Tables.{after}
use Rattle.row_index.specs.Orders.{doc_arrival, note_arrival}
use Rattle.query_eval.specs.declared.box_front.BoxFront.{BoxFront}
use Rattle.query_eval.specs.Hits.{HitsWithRoom}
use Rattle.query_eval.specs.BoxFronts.{AreInBox, AddsFronts}
use Rattle.vote_scores.specs.Tally.{Vote}
use Rattle.tap_rows.specs.Kept.{Each, In}
use Rattle.tap_model.specs.Queries.{start_of}
use Rattle.tap_rows.specs.WellFormed.{is_query_of}
use Rattle.tap_rows.proofs.LaterLaws.{each-append}
use Rattle.tap_model.specs.Replies.{docs_from}
use Rattle.tap_model.specs.Sessions.{or_zero, moment_or_zero, user_of}
use Rattle.tap_model.specs.Verdicts.{is_back}
use Rattle.tap_model.proofs.HeldLaws.{not-back}
use Rattle.tap_kept.specs.declared.cached_query.CachedQuery.{CachedQuery}
use Rattle.tap_engine.specs.declared.engine.Engine.{Engine}
use Rattle.tap_engine.specs.declared.run.Due.{Due}
use Rattle.tap_kept.specs.Keeping.{named_in, never_run, after_run, before_run, without_run}
use Rattle.tap_kept.specs.BoxFronts.{AreFrontsOfBoxes}
use Rattle.tap_kept.proofs.BoxFrontLaws.{length-set, fronts-later, fronts-own, fronts-found}
use Rattle.tap_engine.specs.Ready.{CachedFrom, RowsBy, IsTime, IsReady}
use Rattle.tap_engine.specs.Standing.{cached_named, cached_hits, due_of}
use Rattle.tap_engine.specs.Answering.{IsUnchangedButHits, UndoRestores, undo_run}
use Rattle.tap_base.specs.Numbers.{IsMoment}

-- a query in memory at the place of its number
pub record KeptAt (num runs : ℕ) (queries : List CachedQuery) (kept : CachedQuery) : Type 0 where
  pub low : num ≤ kept.row.num.0
  pub high : kept.row.num.0 < num + length queries
  pub few : kept.runs ≤ runs
  pub covered : IsMoment kept.covered
  pub has : In kept queries
  pub at : (i : ℕ) (d : CachedQuery) → kept.row.num.0 ≡ num + i → slice_index_or queries i d ≡ kept

some-kept : (x y : CachedQuery) → Some x ≡ Some y → x ≡ y
some-kept x y e = cc

no-kept : (x : CachedQuery) → None ≡ Some x → ⊥
no-kept x e = cc

-- what is found is one of the queries
found-in : (p : CachedQuery → Bool) (queries : List CachedQuery) (kept : CachedQuery) → find p queries ≡ Some kept → In kept queries
found-in p [] kept e = absurd (no-kept kept e)
found-in p (x ∷ queries) kept e = go (p x) refl (found-in p queries kept) where
  go : (b : Bool) → p x ≡ b → (find p queries ≡ Some kept → In kept queries) → In kept (x ∷ queries)
  go true y rest = inl (sym (some-kept x kept (sym (ap (λ b. if b then Some x else find p queries) y) ∙ e)))
  go false n rest = inr (rest (sym (ap (λ b. if b then Some x else find p queries) n) ∙ e))

-- one of the queries is at the place of its number
in-at : (num runs : ℕ) (queries : List CachedQuery) (kept : CachedQuery) → CachedFrom num runs queries → In kept queries
    → KeptAt num runs queries kept
in-at num runs [] kept from has = absurd has
in-at num runs (x ∷ queries) kept from (inl same) =
    let is : kept.row.num.0 ≡ num = ap (λ (k : CachedQuery). k.row.num.0) same ∙ from.0 in
    record {
      low = omega (arith, is);
      high = omega (arith, is);
      few = subst (λ (k : CachedQuery). k.runs ≤ runs) (sym same) from.1;
      covered = subst (λ (k : CachedQuery). IsMoment k.covered) (sym same) from.2;
      has = inl same;
      at = λ i d at. elim i as (λ i. kept.row.num.0 ≡ num + i
          → slice_index_or (x ∷ queries) i d ≡ kept) [ zero ↦ λ at. sym same | suc i ↦ λ at. absurd (omega (arith, is, at)) ] at;
    }
in-at num runs (x ∷ queries) kept from (inr has) =
    let rest = in-at (suc num) runs queries kept from.3 has in
    record {
      low = omega (arith, rest.low);
      high = omega (arith, rest.high);
      few = rest.few;
      covered = rest.covered;
      has = inr has;
      at = λ i d at. elim i as (λ i. kept.row.num.0 ≡ num + i → slice_index_or (x ∷ queries) i d ≡ kept) [
        | zero ↦ λ at.
            absurd (omega (arith, rest.low, at))
        | suc i ↦ λ at. rest.at i d (omega (arith, at))
      ] at;
    }

-- no other query has its number
one-numbered : (num runs : ℕ) (queries : List CachedQuery) (kept other : CachedQuery) → CachedFrom num runs queries → In kept queries
    → In other queries → other.row.num ≡ kept.row.num → other ≡ kept
one-numbered num runs queries kept other from has there same =
    let here = in-at num runs queries kept from has in
    let also = in-at num runs queries other from there in
    let is : other.row.num.0 ≡ kept.row.num.0 = ap (λ (n : QueryNum). n.0) same in
    let low = here.low in
    let i : ℕ = kept.row.num.0 - num in
    let place : kept.row.num.0 ≡ num + i = omega (arith, low) in
    sym (also.at i kept (is ∙ place)) ∙ here.at i kept place

pub named-at : (owner name : List ℕ) (num runs : ℕ) (queries : List CachedQuery) (kept : CachedQuery) → CachedFrom num runs queries
    → named_in owner name queries ≡ Some kept → KeptAt num runs queries kept
unfolding named_in
named-at owner name num runs queries kept from e =
    in-at num runs queries kept from (found-in (λ kept. is_query_of owner name kept.row) queries kept e)

-- what is due is due to a query at the place of its number
pub record DueAt (e : Engine) (name : List ℕ) (due : Due) : Type 0 where
  pub kept : CachedQuery
  pub named : cached_named e name ≡ Some kept
  pub at : KeptAt 1 e.run_count e.queries kept
  pub is : due ≡ record { query = kept.row.num; moment = moment_or_zero e.session; runs = kept.runs; hits = cached_hits e (Some kept) }

no-due : (due : Due) → Some due ≡ None → ⊥
no-due due e = cc

same-due : (x y : Due) → Some x ≡ Some y → x ≡ y
same-due x y e = cc

pub due-at : (e : Engine) (name : List ℕ) (due : Due) → IsReady e → Some due ≡ due_of e (cached_named e name) → DueAt e name due
due-at e name due ready is = go (cached_named e name) refl where
  go : (o : Option CachedQuery) → cached_named e name ≡ o → DueAt e name due
  go None none = absurd (no-due due (is ∙ ap (due_of e) none))
  go (Some kept) some = record {
    kept = kept;
    named = some;
    at = named-at _ name 1 e.run_count e.queries kept ready.queries some;
    is = same-due due
        (record { query = kept.row.num; moment = moment_or_zero e.session; runs = kept.runs; hits = cached_hits e (Some kept) })
        (is ∙ ap (due_of e) some);
  }

-- more runs of all
more-runs : (num runs runs' : ℕ) (queries : List CachedQuery) → runs ≤ runs' → CachedFrom num runs queries → CachedFrom num runs' queries
more-runs num runs runs' [] le from = tt
more-runs num runs runs' (kept ∷ queries) le from =
    (from.0, omega (arith, from.1, le), from.2, more-runs (suc num) runs runs' queries le from.3)

-- one more query
pub kept-more : (num runs : ℕ) (queries : List CachedQuery) (row : QueryRow) → CachedFrom num runs queries
    → row.num.0 ≡ num + length queries → IsMoment (start_of row) → CachedFrom num runs (queries ++ never_run row ∷ [])
kept-more num runs [] row from is start = (omega (arith, is), omega arith, start, tt)
kept-more num runs (kept ∷ queries) row from is start =
    (from.0, from.1, from.2, kept-more (suc num) runs queries row from.3 (omega (arith, is)) start)

-- one more run of the query at a place
pub kept-run : (num runs i : ℕ) (queries : List CachedQuery) (m : ℤ) (entries : List Entry) (d : CachedQuery) → CachedFrom num runs queries
    → IsMoment m → CachedFrom num (runs + 1) (slice_set queries i (after_run m entries (slice_index_or queries i d)))
kept-run num runs i [] m entries d from moment = tt
kept-run num runs zero (kept ∷ queries) m entries d from moment =
    (from.0, omega (arith, from.1), moment, more-runs (suc num) runs (runs + 1) queries (omega arith) from.3)
kept-run num runs (suc i) (kept ∷ queries) m entries d from moment =
    (from.0, omega (arith, from.1), from.2, kept-run (suc num) runs i queries m entries d from.3 moment)

-- a run that is undone
same-query : (kept : CachedQuery) (m : ℤ) (entries : List Entry)
    → before_run kept.covered kept.runs (length kept.entries) (after_run m entries kept) ≡ kept
same-query kept m entries =
    ap (λ l. record { row = kept.row; covered = kept.covered; runs = kept.runs; entries = l }) (take-append_seam kept.entries entries)

pub run-back : (i : ℕ) (queries : List CachedQuery) (m : ℤ) (entries : List Entry) (d : CachedQuery)
    → without_run i (slice_index_or queries i d).covered (slice_index_or queries i d).runs (length (slice_index_or queries i d).entries)
    (slice_set queries i (after_run m entries (slice_index_or queries i d))) ≡ queries
run-back i [] m entries d = refl
run-back zero (kept ∷ queries) m entries d = ap (λ k. k ∷ queries) (same-query kept m entries)
run-back (suc i) (kept ∷ queries) m entries d = ap (λ l. kept ∷ l) (run-back i queries m entries d)

-- the engine before a run
pub undo-run : (e e' : Engine) (h : HitsWithRoom) (i : ℕ) (m : ℤ) (entries : List Entry) (runs picks : ℕ) (d : CachedQuery)
    → i < length e.queries → e.hits.room ≤ h.room
    → (AreFrontsOfBoxes e.index.docs e.queries e.hits.fronts → AreFrontsOfBoxes e.index.docs e.queries h.fronts)
    → e' ≡ record e {
      hits = h;
      queries = slice_set e.queries i (after_run m entries (slice_index_or e.queries i d));
      run_count = runs;
      pick_count = picks;
    } → UndoRestores (undo_run e i (slice_index_or e.queries i d)) e' e
undo-run e e' h i m entries runs picks d lt room fronts is =
    subst (λ e'. UndoRestores (undo_run e i (slice_index_or e.queries i d)) e' e) (sym is) (record {
      there = subst (λ n. i < n) (sym (length-set i e.queries (after_run m entries (slice_index_or e.queries i d)))) lt;
      before_is = record {
        same = ap (λ l. record e { hits = h; queries = l }) (run-back i e.queries m entries d);
        room = room;
        fronts = fronts;
      };
    })

-- the engine with more documents, which arrive at the session's moment
each-from : (num : ℕ) (moment : ℤ) (texts : List (List ℕ)) → Each (λ doc. doc.arrival ≤ℤ moment) (docs_from num moment texts)
each-from num moment [] = tt
each-from num moment (text ∷ texts) = (omega (arith, ints), each-from (num + 1) moment texts)

numbers-from : (n num : ℕ) (moment : ℤ) (texts : List (List ℕ)) → n < num → Each (λ doc. n < doc.num.0) (docs_from num moment texts)
numbers-from n num moment [] lt = tt
numbers-from n num moment (text ∷ texts) lt = (lt, numbers-from n (num + 1) moment texts (omega (arith, lt)))

-- the rows arrived by the session's moment
pub rows-by : {A : Type 0} (f : A → ℤ) (e : Engine) (rows : List A) → RowsBy f (option_or e.session.moment e.greatest) rows
    → (e.session.moment ≡ None → ⊥) → Each (λ row. f row ≤ℤ moment_or_zero e.session) rows
rows-by f e rows by there = go e.session.moment refl where
  go : (o : Option ℤ) → e.session.moment ≡ o → Each (λ row. f row ≤ℤ moment_or_zero e.session) rows
  go None none = absurd (there none)
  go (Some m) is =
      subst (λ z. Each (λ row. f row ≤ℤ z) rows) (sym (ap or_zero is)) (subst (λ o. RowsBy f (option_or o e.greatest) rows) is by)

by-rows : {A : Type 0} (f : A → ℤ) (e : Engine) (rows : List A) → (e.session.moment ≡ None → ⊥)
    → Each (λ row. f row ≤ℤ moment_or_zero e.session) rows → RowsBy f (option_or e.session.moment e.greatest) rows
by-rows f e rows there each = go e.session.moment refl where
  go : (o : Option ℤ) → e.session.moment ≡ o → RowsBy f (option_or e.session.moment e.greatest) rows
  go None none = absurd (there none)
  go (Some m) is =
      subst (λ o. RowsBy f (option_or o e.greatest) rows) (sym is) (subst (λ z. Each (λ row. f row ≤ℤ z) rows) (ap or_zero is) each)

pub ready-docs : (e : Engine) (h : HitsWithRoom) (texts : List (List ℕ)) (bytes : ℕ) → IsReady e → (e.session.moment ≡ None → ⊥)
    → length (e.index.docs ++ docs_from (length e.index.docs + 1) (moment_or_zero e.session) texts) ≤ h.room
    → h.fronts ≡ e.hits.fronts → IsReady (record e
    { index = after e.index (Docs (docs_from (length e.index.docs + 1) (moment_or_zero e.session) texts)); hits = h; bytes = bytes })
ready-docs e h texts bytes ready there room fronts = record {
  docs = by-rows doc_arrival e (e.index.docs ++ docs_from (length e.index.docs + 1) (moment_or_zero e.session) texts) there
      (each-append (λ doc. doc.arrival ≤ℤ moment_or_zero e.session) e.index.docs _ (rows-by doc_arrival e e.index.docs ready.docs there)
      (each-from (length e.index.docs + 1) (moment_or_zero e.session) texts));
  notes = ready.notes;
  queries = ready.queries;
  moment = ready.moment;
  room = room;
  fronts =
      subst (AreFrontsOfBoxes (e.index.docs ++ docs_from (length e.index.docs + 1) (moment_or_zero e.session) texts) e.queries) (sym fronts)
      (fronts-later e.index.docs (docs_from (length e.index.docs + 1) (moment_or_zero e.session) texts) e.queries e.hits.fronts
      (numbers-from (length e.index.docs) (length e.index.docs + 1) (moment_or_zero e.session) texts (omega arith)) ready.fronts);
}

-- the engine with one more note, which arrives then
pub ready-note : (e : Engine) (note : Note) (votes : List Vote) (bytes : ℕ) → IsReady e → note.arrival ≡ moment_or_zero e.session
    → (e.session.moment ≡ None → ⊥)
    → IsReady (record e { index = after e.index (OneNote note); votes = votes; bytes = bytes })
ready-note e note votes bytes ready at there = record {
  docs = ready.docs;
  notes = by-rows note_arrival e (e.index.notes ++ note ∷ []) there (each-append (λ note. note.arrival ≤ℤ moment_or_zero e.session)
      e.index.notes (note ∷ []) (rows-by note_arrival e e.index.notes ready.notes there) (omega (arith, ints, at), tt));
  queries = ready.queries;
  moment = ready.moment;
  room = ready.room;
  fronts = ready.fronts;
}

each-later : {A : Type 0} (f : A → ℤ) (m n : ℤ) (rows : List A) → m ≤ℤ n → Each (λ row. f row ≤ℤ m) rows → Each (λ row. f row ≤ℤ n) rows
each-later f m n [] le each = tt
each-later f m n (row ∷ rows) le each = (omega (arith, ints, each.0, le), each-later f m n rows le each.1)

by-second : {A : Type 0} (f : A → ℤ) (last : Option ℤ) (second : ℤ) (rows : List A) → RowsBy f last rows → is_back last (Some second) ≡ None
    → Each (λ row. f row ≤ℤ second) rows
by-second f None second rows by none = subst (λ rows. Each (λ row. f row ≤ℤ second) rows) (sym by) tt
by-second f (Some last) second rows by none = each-later f last second rows (not-back last second none) by

-- a moment that is set
pub ready-at : (e : Engine) (second : ℤ) → IsReady e → IsMoment second → is_back (option_or e.session.moment e.greatest) (Some second)
    ≡ None → IsReady (record e { session = record e.session { moment = Some second } })
ready-at e second ready range none = record {
  docs = by-second doc_arrival (option_or e.session.moment e.greatest) second e.index.docs ready.docs none;
  notes = by-second note_arrival (option_or e.session.moment e.greatest) second e.index.notes ready.notes none;
  queries = ready.queries;
  moment = range;
  room = ready.room;
  fronts = ready.fronts;
}

-- the present moment of a session that has one
pub moment_or_zero-moment : (e : Engine) → IsReady e → (e.session.moment ≡ None → ⊥) → IsMoment (moment_or_zero e.session)
moment_or_zero-moment e ready there = go e.session.moment refl where
  go : (o : Option ℤ) → e.session.moment ≡ o → IsMoment (moment_or_zero e.session)
  go None none = absurd (there none)
  go (Some m) is = subst IsMoment (sym (ap or_zero is)) (subst IsTime is ready.moment)

-- an engine that is unchanged but for its hits stays ready
pub ready-still : (e e' : Engine) → IsReady e → IsUnchangedButHits e' e → IsReady e'
ready-still e e' ready still = subst IsReady (sym still.same) (record {
  docs = ready.docs;
  notes = ready.notes;
  queries = ready.queries;
  moment = ready.moment;
  room = omega (arith, ready.room, still.room);
  fronts = still.fronts ready.fronts;
})

-- the user's query of a name is at the place of its number
kept-at : (e : Engine) (name : List ℕ) (kept : CachedQuery) → IsReady e → named_in (user_of e.session) name e.queries ≡ Some kept
    → KeptAt 1 e.run_count e.queries kept
kept-at e name kept ready is = named-at (user_of e.session) name 1 e.run_count e.queries kept ready.queries is

-- the fronts of this query are in its box
pub own-fronts : (e : Engine) (name : List ℕ) (kept : CachedQuery) → IsReady e → named_in (user_of e.session) name e.queries ≡ Some kept
    → AreInBox kept.row.num kept.entries e.index.docs e.hits.fronts
own-fronts e name kept ready is = fronts-own e.index.docs e.queries kept e.hits.fronts (kept-at e name kept ready is).has ready.fronts

-- with those that a search for its run found, fronts are in the boxes of their queries
pub found-fronts : (e : Engine) (name : List ℕ) (kept : CachedQuery) (new : List BoxFront) → IsReady e
    → named_in (user_of e.session) name e.queries ≡ Some kept → AddsFronts kept.row.num kept.entries e.index.docs e.hits.fronts new
    → AreFrontsOfBoxes e.index.docs e.queries e.hits.fronts → AreFrontsOfBoxes e.index.docs e.queries new
found-fronts e name kept new ready is adds =
    let at = kept-at e name kept ready is in
    let high = at.high in
    fronts-found e.index.docs e.queries kept e.hits.fronts new (omega (arith, high))
    (λ other has same. one-numbered 1 e.run_count e.queries kept other ready.queries at.has has same) adds

pub some-moment : (moment : Option ℤ) (m : ℤ) → moment ≡ Some m → moment ≡ None → ⊥
some-moment moment m is none = no-moment m (sym is ∙ none) where
  no-moment : (m : ℤ) → Some m ≡ None → ⊥
  no-moment m e = cc
