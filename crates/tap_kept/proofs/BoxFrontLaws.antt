-- Fronts stay in the boxes of their queries as documents, queries and runs are added.
use Rattle.std.proofs.Common.{◌≡◌, ◌∙◌, sym, refl, ap, subst, arith, ℕ, zero, suc, ◌+◌, ◌≤◌, ◌<◌, ℤ, true, List, [], ◌∷◌}
use Rattle.std.proofs.Common.{◌++◌, take, length, nat_eq, inl, inr}
use Rattle.std.specs.Prelude.{◌⊎◌, ◌||◌, slice_index_or, slice_set}
use Rattle.std.proofs.lemmas.List.{append-nil, length-append}
use Rattle.std.proofs.lemmas.List.Elements.{filter-append}
use Rattle.std.proofs.lemmas.List.Folds.{list_any-append}
use Rattle.tap_base.specs.declared.numbers.QueryNum.{QueryNum}
use Rattle.tap_rows.specs.declared.rows.Doc.{Doc}
use Rattle.tap_rows.specs.declared.rows.QueryRow.{QueryRow}
use Rattle.tap_rows.specs.declared.results.Entry.{Entry}
use Rattle.tap_rows.specs.Kept.{Each, In}
use Rattle.tap_rows.proofs.LaterLaws.{each-map}
use Rattle.tap_model.proofs.RowLaws.{each-filter}
use Rattle.time_marks.proofs.Lists.{append_in}
use Rattle.wake_plan.proofs.ListLaws.{each_in}
use Rattle.little_box.specs.Boxes.{is_in}
use Rattle.probe_eval.specs.SingleLists.{ListKey, is_under_key, docs_under}
use Rattle.query_eval.specs.declared.box_front.BoxFront.{BoxFront}
use Rattle.query_eval.specs.Fronts.{BeginsWith}
use Rattle.query_eval.specs.BoxFronts.{IsInBox, AreInBox, AddsFronts}
use Rattle.tap_kept.specs.declared.cached_query.CachedQuery.{CachedQuery}
use Rattle.tap_kept.specs.Keeping.{never_run, after_run}
use Rattle.tap_kept.specs.BoxFronts.{IsFrontOfBox, AreFrontsOfBoxes}
use Rattle.tap_kept.proofs.NewLaws.{back-more}

-- the list under a key grows at its end
under-more : (key : ListKey) (docs more : List Doc) → docs_under key (docs ++ more) ≡ docs_under key docs ++ docs_under key more
under-more key docs more = filter-append (is_under_key key) docs more

-- a list that begins with this document began with it before documents of greater numbers came
begins-before : (first : ℕ) (under more : List Doc) → Each (λ doc. first < doc.num.0) more → BeginsWith first (under ++ more)
    → BeginsWith first under
begins-before first [] [] late begins = begins
begins-before first [] (doc ∷ more) late begins =
    absurd (let lt = late.0 in let at : doc.num.0 ≡ first = begins in omega (arith, at, lt))
begins-before first (doc ∷ under) more late begins = begins

-- a front of a box, once documents of greater numbers came
module _ (entries : List Entry) (docs more : List Doc) (front : BoxFront) where
  abbrev is-boxed : Doc → Type 0
  is-boxed doc = is_in doc.num.0 entries ≡ true

  before : (key : ListKey) → front.first.0 ≤ length docs → Each (λ doc. length docs < doc.num.0) more
      → BeginsWith front.first.0 (docs_under key (docs ++ more)) → BeginsWith front.first.0 (docs_under key docs)
  before key stored late begins =
      begins-before front.first.0 (docs_under key docs) (docs_under key more)
      (each-filter (λ doc. front.first.0 < doc.num.0) (is_under_key key) more
      (each-map (λ doc. length docs < doc.num.0) (λ doc. front.first.0 < doc.num.0) more (λ doc lt. omega (arith, stored, lt)) late))
      (subst (BeginsWith front.first.0) (under-more key docs more) begins)

  in-box-later : Each (λ doc. length docs < doc.num.0) more → IsInBox entries docs front → IsInBox entries (docs ++ more) front
  in-box-later late is = record {
    stored = let len = length-append docs more in let le = is.stored in omega (arith, len, le);
    there = λ key kind begins.
        let le = is.there key kind (before key is.stored late begins) in
        let len : length (docs_under key (docs ++ more)) ≡ length (docs_under key docs) + length (docs_under key more) =
        ap length (under-more key docs more) ∙ length-append (docs_under key docs) (docs_under key more) in
        omega (arith, le, len);
    boxed = λ key kind begins.
        let old = before key is.stored late begins in
        let front-is : take front.len (docs_under key (docs ++ more)) ≡ take front.len (docs_under key docs) =
        ap (take front.len) (under-more key docs more)
        ∙ back-more front.len (docs_under key docs) (docs_under key more) (is.there key kind old) in
        subst (Each is-boxed) (sym front-is) (is.boxed key kind old);
  }

-- fronts are those of the boxes once documents of greater numbers came
pub fronts-later : (docs more : List Doc) (queries : List CachedQuery) (fronts : List BoxFront)
    → Each (λ doc. length docs < doc.num.0) more → AreFrontsOfBoxes docs queries fronts → AreFrontsOfBoxes (docs ++ more) queries fronts
fronts-later docs more queries fronts late are =
    each-map (IsFrontOfBox docs queries) (IsFrontOfBox (docs ++ more) queries) fronts
    (λ front is. record {
      there = is.there;
      boxed = λ kept has own. in-box-later kept.entries docs more front late (is.boxed kept has own);
    }) are

-- the same, once there is one query more
pub fronts-query : (docs : List Doc) (queries : List CachedQuery) (row : QueryRow) (fronts : List BoxFront)
    → row.num.0 ≡ length queries + 1 → AreFrontsOfBoxes docs queries fronts → AreFrontsOfBoxes docs (queries ++ never_run row ∷ []) fronts
fronts-query docs queries row fronts last are =
    each-map (IsFrontOfBox docs queries) (IsFrontOfBox docs (queries ++ never_run row ∷ [])) fronts (λ front is. next front is) are
  where
    -- no front is of its box
    not-new : (front : BoxFront) (kept : CachedQuery) → IsFrontOfBox docs queries front → front.query ≡ kept.row.num → kept ≡ never_run row
        → IsInBox kept.entries docs front
    not-new front kept is own e =
        let at : front.query.0 ≡ kept.row.num.0 = ap (λ (n : QueryNum). n.0) own in
        let new : kept.row.num.0 ≡ row.num.0 = ap (λ (k : CachedQuery). k.row.num.0) e in
        let le = is.there in
        absurd (omega (arith, at, new, last, le))

    one : (front : BoxFront) (kept : CachedQuery) → IsFrontOfBox docs queries front → front.query ≡ kept.row.num
        → In kept queries ⊎ In kept (never_run row ∷ []) → IsInBox kept.entries docs front
    one front kept is own (inl has) = is.boxed kept has own
    one front kept is own (inr (inl e)) = not-new front kept is own e
    one front kept is own (inr (inr none)) = absurd none

    next : (front : BoxFront) → IsFrontOfBox docs queries front → IsFrontOfBox docs (queries ++ never_run row ∷ []) front
    next front is = record {
      there = let len = length-append queries (never_run row ∷ []) in let le = is.there in omega (arith, len, le);
      boxed = λ kept has own. one front kept is own (append_in queries (never_run row ∷ []) kept has);
    }

-- a query as it was before some of its deliveries
record WasBefore (queries : List CachedQuery) (kept : CachedQuery) : Type 0 where
  old : CachedQuery
  has : In old queries
  row : kept.row ≡ old.row
  more : List Entry
  entries : kept.entries ≡ old.entries ++ more

was-there : (queries : List CachedQuery) (kept : CachedQuery) → In kept queries → WasBefore queries kept
was-there queries kept has = record { old = kept; has = has; row = refl; more = []; entries = sym (append-nil kept.entries) }

was-behind : (first : CachedQuery) (queries : List CachedQuery) (kept : CachedQuery) → WasBefore queries kept
    → WasBefore (first ∷ queries) kept
was-behind first queries kept was =
    record { old = was.old; has = inr was.has; row = was.row; more = was.more; entries = was.entries }

-- each query after a run of the one at a place
was-before : (i : ℕ) (queries : List CachedQuery) (m : ℤ) (entries : List Entry) (d kept : CachedQuery)
    → In kept (slice_set queries i (after_run m entries (slice_index_or queries i d))) → WasBefore queries kept
was-before i [] m entries d kept has = absurd has
was-before zero (first ∷ queries) m entries d kept (inl e) = record {
  old = first;
  has = inl refl;
  row = ap (λ (k : CachedQuery). k.row) e;
  more = entries;
  entries = ap (λ (k : CachedQuery). k.entries) e;
}
was-before zero (first ∷ queries) m entries d kept (inr has) = was-there (first ∷ queries) kept (inr has)
was-before (suc i) (first ∷ queries) m entries d kept (inl e) = was-there (first ∷ queries) kept (inl e)
was-before (suc i) (first ∷ queries) m entries d kept (inr has) =
    was-behind first queries kept (was-before i queries m entries d kept has)

pub length-set : (i : ℕ) (queries : List CachedQuery) (x : CachedQuery) → length (slice_set queries i x) ≡ length queries
length-set i [] x = refl
length-set zero (kept ∷ queries) x = refl
length-set (suc i) (kept ∷ queries) x = ap suc (length-set i queries x)

-- what is in a box is there after more deliveries
in-grown : (doc : ℕ) (entries more : List Entry) → is_in doc entries ≡ true → is_in doc (entries ++ more) ≡ true
in-grown doc entries more is =
    list_any-append (λ (e : Entry). nat_eq doc e.doc.0) entries more ∙ ap (λ b. b || is_in doc more) is

in-box-grown : (entries more all : List Entry) (docs : List Doc) (front : BoxFront) → all ≡ entries ++ more → IsInBox entries docs front
    → IsInBox all docs front
in-box-grown entries more all docs front e is = subst (λ l. IsInBox l docs front) (sym e) (record {
  stored = is.stored;
  there = is.there;
  boxed = λ key kind begins.
      each-map (λ doc. is_in doc.num.0 entries ≡ true) (λ doc. is_in doc.num.0 (entries ++ more) ≡ true)
      (take front.len (docs_under key docs)) (λ doc one. in-grown doc.num.0 entries more one) (is.boxed key kind begins);
})

-- fronts are those of the boxes after one more run of the query at a place
pub fronts-run : (docs : List Doc) (i : ℕ) (queries : List CachedQuery) (m : ℤ) (entries : List Entry) (d : CachedQuery)
    (fronts : List BoxFront) → AreFrontsOfBoxes docs queries fronts
    → AreFrontsOfBoxes docs (slice_set queries i (after_run m entries (slice_index_or queries i d))) fronts
fronts-run docs i queries m entries d fronts are =
    each-map (IsFrontOfBox docs queries)
    (IsFrontOfBox docs (slice_set queries i (after_run m entries (slice_index_or queries i d)))) fronts (λ front is. record {
      there = let len = length-set i queries (after_run m entries (slice_index_or queries i d)) in let le = is.there in
          omega (arith, len, le);
      boxed = λ kept has own. one front kept is own (was-before i queries m entries d kept has);
    }) are
  where
    one : (front : BoxFront) (kept : CachedQuery) → IsFrontOfBox docs queries front → front.query ≡ kept.row.num → WasBefore queries kept
        → IsInBox kept.entries docs front
    one front kept is own was = in-box-grown was.old.entries was.more kept.entries docs front was.entries
        (is.boxed was.old was.has (own ∙ ap (λ (row : QueryRow). row.num) was.row))

-- those of one of the queries are in its box
pub fronts-own : (docs : List Doc) (queries : List CachedQuery) (kept : CachedQuery) (fronts : List BoxFront) → In kept queries
    → AreFrontsOfBoxes docs queries fronts → AreInBox kept.row.num kept.entries docs fronts
fronts-own docs queries kept fronts has are =
    each-map (IsFrontOfBox docs queries) (λ front. front.query ≡ kept.row.num → IsInBox kept.entries docs front) fronts
    (λ front is own. is.boxed kept has own) are

-- with those that a run found of the only query of its number
pub fronts-found : (docs : List Doc) (queries : List CachedQuery) (kept : CachedQuery) (old new : List BoxFront)
    → kept.row.num.0 ≤ length queries
    → ((other : CachedQuery) → In other queries → other.row.num ≡ kept.row.num → other ≡ kept)
    → AddsFronts kept.row.num kept.entries docs old new → AreFrontsOfBoxes docs queries old → AreFrontsOfBoxes docs queries new
fronts-found docs queries kept old new le only adds are =
    each-map (λ front. In front old ⊎ ((front.query ≡ kept.row.num) × IsInBox kept.entries docs front)) (IsFrontOfBox docs queries) new
    (λ front one. found front one) adds
  where
    found : (front : BoxFront) → In front old ⊎ ((front.query ≡ kept.row.num) × IsInBox kept.entries docs front)
        → IsFrontOfBox docs queries front
    found front (inl has) = each_in (IsFrontOfBox docs queries) old front are has
    found front (inr one) = record {
      there = let at : front.query.0 ≡ kept.row.num.0 = ap (λ (n : QueryNum). n.0) one.0 in omega (arith, at, le);
      boxed = λ other has own.
          subst (λ (k : CachedQuery). IsInBox k.entries docs front) (sym (only other has (sym own ∙ one.0))) one.1;
    }
