-- What the rows of a change make of the tables that a database holds.
use Rattle.std.proofs.Common.{◌≡◌, ◌+◌, ℕ, List, [], ◌∷◌, ◌++◌, map, length, true, refl, sym, ap, subst, ◌∙◌}
use Rattle.std.specs.List.{AllZip}
use Rattle.std.proofs.lemmas.List.{length-map}
use Rattle.std.proofs.lemmas.Bool.{and_parts}
use Rattle.tap_rows.specs.declared.rows.Doc.{Doc}
use Rattle.tap_rows.specs.declared.rows.Note.{Note}
use Rattle.tap_rows.specs.declared.rows.QueryRow.{QueryRow}
use Rattle.tap_rows.specs.declared.rows.RunRow.{RunRow}
use Rattle.tap_rows.specs.declared.rows.Pick.{Pick}
use Rattle.tap_rows.specs.declared.rows.FilterRow.{FilterRow}
use Rattle.tap_rows.specs.declared.tables.Tables.{Tables}
use Rattle.tap_rows.specs.declared.change.Change.{Change}
use Rattle.tap_rows.specs.declared.change.Change.TheVariants.{Docs, OneNote, OneQuery, RunDone, OneFilter}
use Rattle.tap_rows.specs.Tables.{after}
use Rattle.tap_rows.specs.WellFormed.{is_well_formed}
use Rattle.tap_rows.specs.Fits.{fits}
use Rattle.sqlite_value.specs.Order.{Row}
use Rattle.sqlite_schema.specs.declared.schema.Table.{Table}
use Rattle.sqlite_schema.specs.declared.schema.Schema.{Schema}
use Rattle.sqlite_trees.specs.Tree.{Trees}
use Rattle.sqlite_catalog.specs.Listing.{IsSound, IsTableRow}
use Rattle.sqlite.specs.Effect.{Database}
use Rattle.keeper_sql.specs.Schema.{store_schema}
use Rattle.keeper_sql.specs.RowsAsValues.{tables_in, tables_listed, tables_of, added_rows, IsReadBack, as_kept, given_doc, doc_in}
use Rattle.keeper_sql.specs.RowsAsValues.{given_note, note_in, given_query, query_in, given_run, run_in, given_pick, pick_in, given_filter}
use Rattle.keeper_sql.specs.RowsAsValues.{filter_in}
use Rattle.keeper_sql.specs.Store.{Puts, HoldsStore, AreKeyed, IsMeta, put_all}
use Rattle.keeper_sql.proofs.Appending.{NumberedBy, key_number, numbered_map, append_rows, read_appended, back_numbers}
use Rattle.keeper_sql.proofs.Numbered.{docs_numbered, note_numbered, notes_numbered, query_numbered, queries_numbered, run_numbered}
use Rattle.keeper_sql.proofs.Numbered.{runs_numbered, picks_numbered, filter_numbered, filters_numbered}

not_bare : (rows : List Row) (t : Table) (ts : List Table) (db : Trees) → AllZip IsTableRow rows (t ∷ ts)
    → tables_listed rows db ≡ tables_in db
not_bare [] t ts db h = absurd h
not_bare (r ∷ rows) t ts db h = refl

-- where the store has its tables, they are read from their trees
pub listed : (db : Database) → HoldsStore db → tables_of db.trees ≡ tables_in db.trees
listed db holds =
    let sound : IsSound store_schema db.trees = subst (λ (s : Schema). IsSound s db.trees) holds.schema holds.sound in
    not_bare _ _ _ db.trees sound.lists.listed.tables

abbrev tail_of : Row → Row
tail_of [] = []
tail_of (v ∷ vs) = vs

docs_in_order : (t : Tables) → is_well_formed t ≡ true → NumberedBy (λ (d : Doc). d.num.0) 1 t.docs
docs_in_order t h = docs_numbered 1 _ t.docs ((and_parts _ _ (and_parts _ _ (and_parts _ _ (and_parts _ _ (and_parts _ _ h).0).0).0).0).0)

notes_in_order : (t : Tables) → is_well_formed t ≡ true → NumberedBy (λ (n : Note). n.num.0) 1 t.notes
notes_in_order t h =
    notes_numbered t.docs 1 _ t.notes ((and_parts _ _ (and_parts _ _ (and_parts _ _ (and_parts _ _ (and_parts _ _ h).0).0).0).0).1)

queries_in_order : (t : Tables) → is_well_formed t ≡ true → NumberedBy (λ (q : QueryRow). q.num.0) 1 t.queries
queries_in_order t h = queries_numbered [] 1 _ t.queries ((and_parts _ _ (and_parts _ _ (and_parts _ _ (and_parts _ _ h).0).0).0).1)

runs_in_order : (t : Tables) → is_well_formed t ≡ true → NumberedBy (λ (r : RunRow). r.num) 1 t.runs
runs_in_order t h = runs_numbered t.queries 1 _ t.runs ((and_parts _ _ (and_parts _ _ (and_parts _ _ h).0).0).1)

picks_in_order : (t : Tables) → is_well_formed t ≡ true → NumberedBy (λ (p : Pick). p.num) 1 t.picks
picks_in_order t h = picks_numbered t.runs t.docs [] 1 _ t.picks ((and_parts _ _ (and_parts _ _ h).0).1)

filters_in_order : (t : Tables) → is_well_formed t ≡ true → NumberedBy (λ (f : FilterRow). f.num) 1 t.filters
filters_in_order t h = filters_numbered 1 _ t.filters ((and_parts _ _ h).1)

docs_appended : (old new : Database) (xs : List Doc) → HoldsStore old → is_well_formed (tables_in old.trees) ≡ true
    → NumberedBy (λ (d : Doc). d.num.0) (length (map doc_in (old.trees 1)) + 1) xs
    → map doc_in (map (λ x. as_kept (given_doc x)) xs) ≡ xs → new.trees 1 ≡ put_all (map (λ x. as_kept (given_doc x)) xs) (old.trees 1)
    → AreKeyed (new.trees 1) × (map doc_in (new.trees 1) ≡ map doc_in (old.trees 1) ++ xs)
docs_appended old new xs holds formed next back put =
    let write : Doc → Row = λ x. as_kept (given_doc x) in
    let number : Doc → ℕ = λ d. d.num.0 in
    let tree = old.trees 1 in
    let numbered : NumberedBy key_number 1 tree = numbered_map doc_in number 1 tree (docs_in_order (tables_in old.trees) formed) in
    let next' : NumberedBy number (length tree + 1) xs = subst (λ len. NumberedBy number (len + 1) xs) (length-map tree doc_in) next in
    let all = append_rows write number (λ x. tail_of (write x)) (λ x. refl) tree xs holds.docs numbered next'
    (back_numbers write doc_in number (λ r. refl) xs back) in
    (subst AreKeyed (sym (put ∙ all.0)) all.1, read_appended doc_in tree (new.trees 1) (map write xs) xs (put ∙ all.0) back)

notes_appended : (old new : Database) (xs : List Note) → HoldsStore old → is_well_formed (tables_in old.trees) ≡ true
    → NumberedBy (λ (n : Note). n.num.0) (length (map note_in (old.trees 2)) + 1) xs
    → map note_in (map (λ x. as_kept (given_note x)) xs) ≡ xs → new.trees 2 ≡ put_all (map (λ x. as_kept (given_note x)) xs) (old.trees 2)
    → AreKeyed (new.trees 2) × (map note_in (new.trees 2) ≡ map note_in (old.trees 2) ++ xs)
notes_appended old new xs holds formed next back put =
    let write : Note → Row = λ x. as_kept (given_note x) in
    let number : Note → ℕ = λ n. n.num.0 in
    let tree = old.trees 2 in
    let numbered : NumberedBy key_number 1 tree = numbered_map note_in number 1 tree (notes_in_order (tables_in old.trees) formed) in
    let next' : NumberedBy number (length tree + 1) xs = subst (λ len. NumberedBy number (len + 1) xs) (length-map tree note_in) next in
    let all = append_rows write number (λ x. tail_of (write x)) (λ x. refl) tree xs holds.notes numbered next'
    (back_numbers write note_in number (λ r. refl) xs back) in
    (subst AreKeyed (sym (put ∙ all.0)) all.1, read_appended note_in tree (new.trees 2) (map write xs) xs (put ∙ all.0) back)

queries_appended : (old new : Database) (xs : List QueryRow) → HoldsStore old → is_well_formed (tables_in old.trees) ≡ true
    → NumberedBy (λ (q : QueryRow). q.num.0) (length (map query_in (old.trees 3)) + 1) xs
    → map query_in (map (λ x. as_kept (given_query x)) xs) ≡ xs
    → new.trees 3 ≡ put_all (map (λ x. as_kept (given_query x)) xs) (old.trees 3)
    → AreKeyed (new.trees 3) × (map query_in (new.trees 3) ≡ map query_in (old.trees 3) ++ xs)
queries_appended old new xs holds formed next back put =
    let write : QueryRow → Row = λ x. as_kept (given_query x) in
    let number : QueryRow → ℕ = λ q. q.num.0 in
    let tree = old.trees 3 in
    let numbered : NumberedBy key_number 1 tree = numbered_map query_in number 1 tree (queries_in_order (tables_in old.trees) formed) in
    let next' : NumberedBy number (length tree + 1) xs = subst (λ len. NumberedBy number (len + 1) xs) (length-map tree query_in) next in
    let all = append_rows write number (λ x. tail_of (write x)) (λ x. refl) tree xs holds.queries numbered next'
    (back_numbers write query_in number (λ r. refl) xs back) in
    (subst AreKeyed (sym (put ∙ all.0)) all.1, read_appended query_in tree (new.trees 3) (map write xs) xs (put ∙ all.0) back)

runs_appended : (old new : Database) (xs : List RunRow) → HoldsStore old → is_well_formed (tables_in old.trees) ≡ true
    → NumberedBy (λ (r : RunRow). r.num) (length (map run_in (old.trees 4)) + 1) xs
    → map run_in (map (λ x. as_kept (given_run x)) xs) ≡ xs → new.trees 4 ≡ put_all (map (λ x. as_kept (given_run x)) xs) (old.trees 4)
    → AreKeyed (new.trees 4) × (map run_in (new.trees 4) ≡ map run_in (old.trees 4) ++ xs)
runs_appended old new xs holds formed next back put =
    let write : RunRow → Row = λ x. as_kept (given_run x) in
    let number : RunRow → ℕ = λ r. r.num in
    let tree = old.trees 4 in
    let numbered : NumberedBy key_number 1 tree = numbered_map run_in number 1 tree (runs_in_order (tables_in old.trees) formed) in
    let next' : NumberedBy number (length tree + 1) xs = subst (λ len. NumberedBy number (len + 1) xs) (length-map tree run_in) next in
    let all = append_rows write number (λ x. tail_of (write x)) (λ x. refl) tree xs holds.runs numbered next'
    (back_numbers write run_in number (λ r. refl) xs back) in
    (subst AreKeyed (sym (put ∙ all.0)) all.1, read_appended run_in tree (new.trees 4) (map write xs) xs (put ∙ all.0) back)

picks_appended : (old new : Database) (xs : List Pick) → HoldsStore old → is_well_formed (tables_in old.trees) ≡ true
    → NumberedBy (λ (p : Pick). p.num) (length (map pick_in (old.trees 5)) + 1) xs
    → map pick_in (map (λ x. as_kept (given_pick x)) xs) ≡ xs → new.trees 5 ≡ put_all (map (λ x. as_kept (given_pick x)) xs) (old.trees 5)
    → AreKeyed (new.trees 5) × (map pick_in (new.trees 5) ≡ map pick_in (old.trees 5) ++ xs)
picks_appended old new xs holds formed next back put =
    let write : Pick → Row = λ x. as_kept (given_pick x) in
    let number : Pick → ℕ = λ p. p.num in
    let tree = old.trees 5 in
    let numbered : NumberedBy key_number 1 tree = numbered_map pick_in number 1 tree (picks_in_order (tables_in old.trees) formed) in
    let next' : NumberedBy number (length tree + 1) xs = subst (λ len. NumberedBy number (len + 1) xs) (length-map tree pick_in) next in
    let all = append_rows write number (λ x. tail_of (write x)) (λ x. refl) tree xs holds.picks numbered next'
    (back_numbers write pick_in number (λ r. refl) xs back) in
    (subst AreKeyed (sym (put ∙ all.0)) all.1, read_appended pick_in tree (new.trees 5) (map write xs) xs (put ∙ all.0) back)

filters_appended : (old new : Database) (xs : List FilterRow) → HoldsStore old → is_well_formed (tables_in old.trees) ≡ true
    → NumberedBy (λ (f : FilterRow). f.num) (length (map filter_in (old.trees 6)) + 1) xs
    → map filter_in (map (λ x. as_kept (given_filter x)) xs) ≡ xs
    → new.trees 6 ≡ put_all (map (λ x. as_kept (given_filter x)) xs) (old.trees 6)
    → AreKeyed (new.trees 6) × (map filter_in (new.trees 6) ≡ map filter_in (old.trees 6) ++ xs)
filters_appended old new xs holds formed next back put =
    let write : FilterRow → Row = λ x. as_kept (given_filter x) in
    let number : FilterRow → ℕ = λ f. f.num in
    let tree = old.trees 6 in
    let numbered : NumberedBy key_number 1 tree = numbered_map filter_in number 1 tree (filters_in_order (tables_in old.trees) formed) in
    let next' : NumberedBy number (length tree + 1) xs = subst (λ len. NumberedBy number (len + 1) xs) (length-map tree filter_in) next in
    let all = append_rows write number (λ x. tail_of (write x)) (λ x. refl) tree xs holds.filters numbered next'
    (back_numbers write filter_in number (λ r. refl) xs back) in
    (subst AreKeyed (sym (put ∙ all.0)) all.1, read_appended filter_in tree (new.trees 6) (map write xs) xs (put ∙ all.0) back)

pub rows_after : (change : Change) (old new : Database) → HoldsStore old → is_well_formed (tables_in old.trees) ≡ true
    → fits (tables_in old.trees) change ≡ true → IsReadBack change → Puts (added_rows change) old new
    → HoldsStore new × (tables_in new.trees ≡ after (tables_in old.trees) change)
rows_after (Docs docs) old new holds formed fit back puts =
    let docs = docs_appended old new docs holds formed (docs_numbered _ _ docs fit) back puts.docs in (
      record {
        sound = puts.sound holds.sound;
        schema = puts.schema;
        meta = subst IsMeta (sym puts.meta) holds.meta;
        docs = docs.0;
        notes = subst AreKeyed (sym puts.notes) holds.notes;
        queries = subst AreKeyed (sym puts.queries) holds.queries;
        runs = subst AreKeyed (sym puts.runs) holds.runs;
        picks = subst AreKeyed (sym puts.picks) holds.picks;
        filters = subst AreKeyed (sym puts.filters) holds.filters;
      },
      λ i. record {
        docs = docs.1 i;
        notes = map note_in (puts.notes i);
        queries = map query_in (puts.queries i);
        runs = map run_in (puts.runs i);
        picks = map pick_in (puts.picks i);
        filters = map filter_in (puts.filters i);
      },
    )
rows_after (OneNote note) old new holds formed fit back puts =
    let notes = notes_appended old new (note ∷ []) holds formed (note_numbered _ _ _ note fit, tt) (ap (λ x. x ∷ []) back) puts.notes in (
      record {
        sound = puts.sound holds.sound;
        schema = puts.schema;
        meta = subst IsMeta (sym puts.meta) holds.meta;
        docs = subst AreKeyed (sym puts.docs) holds.docs;
        notes = notes.0;
        queries = subst AreKeyed (sym puts.queries) holds.queries;
        runs = subst AreKeyed (sym puts.runs) holds.runs;
        picks = subst AreKeyed (sym puts.picks) holds.picks;
        filters = subst AreKeyed (sym puts.filters) holds.filters;
      },
      λ i. record {
        docs = map doc_in (puts.docs i);
        notes = notes.1 i;
        queries = map query_in (puts.queries i);
        runs = map run_in (puts.runs i);
        picks = map pick_in (puts.picks i);
        filters = map filter_in (puts.filters i);
      },
    )
rows_after (OneQuery query) old new holds formed fit back puts =
    let queries =
    queries_appended old new (query ∷ []) holds formed (query_numbered _ _ _ query fit, tt) (ap (λ x. x ∷ []) back) puts.queries in (
      record {
        sound = puts.sound holds.sound;
        schema = puts.schema;
        meta = subst IsMeta (sym puts.meta) holds.meta;
        docs = subst AreKeyed (sym puts.docs) holds.docs;
        notes = subst AreKeyed (sym puts.notes) holds.notes;
        queries = queries.0;
        runs = subst AreKeyed (sym puts.runs) holds.runs;
        picks = subst AreKeyed (sym puts.picks) holds.picks;
        filters = subst AreKeyed (sym puts.filters) holds.filters;
      },
      λ i. record {
        docs = map doc_in (puts.docs i);
        notes = map note_in (puts.notes i);
        queries = queries.1 i;
        runs = map run_in (puts.runs i);
        picks = map pick_in (puts.picks i);
        filters = map filter_in (puts.filters i);
      },
    )
rows_after (RunDone run picked) old new holds formed fit back puts =
    let runs =
    runs_appended old new (run ∷ []) holds formed (run_numbered _ _ _ run (and_parts _ _ fit).0, tt) (ap (λ x. x ∷ []) back.0) puts.runs in
    let picks = picks_appended old new picked holds formed (picks_numbered _ _ _ _ _ picked (and_parts _ _ fit).1) back.1 puts.picks in (
      record {
        sound = puts.sound holds.sound;
        schema = puts.schema;
        meta = subst IsMeta (sym puts.meta) holds.meta;
        docs = subst AreKeyed (sym puts.docs) holds.docs;
        notes = subst AreKeyed (sym puts.notes) holds.notes;
        queries = subst AreKeyed
            (sym puts.queries) holds.queries;
        runs = runs.0;
        picks = picks.0;
        filters = subst AreKeyed (sym puts.filters) holds.filters;
      },
      λ i. record {
        docs = map doc_in (puts.docs i);
        notes = map note_in (puts.notes i);
        queries = map query_in (puts.queries i);
        runs = runs.1 i;
        picks = picks.1 i;
        filters = map filter_in (puts.filters i);
      },
    )
rows_after (OneFilter filter) old new holds formed fit back puts =
    let filters =
    filters_appended old new (filter ∷ []) holds formed (filter_numbered _ _ filter fit, tt) (ap (λ x. x ∷ []) back) puts.filters in (
      record {
        sound = puts.sound holds.sound;
        schema = puts.schema;
        meta = subst IsMeta (sym puts.meta) holds.meta;
        docs = subst AreKeyed (sym puts.docs) holds.docs;
        notes = subst AreKeyed (sym puts.notes) holds.notes;
        queries = subst AreKeyed (sym puts.queries) holds.queries;
        runs = subst AreKeyed (sym puts.runs) holds.runs;
        picks = subst AreKeyed (sym puts.picks) holds.picks;
        filters = filters.0;
      },
      λ i. record {
        docs = map doc_in (puts.docs i);
        notes = map note_in (puts.notes i);
        queries = map query_in (puts.queries i);
        runs = map run_in (puts.runs i);
        picks = map pick_in (puts.picks i);
        filters = filters.1 i;
      },
    )

-- the tables of a store after the rows of a change were put
pub tables_after : (change : Change) (s : Tables) (old new : Database) → HoldsStore old → s ≡ tables_of old.trees → is_well_formed s ≡ true
    → fits s change ≡ true → IsReadBack change → Puts (added_rows change) old new
    → HoldsStore new × (tables_of new.trees ≡ after s change)
tables_after change s old new holds is formed fit back puts =
    let same : s ≡ tables_in old.trees = is ∙ listed old holds in
    let all = rows_after change old new holds (subst (λ t. is_well_formed t ≡ true) same formed)
    (subst (λ t. fits t change ≡ true) same fit) back puts in
    (all.0, listed new all.0 ∙ all.1 ∙ ap (λ t. after t change) (sym same))
