-- What the statements that read the tables show.
use Rattle.std.proofs.Common.{◌≡◌, List, [], ◌∷◌, map, map-id, filter, true, refl, sym, ap, ◌∙◌, Ordering, Less, Equal, Greater, int_cmp}
use Rattle.std.specs.Ordering.{ordering_then}
use Rattle.sqlite_value.specs.declared.value.Value.TheVariants.{Null}
use Rattle.sqlite_value.specs.Order.{Row}
use Rattle.sqlite_value.proofs.OrderLemmas.{value_cmp-Int}
use Rattle.sqlite_sql.specs.Program.{overlay}
use Rattle.sqlite_sql.specs.Term.{col}
use Rattle.sqlite_typed.proofs.AnswerLemmas.{last_table, at_end, answer_by_keys}
use Rattle.sqlite.specs.State.{State, Shown}
use Rattle.sqlite.proofs.Callers.{reads_as}
use Rattle.keeper_sql.specs.Schema.{store_schema, select_meta, select_docs, select_notes, select_queries, select_runs, select_picks}
use Rattle.keeper_sql.specs.Schema.{select_filters}
use Rattle.keeper_sql.specs.RowsAsValues.{show_version, show_doc, show_note, show_query, show_run, show_pick, show_filter}
use Rattle.keeper_sql.specs.Store.{Cells, as_row, AreKeyed}
use Rattle.keeper_sql.proofs.SelectTexts.{all_rows, meta_selected, meta_select_plain, docs_selected, docs_select_plain, notes_selected}
use Rattle.keeper_sql.proofs.SelectTexts.{notes_select_plain, queries_selected, queries_select_plain, runs_selected, runs_select_plain}
use Rattle.keeper_sql.proofs.SelectTexts.{picks_selected, picks_select_plain, filters_selected, filters_select_plain}

filter_true : {X : Type 0} (xs : List X) → filter (λ _. true) xs ≡ xs
filter_true [] = refl
filter_true (x ∷ xs) = ap (λ l. x ∷ l) (filter_true xs)

then_equal : (o : Ordering) → ordering_then o Equal ≡ o
then_equal Less = refl
then_equal Equal = refl
then_equal Greater = refl

map_twice : {X : Type 0} (show : Row → Row) (f : X → Row) (xs : List X) → map show (map f xs) ≡ map (λ x. show (f x)) xs
map_twice show f [] = refl
map_twice show f (x ∷ xs) = ap (λ l. show (f x) ∷ l) (map_twice show f xs)

pub meta_shown : (old new : State) (rows : List Row) → old.now.schema ≡ store_schema → AreKeyed (old.now.trees 0)
    → Shown select_meta [] old new rows → rows ≡ map show_version (old.now.trees 0)
meta_shown old new rows has keyed h =
    let got = reads_as select_meta [] old new store_schema has _ meta_selected.0 meta_select_plain meta_selected.1 rows h in
    let xs = keyed.0 in
    let db = overlay old.now.trees [] in
    let source = last_table db 0 as_row (λ (x : Cells). x.0) xs keyed.1 keyed.2 (at_end db) in
    let found = answer_by_keys (all_rows 0 (col 1 0 ∷ col 1 2 ∷ [])) db [] source (λ _. true) (λ a. refl) (λ (r : Row). r)
    (λ x. show_version (as_row x)) (λ a. refl) refl refl
    (λ (a b : Cells). ap (λ o. ordering_then o Equal) (value_cmp-Int a.0 b.0) ∙ then_equal (int_cmp a.0 b.0)) rows (got.answer Null) in
    sym (map-id rows) ∙ found ∙ ap (map (λ x. show_version (as_row x))) (filter_true xs) ∙ sym (map_twice show_version as_row xs)
    ∙ ap (map show_version) (sym keyed.1)

pub docs_shown : (old new : State) (rows : List Row) → old.now.schema ≡ store_schema → AreKeyed (old.now.trees 1)
    → Shown select_docs [] old new rows → rows ≡ map show_doc (old.now.trees 1)
docs_shown old new rows has keyed h =
    let got = reads_as select_docs [] old new store_schema has _ docs_selected.0 docs_select_plain docs_selected.1 rows h in
    let xs = keyed.0 in
    let db = overlay old.now.trees [] in
    let source = last_table db 1 as_row (λ (x : Cells). x.0) xs keyed.1 keyed.2 (at_end db) in
    let found = answer_by_keys (all_rows 1 (col 1 0 ∷ col 1 2 ∷ col 1 3 ∷ [])) db [] source (λ _. true) (λ a. refl) (λ (r : Row). r)
    (λ x. show_doc (as_row x)) (λ a. refl) refl refl
    (λ (a b : Cells). ap (λ o. ordering_then o Equal) (value_cmp-Int a.0 b.0) ∙ then_equal (int_cmp a.0 b.0)) rows (got.answer Null) in
    sym (map-id rows) ∙ found ∙ ap (map (λ x. show_doc (as_row x))) (filter_true xs) ∙ sym (map_twice show_doc as_row xs)
    ∙ ap (map show_doc) (sym keyed.1)

pub notes_shown : (old new : State) (rows : List Row) → old.now.schema ≡ store_schema → AreKeyed (old.now.trees 2)
    → Shown select_notes [] old new rows → rows ≡ map show_note (old.now.trees 2)
notes_shown old new rows has keyed h =
    let got = reads_as select_notes [] old new store_schema has _ notes_selected.0 notes_select_plain notes_selected.1 rows h in
    let xs = keyed.0 in
    let db = overlay old.now.trees [] in
    let source = last_table db 2 as_row (λ (x : Cells). x.0) xs keyed.1 keyed.2 (at_end db) in
    let found = answer_by_keys (all_rows 2 (col 1 0 ∷ col 1 2 ∷ col 1 3 ∷ col 1 4 ∷ col 1 5 ∷ col 1 6 ∷ col 1 7 ∷ [])) db [] source
    (λ _. true) (λ a. refl) (λ (r : Row). r) (λ x. show_note (as_row x)) (λ a. refl) refl refl
    (λ (a b : Cells). ap (λ o. ordering_then o Equal) (value_cmp-Int a.0 b.0) ∙ then_equal (int_cmp a.0 b.0)) rows (got.answer Null) in
    sym (map-id rows) ∙ found ∙ ap (map (λ x. show_note (as_row x))) (filter_true xs) ∙ sym (map_twice show_note as_row xs)
    ∙ ap (map show_note) (sym keyed.1)

pub queries_shown : (old new : State) (rows : List Row) → old.now.schema ≡ store_schema → AreKeyed (old.now.trees 3)
    → Shown select_queries [] old new rows → rows ≡ map show_query (old.now.trees 3)
queries_shown old new rows has keyed h =
    let got = reads_as select_queries [] old new store_schema has _ queries_selected.0 queries_select_plain queries_selected.1 rows h in
    let xs = keyed.0 in
    let db = overlay old.now.trees [] in
    let source = last_table db 3 as_row (λ (x : Cells). x.0) xs keyed.1 keyed.2 (at_end db) in
    let found = answer_by_keys (all_rows 3 (col 1 0 ∷ col 1 2 ∷ col 1 3 ∷ col 1 4 ∷ col 1 5 ∷ [])) db [] source (λ _. true) (λ a. refl)
    (λ (r : Row). r) (λ x. show_query (as_row x)) (λ a. refl) refl refl
    (λ (a b : Cells). ap (λ o. ordering_then o Equal) (value_cmp-Int a.0 b.0) ∙ then_equal (int_cmp a.0 b.0)) rows (got.answer Null) in
    sym (map-id rows) ∙ found ∙ ap (map (λ x. show_query (as_row x))) (filter_true xs) ∙ sym (map_twice show_query as_row xs)
    ∙ ap (map show_query) (sym keyed.1)

pub runs_shown : (old new : State) (rows : List Row) → old.now.schema ≡ store_schema → AreKeyed (old.now.trees 4)
    → Shown select_runs [] old new rows → rows ≡ map show_run (old.now.trees 4)
runs_shown old new rows has keyed h =
    let got = reads_as select_runs [] old new store_schema has _ runs_selected.0 runs_select_plain runs_selected.1 rows h in
    let xs = keyed.0 in
    let db = overlay old.now.trees [] in
    let source = last_table db 4 as_row (λ (x : Cells). x.0) xs keyed.1 keyed.2 (at_end db) in
    let found = answer_by_keys (all_rows 4 (col 1 0 ∷ col 1 2 ∷ col 1 3 ∷ [])) db [] source (λ _. true) (λ a. refl) (λ (r : Row). r)
    (λ x. show_run (as_row x)) (λ a. refl) refl refl
    (λ (a b : Cells). ap (λ o. ordering_then o Equal) (value_cmp-Int a.0 b.0) ∙ then_equal (int_cmp a.0 b.0)) rows (got.answer Null) in
    sym (map-id rows) ∙ found ∙ ap (map (λ x. show_run (as_row x))) (filter_true xs) ∙ sym (map_twice show_run as_row xs)
    ∙ ap (map show_run) (sym keyed.1)

pub picks_shown : (old new : State) (rows : List Row) → old.now.schema ≡ store_schema → AreKeyed (old.now.trees 5)
    → Shown select_picks [] old new rows → rows ≡ map show_pick (old.now.trees 5)
picks_shown old new rows has keyed h =
    let got = reads_as select_picks [] old new store_schema has _ picks_selected.0 picks_select_plain picks_selected.1 rows h in
    let xs = keyed.0 in
    let db = overlay old.now.trees [] in
    let source = last_table db 5 as_row (λ (x : Cells). x.0) xs keyed.1 keyed.2 (at_end db) in
    let found = answer_by_keys (all_rows 5 (col 1 0 ∷ col 1 2 ∷ col 1 3 ∷ col 1 4 ∷ col 1 5 ∷ [])) db [] source (λ _. true) (λ a. refl)
    (λ (r : Row). r) (λ x. show_pick (as_row x)) (λ a. refl) refl refl
    (λ (a b : Cells). ap (λ o. ordering_then o Equal) (value_cmp-Int a.0 b.0) ∙ then_equal (int_cmp a.0 b.0)) rows (got.answer Null) in
    sym (map-id rows) ∙ found ∙ ap (map (λ x. show_pick (as_row x))) (filter_true xs) ∙ sym (map_twice show_pick as_row xs)
    ∙ ap (map show_pick) (sym keyed.1)

pub filters_shown : (old new : State) (rows : List Row) → old.now.schema ≡ store_schema → AreKeyed (old.now.trees 6)
    → Shown select_filters [] old new rows → rows ≡ map show_filter (old.now.trees 6)
filters_shown old new rows has keyed h =
    let got = reads_as select_filters [] old new store_schema has _ filters_selected.0 filters_select_plain filters_selected.1 rows h in
    let xs = keyed.0 in
    let db = overlay old.now.trees [] in
    let source = last_table db 6 as_row (λ (x : Cells). x.0) xs keyed.1 keyed.2 (at_end db) in
    let found = answer_by_keys (all_rows 6 (col 1 0 ∷ col 1 2 ∷ col 1 3 ∷ col 1 4 ∷ [])) db [] source (λ _. true) (λ a. refl)
    (λ (r : Row). r) (λ x. show_filter (as_row x)) (λ a. refl) refl refl
    (λ (a b : Cells). ap (λ o. ordering_then o Equal) (value_cmp-Int a.0 b.0) ∙ then_equal (int_cmp a.0 b.0)) rows (got.answer Null) in
    sym (map-id rows) ∙ found ∙ ap (map (λ x. show_filter (as_row x))) (filter_true xs) ∙ sym (map_twice show_filter as_row xs)
    ∙ ap (map show_filter) (sym keyed.1)
