-- The driving rows are just those whose mark lies in the window.
use Rattle.std.proofs.Common.{◌≡◌, ℤ, pos, true, false, List, [], ◌∷◌, Option, Some, None, refl, sym, ap, ◌∙◌, subst, inl, inr, map}
use Rattle.std.proofs.Common.{is_some}
use Rattle.std.specs.Prelude.{◌⊎◌, ◌&&◌, filter, fold, int_le, int_lt}
use Rattle.std.specs.Option.{unwrap_or}
use Rattle.std.proofs.lemmas.Bool.{cases_Bool, false≢true, and_parts, and_from}
use Rattle.tap_rows.specs.declared.rows.Doc.{Doc}
use Rattle.tap_rows.specs.declared.tables.Tables.{Tables}
use Rattle.tql_tree.specs.declared.table.Table.{Table}
use Rattle.tql_tree.specs.declared.table.Table.TheVariants.{Docs, Notes}
use Rattle.tql_core.specs.declared.term.Var.{Var}
use Rattle.tql_core.specs.Bounds.{is_bounded}
use Rattle.tql_core.specs.Row.{Row, OfDoc, OfNote, arrival, date, rows_of}
use Rattle.tap_rows.specs.Kept.{In}
use Rattle.tql_core.specs.Values.{bind, lookup, on_row, value}
use Rattle.tql_core.proofs.Bound.{bind_same}
use Rattle.row_index.specs.Orders.{in_window, doc_arrival, note_arrival}
use Rattle.row_index.specs.Dates.{has_date, stored_date, is_earlier, put_dated, in_date_order, dated_in}
use Rattle.time_marks.specs.declared.seek.Seek.{Seek}
use Rattle.time_marks.specs.declared.seek.Seek.TheVariants.{Arrived, Dated, Fixed, ArrivedDay, DatedDay}
use Rattle.time_marks.specs.declared.window.Window.{Window}
use Rattle.time_marks.specs.Windows.{is_within}
use Rattle.time_marks.specs.Seeks.{seek_of, seek_window, driving_second, lies_in}
use Rattle.time_marks.specs.Probes.{Probe}
use Rattle.time_marks.proofs.Lists.{in_map, map_in}
use Rattle.time_marks.proofs.SeekLaws.{solved}
use Rattle.probe_eval.specs.Drivers.{seek_var, arrived_rows, dated_rows, stored_rows, driving}
use Rattle.probe_eval.specs.Tables.{table_in}
use Rattle.probe_eval.proofs.Members.{in_filter, to_filter}
use Rattle.tap_rows.specs.Fields.{fields}
use Rattle.tap_rows.proofs.Tests.{some_same}

-- documents in order of date
in_put : (x d : Doc) (ds : List Doc) → In x (put_dated d ds) → (x ≡ d) ⊎ In x ds
in_put x d [] i = i
in_put x d (y ∷ ys) i =
    elim (cases_Bool (is_earlier d y)) [
      | inl e ↦ rw e at i
      | inr e ↦ other (rw e at i) (λ j. in_put x d ys j)
    ]
  where
    other : (x ≡ y) ⊎ In x (put_dated d ys) → (In x (put_dated d ys) → (x ≡ d) ⊎ In x ys) → (x ≡ d) ⊎ In x (y ∷ ys)
    other (inl q) f = inr (inl q)
    other (inr j) f = elim (f j) [ inl q ↦ inl q | inr k ↦ inr (inr k) ]

put_in : (x d : Doc) (ds : List Doc) → (x ≡ d) ⊎ In x ds → In x (put_dated d ds)
put_in x d [] i = i
put_in x d (y ∷ ys) i =
    elim (cases_Bool (is_earlier d y)) [
      | inl e ↦ rw e i
      | inr e ↦ rw e (other i (λ j. put_in x d ys j))
    ]
  where
    other : (x ≡ d) ⊎ In x (y ∷ ys) → ((x ≡ d) ⊎ In x ys → In x (put_dated d ys)) → (x ≡ y) ⊎ In x (put_dated d ys)
    other (inl q) f = inr (f (inl q))
    other (inr (inl q)) f = inl q
    other (inr (inr j)) f = inr (f (inr j))

in_fold : (x : Doc) (acc ds : List Doc) → In x (fold (λ sorted doc. put_dated doc sorted) acc ds) → In x acc ⊎ In x ds
in_fold x acc [] i = inl i
in_fold x acc (d ∷ ds) i = go (in_fold x (put_dated d acc) ds i)
  where
    first : (x ≡ d) ⊎ In x acc → In x acc ⊎ In x (d ∷ ds)
    first (inl q) = inr (inl q)
    first (inr j) = inl j

    go : In x (put_dated d acc) ⊎ In x ds → In x acc ⊎ In x (d ∷ ds)
    go (inl j) = first (in_put x d acc j)
    go (inr j) = inr (inr j)

fold_in : (x : Doc) (acc ds : List Doc) → In x acc ⊎ In x ds → In x (fold (λ sorted doc. put_dated doc sorted) acc ds)
fold_in x acc [] (inl i) = i
fold_in x acc [] (inr i) = absurd i
fold_in x acc (d ∷ ds) (inl i) = fold_in x (put_dated d acc) ds (inl (put_in x d acc (inr i)))
fold_in x acc (d ∷ ds) (inr (inl q)) = fold_in x (put_dated d acc) ds (inl (put_in x d acc (inl q)))
fold_in x acc (d ∷ ds) (inr (inr i)) = fold_in x (put_dated d acc) ds (inr i)

in_order_of : (x : Doc) (ds : List Doc) → In x (in_date_order ds) → In x ds × (has_date x ≡ true)
in_order_of x ds i = go (in_fold x [] (filter has_date ds) i)
  where
    go : In x [] ⊎ In x (filter has_date ds) → In x ds × (has_date x ≡ true)
    go (inl j) = absurd j
    go (inr j) = in_filter has_date ds x j

order_of_in : (x : Doc) (ds : List Doc) → In x ds → has_date x ≡ true → In x (in_date_order ds)
order_of_in x ds i h = fold_in x [] (filter has_date ds) (inr (to_filter has_date ds x i h))

-- a date in a window
pub date_lies : (w : Window) (d : Doc) → lies_in w (date (OfDoc d)) ≡ (has_date d && is_within w (stored_date d))
unfolding fields
date_lies w d = go (fields d).date
  where
    go : (o : Option ℤ) → lies_in w o ≡ (is_some o && is_within w (unwrap_or o (pos 0)))
    go None = refl
    go (Some x) = refl

module _ (w : Window) (T : Tables) where
  module _ {A : Type 0} (of : A → Row) (f : A → ℤ) (xs : List A) (same : (x : A) → arrival (of x) ≡ f x) where
    arrived_in : (row : Row) → In row (map of (in_window f w.low w.high xs)) → In row (map of xs) × (is_within w (arrival row) ≡ true)
    arrived_in row i =
        let k = map_in of (in_window f w.low w.high xs) row i in
        let j = in_filter (λ x. int_le w.low (f x) && int_lt (f x) w.high) xs k.0 k.1 in (
          subst (λ z. In z (map of xs)) (sym k.2) (in_map of xs k.0 j.0),
          ap (λ z. is_within w (arrival z)) k.2
              ∙ ap (λ z. is_within w z) (same k.0) ∙ j.1,
        )

    in_arrived : (row : Row) → In row (map of xs) → is_within w (arrival row) ≡ true → In row (map of (in_window f w.low w.high xs))
    in_arrived row i h =
        let k = map_in of xs row i in
        subst (λ z. In z (map of (in_window f w.low w.high xs))) (sym k.2)
        (in_map of (in_window f w.low w.high xs) k.0 (to_filter (λ x. int_le w.low (f x) && int_lt (f x) w.high) xs
        k.0 k.1 (ap (λ z. is_within w z) (sym (same k.0)) ∙ ap (λ z. is_within w (arrival z)) (sym k.2) ∙ h)))

  arrived_are : (t : Table) (row : Row) → In row (arrived_rows t w T) → In row (rows_of t T) × (is_within w (arrival row) ≡ true)
  arrived_are Docs row i = arrived_in OfDoc doc_arrival T.docs (λ x. refl) row i
  arrived_are Notes row i = arrived_in OfNote note_arrival T.notes (λ x. refl) row i

  are_arrived : (t : Table) (row : Row) → In row (rows_of t T) → is_within w (arrival row) ≡ true → In row (arrived_rows t w T)
  are_arrived Docs row i h = in_arrived OfDoc doc_arrival T.docs (λ x. refl) row i h
  are_arrived Notes row i h = in_arrived OfNote note_arrival T.notes (λ x. refl) row i h

  dated_are : (t : Table) (row : Row) → In row (dated_rows t w T) → In row (rows_of t T) × (lies_in w (date row) ≡ true)
  dated_are Notes row i = absurd i
  dated_are Docs row i =
      let k = map_in OfDoc (dated_in w.low w.high T.docs) row i in
      let j = in_filter (λ x. int_le w.low (stored_date x) && int_lt (stored_date x) w.high) (in_date_order T.docs) k.0 k.1 in
      let o = in_order_of k.0 T.docs j.0 in (
        subst (λ z. In z (map OfDoc T.docs)) (sym k.2) (in_map OfDoc T.docs k.0 o.0),
        ap (λ z. lies_in w (date z)) k.2 ∙ date_lies w k.0
            ∙ and_from (has_date k.0) _ o.1 j.1,
      )

  are_dated : (t : Table) (row : Row) → In row (rows_of t T) → lies_in w (date row) ≡ true → In row (dated_rows t w T)
  are_dated Notes row i h =
      let k = map_in OfNote T.notes row i in
      absurd (false≢true (ap (λ z. lies_in w (date z)) (sym k.2) ∙ h))
  are_dated Docs row i h =
      let k = map_in OfDoc T.docs row i in
      let p =
      and_parts (has_date k.0) (is_within w (stored_date k.0)) (sym (date_lies w k.0) ∙ ap (λ z. lies_in w (date z)) (sym k.2) ∙ h) in
      subst (λ z. In z (map OfDoc (dated_in w.low w.high T.docs))) (sym k.2)
      (in_map OfDoc (dated_in w.low w.high T.docs) k.0 (to_filter (λ x. int_le w.low (stored_date x) && int_lt (stored_date x) w.high)
      (in_date_order T.docs) k.0 (order_of_in k.0 T.docs k.1 p.0) p.1))

  module _ (v : Var) (row : Row) where
    arrival_stored : (u : Var) → Some u ≡ Some v → on_row (lookup u.0 (bind v row [])) (λ r. Some (arrival r)) ≡ Some (arrival row)
    arrival_stored u e = ap (λ (z : Var). on_row (lookup z.0 (bind v row [])) (λ r. Some (arrival r))) (some_same e)
        ∙ ap (λ o. on_row o (λ r. Some (arrival r))) (bind_same v row [])

    date_stored : (u : Var) → Some u ≡ Some v → on_row (lookup u.0 (bind v row [])) date ≡ date row
    date_stored u e = ap (λ (z : Var). on_row (lookup z.0 (bind v row [])) date) (some_same e)
        ∙ ap (λ o. on_row o date) (bind_same v row [])

    pub stored_are : (s : Seek) (t : Table) → seek_var s ≡ Some v → In row (stored_rows s t w T)
        → In row (rows_of t T) × (lies_in w (driving_second s (bind v row [])) ≡ true)
    stored_are (Arrived u n) t e i = let k = arrived_are t row i in (k.0, ap (lies_in w) (arrival_stored u e) ∙ k.1)
    stored_are (Dated u n) t e i = let k = dated_are t row i in (k.0, ap (lies_in w) (date_stored u e) ∙ k.1)
    stored_are (Fixed moment) t e i = absurd i
    stored_are (ArrivedDay u n) t e i = let k = arrived_are t row i in (k.0, ap (lies_in w) (arrival_stored u e) ∙ k.1)
    stored_are (DatedDay u n) t e i = let k = dated_are t row i in (k.0, ap (lies_in w) (date_stored u e) ∙ k.1)

    pub are_stored : (s : Seek) (t : Table) → seek_var s ≡ Some v → In row (rows_of t T)
        → lies_in w (driving_second s (bind v row [])) ≡ true → In row (stored_rows s t w T)
    are_stored (Arrived u n) t e i h = are_arrived t row i (ap (lies_in w) (sym (arrival_stored u e)) ∙ h)
    are_stored (Dated u n) t e i h = are_dated t row i (ap (lies_in w) (sym (date_stored u e)) ∙ h)
    are_stored (Fixed moment) t e i h = absurd (none_some e)
      where
        none_some : None ≡ Some v → ⊥
        none_some e = cc
    are_stored (ArrivedDay u n) t e i h = are_arrived t row i (ap (lies_in w) (sym (arrival_stored u e)) ∙ h)
    are_stored (DatedDay u n) t e i h = are_dated t row i (ap (lies_in w) (sym (date_stored u e)) ∙ h)

-- a driving row is a row of its table whose mark lies in the window, and each such row is one
module _ (T : Tables) (w : Window) (p : Probe) (v : Var) (bounded : is_bounded p.at ≡ true) (e : seek_var (seek_of p.at) ≡ Some v)
    (row : Row) where
  pub driven_are : In row (driving T w p (seek_of p.at) v)
      → In row (rows_of (table_in p.path v.0) T) × (lies_in w (value p.at (bind v row [])) ≡ true)
  driven_are i =
      let k = stored_are (seek_window w (seek_of p.at)) T v row (seek_of p.at) (table_in p.path v.0) e i in
      (k.0, solved p.at w (bind v row []) bounded ∙ k.1)

  pub are_driven : In row (rows_of (table_in p.path v.0) T) → lies_in w (value p.at (bind v row [])) ≡ true
      → In row (driving T w p (seek_of p.at) v)
  are_driven i h = are_stored (seek_window w (seek_of p.at)) T v row (seek_of p.at) (table_in p.path v.0) e i
      (sym (solved p.at w (bind v row []) bounded) ∙ h)
