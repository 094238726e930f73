-- Driving rows stand in order of their marks.
use Rattle.std.proofs.Common.{◌≡◌, ◌∙◌, ℕ, ℤ, pos, Bool, true, false, List, [], ◌∷◌, map, Option, Some, None, refl, sym, ap, subst, inl}
use Rattle.std.proofs.Common.{inr, arith}
use Rattle.std.specs.Prelude.{◌⊎◌, ◌&&◌, ◌||◌, not, ◌+ℤ◌, ◌≤ℤ◌, ◌<ℤ◌, filter, fold, int_le, int_lt, nat_lt}
use Rattle.std.specs.Option.{unwrap_or}
use Rattle.std.proofs.lemmas.Int.{ints, by_lt_z}
use Rattle.std.proofs.lemmas.Bool.{cases_Bool}
use Rattle.tap_rows.specs.declared.rows.Doc.{Doc}
use Rattle.tap_rows.specs.declared.tables.Tables.{Tables}
use Rattle.tap_rows.specs.Kept.{In}
use Rattle.tql_tree.specs.declared.table.Table.{Table}
use Rattle.tql_tree.specs.declared.table.Table.TheVariants.{Docs, Notes}
use Rattle.tql_core.specs.declared.term.Var.{Var}
use Rattle.tql_core.specs.declared.term.Base.{Base}
use Rattle.tql_core.specs.declared.term.Base.TheVariants as B
use Rattle.tql_core.specs.Row.{Row, OfDoc, OfNote, arrival, date}
use Rattle.tql_core.specs.declared.atom.Atom.{Atom}
use Rattle.tql_core.specs.Values.{Env, bind, lookup, on_row, round_up_to_day, day_of, plus_to, base_value, value, true_atom}
use Rattle.tql_core.proofs.Bound.{bind_same}
use Rattle.row_index.specs.Orders.{IsRisingBy, in_window, doc_arrival, note_arrival}
use Rattle.row_index.specs.Dates.{has_date, stored_date, is_earlier, put_dated, in_date_order, dated_in}
use Rattle.time_marks.specs.declared.window.Window.{Window}
use Rattle.time_marks.specs.Probes.{Probe}
use Rattle.time_marks.specs.declared.seek.Seek.{Seek}
use Rattle.time_marks.specs.Seeks.{seek_from, seek_of, lies_in}
use Rattle.time_marks.proofs.Lists.{all_in, map_in}
use Rattle.time_marks.proofs.WindowLaws.{IsDay, round_up_to_day-day}
use Rattle.probe_eval.specs.Drivers.{seek_var, arrived_rows, dated_rows, stored_rows, driving, walked}
use Rattle.probe_eval.specs.Literals.{chosen, rows_where}
use Rattle.probe_eval.specs.Tables.{table_in}
use Rattle.probe_eval.proofs.Members.{in_filter}
use Rattle.wake_plan.specs.Turns.{bound_alone, AreRising}
use Rattle.wake_plan.proofs.LeastMarks.{onward}
use Rattle.tap_rows.specs.Fields.{fields}
use Rattle.tap_rows.proofs.Tests.{some_same}

-- a lesser second has no later start of a day
day_rises : (x y a b : ℤ) → IsDay x a → IsDay y b → x ≤ℤ y → a ≤ℤ b
day_rises x y a b d e h =
    by_lt_z b a
    (λ w.
    let before : e.days <ℤ d.days = omega (arith, ints, w, d.whole, e.whole) in
    let no : ⊥ = omega (arith, ints, before, h, d.whole, e.whole, d.near, e.reached) in
    absurd no)
    (λ w. w)

plus_rises : (x y n : ℤ) → x ≤ℤ y → (x +ℤ n) ≤ℤ (y +ℤ n)
plus_rises x y n h = omega (arith, ints)

-- the stored second of the one row is no greater than that of the other, if both have one
abbrev pub IsSoonerDate : Option ℤ → Option ℤ → Type 0
IsSoonerDate o q = (x y : ℤ) → o ≡ Some x → q ≡ Some y → x ≤ℤ y

abbrev pub IsSooner : Base → Row → Row → Type 0
IsSooner (B.Arrival u) r s = arrival r ≤ℤ arrival s
IsSooner (B.Date u) r s = IsSoonerDate (date r) (date s)
IsSooner B.Fixed r s = Unit {0}
IsSooner (B.ArrivalDay u n) r s = arrival r ≤ℤ arrival s
IsSooner (B.DateDay u n) r s = IsSoonerDate (date r) (date s)

-- so it is with each row and those after it
abbrev pub AreSooner : Base → List Row → Type 0
AreSooner base [] = Unit {0}
AreSooner base (r ∷ rows) = ((s : Row) → In s rows → IsSooner base r s) × AreSooner base rows

module _ (v : Var) where
  -- the row that is bound alone
  pub bound_row : {A : Type 0} (u : Var) (row : Row) (f : Row → Option A) → Some u ≡ Some v → on_row (lookup u.0 (bind v row [])) f ≡ f row
  bound_row u row f e = ap (λ (z : Var). on_row (lookup z.0 (bind v row [])) f) (some_same e) ∙ ap (λ o. on_row o f) (bind_same v row [])

  plus_some : (o : Option ℤ) (plus b : ℤ) → plus_to o plus ≡ Some b → (x : ℤ) × (o ≡ Some x) × (x +ℤ plus ≡ b)
  plus_some None plus b e = absurd (none e)
    where
      none : None ≡ Some b → ⊥
      none e = cc
  plus_some (Some x) plus b e = (x, refl, some_same e)

  day_some : (o : Option ℤ) (n b : ℤ) → day_of n o ≡ Some b → (x : ℤ) × (o ≡ Some x) × (round_up_to_day (x +ℤ n) ≡ b)
  day_some None n b e = absurd (none e)
    where
      none : None ≡ Some b → ⊥
      none e = cc
  day_some (Some x) n b e = (x, refl, some_same e)

  moved : (x y plus b c : ℤ) → x ≤ℤ y → x +ℤ plus ≡ b → y +ℤ plus ≡ c → b ≤ℤ c
  moved x y plus b c h e f = omega (arith, ints)

  in_days : (x y n b c : ℤ) → x ≤ℤ y → round_up_to_day (x +ℤ n) ≡ b → round_up_to_day (y +ℤ n) ≡ c → b ≤ℤ c
  in_days x y n b c h e f =
      subst (λ z. z ≤ℤ c) e (subst (λ z. round_up_to_day (x +ℤ n) ≤ℤ z) f
      (day_rises (x +ℤ n) (y +ℤ n) (round_up_to_day (x +ℤ n)) (round_up_to_day (y +ℤ n)) (round_up_to_day-day (x +ℤ n))
      (round_up_to_day-day (y +ℤ n)) (plus_rises x y n h)))

  -- a row whose stored second is no greater has no greater mark
  mark_rises : (base : Base) (plus : ℤ) → seek_var (seek_from base plus) ≡ Some v → (r s : Row) → IsSooner base r s → (b c : ℤ)
      → plus_to (base_value base (bind v r [])) plus ≡ Some b → plus_to (base_value base (bind v s [])) plus ≡ Some c → b ≤ℤ c
  mark_rises (B.Arrival u) plus e r s h b c eb ec =
      let x = plus_some _ plus b eb in
      let y = plus_some _ plus c ec in
      let p : arrival r ≡ x.0 = some_same (sym (bound_row u r (λ r. Some (arrival r)) e) ∙ x.1) in
      let q : arrival s ≡ y.0 = some_same (sym (bound_row u s (λ r. Some (arrival r)) e) ∙ y.1) in
      moved x.0 y.0 plus b c (subst (λ z. x.0 ≤ℤ z) q (subst (λ z. z ≤ℤ arrival s) p h)) x.2 y.2
  mark_rises (B.Date u) plus e r s h b c eb ec =
      let x = plus_some _ plus b eb in
      let y = plus_some _ plus c ec in
      moved x.0 y.0 plus b c (h x.0 y.0 (sym (bound_row u r date e) ∙ x.1) (sym (bound_row u s date e) ∙ y.1)) x.2 y.2
  mark_rises B.Fixed plus e r s h b c eb ec = absurd (none e)
    where
      none : None ≡ Some v → ⊥
      none e = cc
  mark_rises (B.ArrivalDay u n) plus e r s h b c eb ec =
      let x = plus_some _ plus b eb in
      let y = plus_some _ plus c ec in
      let p : round_up_to_day (arrival r +ℤ n) ≡ x.0 =
      some_same (sym (bound_row u r (λ r. Some (round_up_to_day (arrival r +ℤ n))) e) ∙ x.1) in
      let q : round_up_to_day (arrival s +ℤ n) ≡ y.0 =
      some_same (sym (bound_row u s (λ r. Some (round_up_to_day (arrival r +ℤ n))) e) ∙ y.1) in
      moved x.0 y.0 plus b c (in_days (arrival r) (arrival s) n x.0 y.0 h p q) x.2 y.2
  mark_rises (B.DateDay u n) plus e r s h b c eb ec =
      let x = plus_some _ plus b eb in
      let y = plus_some _ plus c ec in
      let p = day_some (date r) n x.0 (sym (bound_row u r (λ r. day_of n (date r)) e) ∙ x.1) in
      let q = day_some (date s) n y.0 (sym (bound_row u s (λ r. day_of n (date r)) e) ∙ y.1) in
      moved x.0 y.0 plus b c (in_days p.0 q.0 n x.0 y.0 (h p.0 q.0 p.1 q.1) p.2 q.2) x.2 y.2

  -- rows in order, each with a mark in the window
  pub rows_rise : (w : Window) (p : Probe) → seek_var (seek_of p.at) ≡ Some v → (rows : List Row)
      → ((row : Row) → In row rows → lies_in w (value p.at (bind v row [])) ≡ true) → AreSooner p.at.base rows
      → AreRising w p (bound_alone v rows)
  rows_rise w p e [] l h = tt
  rows_rise w p e (r ∷ rows) l h = (l r (inl refl), later, rows_rise w p e rows (λ row i. l row (inr i)) h.1)
    where
      later : (b c : ℤ) (env : Env) → value p.at (bind v r []) ≡ Some b → In env (bound_alone v rows) → value p.at env ≡ Some c → b ≤ℤ c
      later b c env eb i ec =
          let s = map_in (λ row. bind v row []) rows env i in
          mark_rises p.at.base p.at.plus e r s.0 (h.0 s.0 s.1) b c eb (ap (value p.at) (sym s.2) ∙ ec)

-- a list in order of f
module _ {A : Type 0} (f : A → ℤ) where
  abbrev Ordered : List A → Type 0
  Ordered [] = Unit {0}
  Ordered (x ∷ xs) = ((y : A) → In y xs → f x ≤ℤ f y) × Ordered xs

  le_true : (x y : ℤ) → int_le x y ≡ true → x ≤ℤ y
  le_true x y h = grind (arith, ints)

  rising_ordered : (xs : List A) → IsRisingBy f xs → Ordered xs
  rising_ordered [] h = tt
  rising_ordered (x ∷ xs) h = ((λ y i. le_true (f x) (f y) (all_in (λ y. int_le (f x) (f y)) xs y h.0 i)), rising_ordered xs h.1)

  ordered_filter : (p : A → Bool) (xs : List A) → Ordered xs → Ordered (filter p xs)
  ordered_filter p [] h = tt
  ordered_filter p (x ∷ xs) h =
      elim (cases_Bool (p x)) [
        | inl e ↦ rw e ((λ y i. h.0 y (in_filter p xs y i).0), ordered_filter p xs h.1)
        | inr e ↦ rw e (ordered_filter p xs h.1)
      ]

  ordered_sooner : (base : Base) (of : A → Row) → ((x y : A) → f x ≤ℤ f y → IsSooner base (of x) (of y)) → (xs : List A) → Ordered xs
      → AreSooner base (map of xs)
  ordered_sooner base of g [] h = tt
  ordered_sooner base of g (x ∷ xs) h =
      ((λ s i. let y = map_in of xs s i in subst (IsSooner base (of x)) (sym y.2) (g x y.0 (h.0 y.0 y.1))), ordered_sooner base of g xs h.1)

-- documents in order of date
in_put : (x d : Doc) (ds : List Doc) → In x (put_dated d ds) → (x ≡ d) ⊎ In x ds
in_put x d [] i = i
in_put x d (y ∷ ys) i =
    elim (cases_Bool (is_earlier d y)) [
      | inl e ↦ rw e at i
      | inr e ↦ other (rw e at i) (λ j. in_put x d ys j)
    ]
  where
    other : (x ≡ y) ⊎ In x (put_dated d ys) → (In x (put_dated d ys) → (x ≡ d) ⊎ In x ys) → (x ≡ d) ⊎ In x (y ∷ ys)
    other (inl q) f = inr (inl q)
    other (inr j) f = elim (f j) [ inl q ↦ inl q | inr k ↦ inr (inr k) ]

lesser_date : (x y : ℤ) (n m : ℕ) → (int_lt x y || (not (int_lt y x) && nat_lt n m)) ≡ true → x ≤ℤ y
lesser_date x y n m h = grind (arith, ints)

greater_date : (x y : ℤ) (n m : ℕ) → (int_lt x y || (not (int_lt y x) && nat_lt n m)) ≡ false → y ≤ℤ x
greater_date x y n m h = grind (arith, ints)

put_ordered : (d : Doc) (ds : List Doc) → Ordered stored_date ds → Ordered stored_date (put_dated d ds)
put_ordered d [] h = ((λ y i. absurd i), tt)
put_ordered d (o ∷ ds) h =
    elim (cases_Bool (is_earlier d o)) [
      | inl e ↦ rw e ((λ y i. first (lesser_date (stored_date d) (stored_date o) d.num.0 o.num.0 e) y i), h)
      | inr e ↦
          rw e ((λ y i. later (greater_date (stored_date d) (stored_date o) d.num.0 o.num.0 e) y (in_put y d ds i)), put_ordered d ds h.1)
    ]
  where
    first : stored_date d ≤ℤ stored_date o → (y : Doc) → (y ≡ o) ⊎ In y ds → stored_date d ≤ℤ stored_date y
    first l y (inl q) = subst (λ (z : Doc). stored_date d ≤ℤ stored_date z) (sym q) l
    first l y (inr i) = onward (stored_date d) (stored_date o) (stored_date y) l (h.0 y i)

    later : stored_date o ≤ℤ stored_date d → (y : Doc) → (y ≡ d) ⊎ In y ds → stored_date o ≤ℤ stored_date y
    later l y (inl q) = subst (λ (z : Doc). stored_date o ≤ℤ stored_date z) (sym q) l
    later l y (inr i) = h.0 y i

fold_ordered : (acc ds : List Doc) → Ordered stored_date acc → Ordered stored_date (fold (λ sorted doc. put_dated doc sorted) acc ds)
fold_ordered acc [] h = h
fold_ordered acc (d ∷ ds) h = fold_ordered (put_dated d acc) ds (put_ordered d acc h)

sooner_date : (x y : Doc) → stored_date x ≤ℤ stored_date y → IsSoonerDate (date (OfDoc x)) (date (OfDoc y))
unfolding fields
sooner_date x y h a b ea eb = subst (λ z. a ≤ℤ unwrap_or z (pos 0)) eb (subst (λ z. unwrap_or z (pos 0) ≤ℤ stored_date y) ea h)

module _ (T : Tables) (W : Window) (docs : IsRisingBy doc_arrival T.docs) (notes : IsRisingBy note_arrival T.notes) where
  by_arrival : (base : Base) → ((r s : Row) → arrival r ≤ℤ arrival s → IsSooner base r s) → (t : Table)
      → AreSooner base (arrived_rows t W T)
  by_arrival base f Docs = ordered_sooner doc_arrival base OfDoc (λ x y h. f (OfDoc x) (OfDoc y) h)
      (in_window doc_arrival W.low W.high T.docs) (ordered_filter doc_arrival _ T.docs (rising_ordered doc_arrival T.docs docs))
  by_arrival base f Notes = ordered_sooner note_arrival base OfNote (λ x y h. f (OfNote x) (OfNote y) h)
      (in_window note_arrival W.low W.high T.notes) (ordered_filter note_arrival _ T.notes (rising_ordered note_arrival T.notes notes))

  by_date : (base : Base) → ((r s : Row) → IsSoonerDate (date r) (date s) → IsSooner base r s) → (t : Table)
      → AreSooner base (dated_rows t W T)
  by_date base f Docs = ordered_sooner stored_date base OfDoc (λ x y h. f (OfDoc x) (OfDoc y) (sooner_date x y h))
      (dated_in W.low W.high T.docs) (ordered_filter stored_date _ (in_date_order T.docs) (fold_ordered [] (filter has_date T.docs) tt))
  by_date base f Notes = tt

  -- the rows whose stored second lies in a window stand in order of it
  pub stored_sooner : (base : Base) (plus : ℤ) (t : Table) → AreSooner base (stored_rows (seek_from base plus) t W T)
  stored_sooner (B.Arrival u) plus t = by_arrival (B.Arrival u) (λ r s h. h) t
  stored_sooner (B.Date u) plus t = by_date (B.Date u) (λ r s h. h) t
  stored_sooner B.Fixed plus t = tt
  stored_sooner (B.ArrivalDay u n) plus t = by_arrival (B.ArrivalDay u n) (λ r s h. h) t
  stored_sooner (B.DateDay u n) plus t = by_date (B.DateDay u n) (λ r s h. h) t

-- some rows of a list stand in its order
sooner_filter : (base : Base) (q : Row → Bool) (rows : List Row) → AreSooner base rows → AreSooner base (filter q rows)
sooner_filter base q [] h = tt
sooner_filter base q (r ∷ rows) h =
    elim (cases_Bool (q r)) [
      | inl e ↦ rw e ((λ s i. h.0 s (in_filter q rows s i).0), sooner_filter base q rows h.1)
      | inr e ↦ rw e (sooner_filter base q rows h.1)
    ]

-- so do the driving rows that are walked
pub walked_sooner : (base : Base) (T : Tables) (w : Window) (p : Probe) (seek : Seek) (v : Var) → AreSooner base (driving T w p seek v)
    → AreSooner base (walked T w p seek v)
walked_sooner base T w p seek v h = go (chosen T v p.path seek (table_in p.path v.0))
  where
    go : (o : Option Atom) → AreSooner base (rows_where v o (driving T w p seek v))
    go None = h
    go (Some a) = sooner_filter base (λ row. true_atom a (bind v row [])) (driving T w p seek v) h
