-- The driving rows of a window are those of a longer one whose mark lies in it.
use Rattle.std.proofs.Common.{◌≡◌, ◌∙◌, ℤ, Bool, true, false, List, [], ◌∷◌, map, Option, Some, None, refl, sym, ap, inl, inr, arith}
use Rattle.std.specs.Prelude.{◌&&◌, ◌≤ℤ◌, filter, int_le, int_lt}
use Rattle.std.proofs.lemmas.Int.{ints}
use Rattle.std.proofs.lemmas.Bool.{cases_Bool, false≢true, and_parts, and_from}
use Rattle.tap_rows.specs.declared.tables.Tables.{Tables}
use Rattle.tap_rows.specs.Kept.{In}
use Rattle.tql_tree.specs.declared.table.Table.{Table}
use Rattle.tql_tree.specs.declared.table.Table.TheVariants.{Docs, Notes}
use Rattle.tql_core.specs.declared.term.Var.{Var}
use Rattle.tql_core.specs.Bounds.{is_bounded}
use Rattle.tql_core.specs.Row.{Row, OfDoc, OfNote, arrival, date}
use Rattle.tql_core.specs.declared.atom.Atom.{Atom}
use Rattle.tql_core.specs.Values.{bind, value, true_atom}
use Rattle.row_index.specs.Orders.{doc_arrival, note_arrival}
use Rattle.row_index.specs.Dates.{has_date, stored_date, in_date_order}
use Rattle.time_marks.specs.declared.seek.Seek.{Seek}
use Rattle.time_marks.specs.declared.seek.Seek.TheVariants.{Arrived, Dated, Fixed, ArrivedDay, DatedDay}
use Rattle.time_marks.specs.declared.window.Window.{Window}
use Rattle.time_marks.specs.Windows.{is_within}
use Rattle.time_marks.specs.Probes.{Probe}
use Rattle.time_marks.specs.Seeks.{seek_of, seek_window, driving_second, marked_at, lies_in}
use Rattle.time_marks.proofs.Lists.{in_map}
use Rattle.time_marks.proofs.SeekLaws.{seek_within, solved}
use Rattle.probe_eval.specs.Drivers.{seek_var, arrived_rows, dated_rows, stored_rows, driving, walked}
use Rattle.probe_eval.specs.Literals.{chosen, rows_where}
use Rattle.probe_eval.specs.Tables.{table_in}
use Rattle.probe_eval.proofs.DriverLaws.{date_lies, stored_are}
use Rattle.probe_eval.proofs.LiteralLaws.{filter_swap}
use Rattle.wake_plan.specs.Turns.{bound_alone}
use Rattle.wake_plan.specs.Wakes.{IsUpTo}
use Rattle.wake_plan.proofs.Sooner.{bound_row}

module _ {A : Type 0} where
  filter_same_in : (p q : A → Bool) (xs : List A) → ((x : A) → In x xs → p x ≡ q x) → filter p xs ≡ filter q xs
  filter_same_in p q [] h = refl
  filter_same_in p q (x ∷ xs) h = rw (h x (inl refl), filter_same_in p q xs (λ y i. h y (inr i))) refl

  -- a filter that lets no more through than an earlier one
  filter_narrow : (p q : A → Bool) (xs : List A) → ((x : A) → q x ≡ true → p x ≡ true) → filter q (filter p xs) ≡ filter q xs
  filter_narrow p q [] h = refl
  filter_narrow p q (x ∷ xs) h =
      elim (cases_Bool (p x)) [
        | inl e ↦ elim (cases_Bool (q x)) [
          | inl k ↦ rw (e, k) (ap (λ z. x ∷ z) (filter_narrow p q xs h))
          | inr k ↦ rw (e, k) (filter_narrow p q xs h)
        ]
        | inr e ↦ elim (cases_Bool (q x)) [ inl k ↦ absurd (false≢true (sym e ∙ h x k)) | inr k ↦ rw (e, k) (filter_narrow p q xs h) ]
      ]

filter_map : {A B : Type 0} (q : B → Bool) (f : A → B) (xs : List A) → filter q (map f xs) ≡ map f (filter (λ x. q (f x)) xs)
filter_map q f [] = refl
filter_map q f (x ∷ xs) =
    elim (cases_Bool (q (f x))) [
      | inl e ↦ rw e (ap (λ z. f x ∷ z) (filter_map q f xs))
      | inr e ↦ rw e (filter_map q f xs)
    ]

-- rows of a list, of a window of seconds within another
rows_narrow : {A : Type 0} (of : A → Row) (f : A → ℤ) (xs : List A) (W U : Window) (q : Row → Bool)
    → ((y : ℤ) → is_within U y ≡ true → is_within W y ≡ true)
    → ((x : A) → In x (filter (λ x. is_within W (f x)) xs) → q (of x) ≡ is_within U (f x))
    → filter q (map of (filter (λ x. is_within W (f x)) xs)) ≡ map of (filter (λ x. is_within U (f x)) xs)
rows_narrow of f xs W U q n h =
    filter_map q of (filter (λ x. is_within W (f x)) xs)
    ∙ ap (map of) (filter_same_in (λ x. q (of x)) (λ x. is_within U (f x)) (filter (λ x. is_within W (f x)) xs) h
    ∙ filter_narrow (λ x. is_within W (f x)) (λ x. is_within U (f x)) xs (λ x. n (f x)))

module _ (T : Tables) (W U : Window) (narrow : (y : ℤ) → is_within U y ≡ true → is_within W y ≡ true) (q : Row → Bool) where
  arrived_narrow : ((row : Row) → q row ≡ is_within U (arrival row)) → (t : Table) → filter q (arrived_rows t W T) ≡ arrived_rows t U T
  arrived_narrow h Docs = rows_narrow OfDoc doc_arrival T.docs W U q narrow (λ d i. h (OfDoc d))
  arrived_narrow h Notes = rows_narrow OfNote note_arrival T.notes W U q narrow (λ n i. h (OfNote n))

  dated_narrow : ((row : Row) → q row ≡ lies_in U (date row)) → ((row : Row) → In row (dated_rows Docs W T) → lies_in W (date row) ≡ true)
      → (t : Table) → filter q (dated_rows t W T) ≡ dated_rows t U T
  dated_narrow h l Notes = refl
  dated_narrow h l Docs = rows_narrow OfDoc stored_date (in_date_order T.docs) W U q narrow (λ d i.
      let has : (has_date d && is_within W (stored_date d)) ≡ true = sym (date_lies W d)
      ∙ l (OfDoc d) (in_map OfDoc (filter (λ x. is_within W (stored_date x)) (in_date_order T.docs)) d i) in
      h (OfDoc d) ∙ date_lies U d
      ∙ first (has_date d) (is_within U (stored_date d)) (and_parts (has_date d) (is_within W (stored_date d)) has).0)
    where
      first : (a b : Bool) → a ≡ true → (a && b) ≡ b
      first true b e = refl
      first false b e = absurd (false≢true e)

  -- the rows of a seek's window, of a window within it
  stored_narrow : (v : Var) (s : Seek) → seek_var s ≡ Some v → ((row : Row) → q row ≡ lies_in U (driving_second s (bind v row [])))
      → (t : Table) → filter q (stored_rows s t W T) ≡ stored_rows s t U T
  stored_narrow v (Arrived u n) e h t = arrived_narrow (λ row. h row ∙ ap (lies_in U) (bound_row v u row (λ r. Some (arrival r)) e)) t
  stored_narrow v (Dated u n) e h t = dated_narrow (λ row. h row ∙ ap (lies_in U) (bound_row v u row date e))
      (λ row i. ap (lies_in W) (sym (bound_row v u row date e)) ∙ (stored_are W T v row (Dated u n) Docs e i).1) t
  stored_narrow v (Fixed moment) e h t = refl
  stored_narrow v (ArrivedDay u n) e h t = arrived_narrow (λ row. h row ∙ ap (lies_in U) (bound_row v u row (λ r. Some (arrival r)) e)) t
  stored_narrow v (DatedDay u n) e h t = dated_narrow (λ row. h row ∙ ap (lies_in U) (bound_row v u row date e))
      (λ row i. ap (lies_in W) (sym (bound_row v u row date e)) ∙ (stored_are W T v row (DatedDay u n) Docs e i).1) t

lt_more : (y a b : ℤ) → int_lt y a ≡ true → a ≤ℤ b → int_lt y b ≡ true
lt_more y a b h k = grind (arith, ints)

-- a second of the window is one of the longer window
pub up_to_within : (w u : Window) (y : ℤ) → IsUpTo w u → is_within u y ≡ true → is_within w y ≡ true
up_to_within w u y k h =
    let p = and_parts (int_le u.low y) (int_lt y u.high) h in
    and_from (int_le w.low y) (int_lt y w.high) (ap (λ l. int_le l y) (sym k.low) ∙ p.0) (lt_more y u.high w.high p.1 k.high)

seek_narrow : (s : Seek) (w u : Window) → IsUpTo w u → (y : ℤ) → is_within (seek_window u s) y ≡ true → is_within (seek_window w s) y ≡ true
seek_narrow s w u k y h = seek_within s w y ∙ up_to_within w u (marked_at s y) k (sym (seek_within s u y) ∙ h)

module _ (T : Tables) (w u : Window) (p : Probe) (v : Var) (k : IsUpTo w u) (b : is_bounded p.at ≡ true)
    (e : seek_var (seek_of p.at) ≡ Some v) where
  driving_narrow : filter (λ row. lies_in u (value p.at (bind v row []))) (driving T w p (seek_of p.at) v) ≡ driving T u p (seek_of p.at) v
  driving_narrow =
      stored_narrow T (seek_window w (seek_of p.at)) (seek_window u (seek_of p.at)) (seek_narrow (seek_of p.at) w u k)
      (λ row. lies_in u (value p.at (bind v row []))) v (seek_of p.at) e (λ row. solved p.at u (bind v row []) b) (table_in p.path v.0)

  -- the guard whose posting list is walked is the same for each window
  pub walked_narrow : filter (λ env. lies_in u (value p.at env)) (bound_alone v (walked T w p (seek_of p.at) v))
      ≡ bound_alone v (walked T u p (seek_of p.at) v)
  walked_narrow =
      filter_map (λ env. lies_in u (value p.at env)) (λ row. bind v row []) (walked T w p (seek_of p.at) v)
      ∙ ap (bound_alone v) (go (chosen T v p.path (seek_of p.at) (table_in p.path v.0)))
    where
      go : (o : Option Atom) → filter (λ row. lies_in u (value p.at (bind v row []))) (rows_where v o (driving T w p (seek_of p.at) v))
          ≡ rows_where v o (driving T u p (seek_of p.at) v)
      go None = driving_narrow
      go (Some a) =
          filter_swap (λ row. lies_in u (value p.at (bind v row []))) (λ row. true_atom a (bind v row [])) (driving T w p (seek_of p.at) v)
          ∙ ap (filter (λ row. true_atom a (bind v row []))) driving_narrow
