-- The rows that a walk by an access hands out: rows of its table that it admits.
use Rattle.std.proofs.Common.{◌≡◌, ℕ, ◌≤◌, ℤ, Bool, true, false, Option, Some, None, List, [], refl, sym, arith}
use Rattle.std.specs.Prelude.{unwrap_or, int_le}
use Rattle.std.specs.List.{list_any}
use Rattle.std.specs.Ordering.{is_eq}
use Rattle.std.proofs.lemmas.Bool.{false≢true}
use Rattle.tap_base.specs.declared.numbers.Op.TheVariants.{Eq}
use Rattle.tap_rows.specs.declared.tables.Tables.{Tables}
use Rattle.tap_rows.specs.Kept.{In}
use Rattle.tql_core.specs.declared.term.Var.{Var}
use Rattle.tql_core.specs.declared.atom.TextField.{TextField}
use Rattle.tql_core.specs.declared.atom.ListField.{ListField}
use Rattle.tql_core.specs.Row.{Row, arrival, rows_of}
use Rattle.tql_core.specs.Values.{Env, lookup, on_row, text_cmp, text_field, both_texts, has}
use Rattle.time_marks.proofs.Lists.{any_in, in_any}
use Rattle.access_plan.specs.declared.access.Access.{Access}
use Rattle.access_plan.specs.declared.access.Access.TheVariants.{ByEach}
use Rattle.access_plan.specs.Accesses.{admits, table_of, text_table, walked_list}
use Rattle.access_plan.proofs.Fields.{texts_round}
use Rattle.probe_eval.specs.Work.{admits_by, listed_texts, rows_with, rows_with_each, rows_by, all_rows_by, total}
use Rattle.probe_eval.proofs.Costs.{total_filter}
use Rattle.probe_eval.proofs.Members.{in_filter, to_filter, from_flat, to_flat}
use Rattle.probe_eval.proofs.Tables.{by_both}

-- a row whose text is one of some has it
has_one : (texts : Option (List (List ℕ))) (own : Option (List ℕ)) (id : List ℕ) → In id (unwrap_or texts [])
    → both_texts Eq own (Some id) ≡ true → has texts own ≡ true
has_one None own id i h = absurd i
has_one (Some xs) None id i h = absurd (false≢true h)
has_one (Some xs) (Some y) id i h = in_any (λ x. is_eq (text_cmp x y)) xs id i (texts_round (Some y) (Some id) h)

one_had : (texts : Option (List (List ℕ))) (own : Option (List ℕ)) → has texts own ≡ true
    → (id : List ℕ) × In id (unwrap_or texts []) × (both_texts Eq own (Some id) ≡ true)
one_had None own h = absurd (false≢true h)
one_had (Some xs) None h = absurd (false≢true h)
one_had (Some xs) (Some y) h = let k = any_in (λ x. is_eq (text_cmp x y)) xs h in (k.0, k.1, texts_round (Some k.0) (Some y) k.2)

module _ (env : Env) (T : Tables) (row : Row) where
  in_each : (w : Var) (l : ListField) (f : TextField) → In row (rows_with_each f T (listed_texts w l env))
      → In row (rows_of (text_table f) T) × (admits (ByEach w l f) env row ≡ true)
  in_each w l f i =
      let x = from_flat (rows_with f T) (listed_texts w l env) row i in
      let y = in_filter (λ row. both_texts Eq (text_field f row) (Some x.0)) (rows_of (text_table f) T) row x.2 in
      (y.0, has_one (on_row (lookup w.0 env) (walked_list l)) (text_field f row) x.0 x.1 y.1)

  to_each : (w : Var) (l : ListField) (f : TextField) → In row (rows_of (text_table f) T) → admits (ByEach w l f) env row ≡ true
      → In row (rows_with_each f T (listed_texts w l env))
  to_each w l f i h =
      let x = one_had (on_row (lookup w.0 env) (walked_list l)) (text_field f row) h in
      to_flat (rows_with f T) (listed_texts w l env) x.0 row
      x.1 (to_filter (λ row. both_texts Eq (text_field f row) (Some x.0)) (rows_of (text_table f) T) row i x.2)

  pub in_rows : (b : ℤ) (a : Access) → In row (rows_by b a env T) → In row (rows_of (table_of a) T)
  in_rows b (ByEach w l f) i = (in_each w l f i).0
  in_rows b a i = (in_filter (admits_by b a env) (rows_of (table_of a) T) row i).0

  pub to_rows : (b : ℤ) (a : Access) → In row (rows_of (table_of a) T) → admits a env row ≡ true → int_le (arrival row) b ≡ true
      → In row (rows_by b a env T)
  to_rows b (ByEach w l f) i h c = to_each w l f i h
  to_rows b a i h c = to_filter (admits_by b a env) (rows_of (table_of a) T) row i (by_both b a env row h c)

  pub in_all_rows : (a : Access) → In row (all_rows_by a env T) → In row (rows_of (table_of a) T)
  in_all_rows (ByEach w l f) i = (in_each w l f i).0
  in_all_rows a i = (in_filter (admits a env) (rows_of (table_of a) T) row i).0

  pub to_all_rows : (a : Access) → In row (rows_of (table_of a) T) → admits a env row ≡ true → In row (all_rows_by a env T)
  to_all_rows (ByEach w l f) i h = to_each w l f i h
  to_all_rows a i h = to_filter (admits a env) (rows_of (table_of a) T) row i h

-- beside no row, an access reaches no more rows than there are
pub rows_less : (f : Row → ℕ) (b : ℤ) (a : Access) (T : Tables) → total f (rows_by b a [] T) ≤ total f (rows_of (table_of a) T)
rows_less f b (ByEach w l g) T = omega arith
rows_less f b a T = total_filter f (admits_by b a []) (rows_of (table_of a) T)

pub all_rows_less : (f : Row → ℕ) (a : Access) (T : Tables) → total f (all_rows_by a [] T) ≤ total f (rows_of (table_of a) T)
all_rows_less f (ByEach w l g) T = omega arith
all_rows_less f a T = total_filter f (admits a []) (rows_of (table_of a) T)

-- a test that only admitted rows pass says the same of the rows that an access gives
pub any_walked : (f : Row → Bool) (a : Access) (env : Env) (T : Tables) → ((row : Row) → f row ≡ true → admits a env row ≡ true)
    → list_any f (rows_of (table_of a) T) ≡ list_any f (all_rows_by a env T)
any_walked f a env T h = alike (list_any f (rows_of (table_of a) T)) (list_any f (all_rows_by a env T)) to back
  where
    alike : (x y : Bool) → (x ≡ true → y ≡ true) → (y ≡ true → x ≡ true) → x ≡ y
    alike true y g k = sym (g refl)
    alike false true g k = k refl
    alike false false g k = refl

    to : list_any f (rows_of (table_of a) T) ≡ true → list_any f (all_rows_by a env T) ≡ true
    to e = let x = any_in f (rows_of (table_of a) T) e in in_any f (all_rows_by a env T) x.0 (to_all_rows env T x.0 a x.1 (h x.0 x.2)) x.2

    back : list_any f (all_rows_by a env T) ≡ true → list_any f (rows_of (table_of a) T) ≡ true
    back e = let x = any_in f (all_rows_by a env T) e in in_any f (rows_of (table_of a) T) x.0 (in_all_rows env T x.0 a x.1) x.2
