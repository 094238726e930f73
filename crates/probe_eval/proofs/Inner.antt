-- The EXISTS of a body, over the rows that are walked.
use Rattle.std.proofs.Common.{◌≡◌, ◌∙◌, ◌||◌, Bool, true, false, pos, Option, Some, None, List, [], ◌∷◌, refl, sym, ap, inl, inr, filter}
use Rattle.std.proofs.Common.{if◌then◌else◌}
use Rattle.std.specs.Prelude.{unwrap_or}
use Rattle.std.specs.List.{list_any}
use Rattle.std.proofs.lemmas.Bool.{cases_Bool, false≢true}
use Rattle.tap_rows.specs.declared.tables.Tables.{Tables}
use Rattle.tap_rows.specs.Kept.{In}
use Rattle.tql_tree.specs.declared.table.Table.{Table}
use Rattle.tql_core.specs.declared.term.Var.{Var}
use Rattle.tql_core.specs.Condition.{Condition, Exists}
use Rattle.tql_core.specs.Row.{Row, rows_of}
use Rattle.tql_core.specs.Values.{Env, bind}
use Rattle.tql_core.specs.Holds.{truth}
use Rattle.time_marks.specs.Marks.{guards_of}
use Rattle.access_plan.specs.declared.access.Access.{Access}
use Rattle.access_plan.specs.declared.access.Access.TheVariants.{Whole}
use Rattle.access_plan.specs.Accesses.{admits, table_of, inner_accesses}
use Rattle.access_plan.proofs.Enough.{inner_accesses_are_enough, inner_accesses_keep_tables, guards_are_true}
use Rattle.probe_eval.specs.Cuts.{passes_cuts}
use Rattle.probe_eval.specs.Work.{all_rows_by, is_list, is_least, shortest, inner_access, cut_rows, reached}
use Rattle.probe_eval.proofs.CutLaws.{true_passes}
use Rattle.probe_eval.proofs.LeastLaws.{found_in}
use Rattle.probe_eval.proofs.WalkRows.{any_walked}

-- if f is false of all that a filter leaves out, some of those that it keeps pass if and only if some of all do
any_kept : {A : Type 0} (f keeps : A → Bool) (xs : List A) → ((x : A) → In x xs → keeps x ≡ false → f x ≡ false)
    → list_any f (filter keeps xs) ≡ list_any f xs
any_kept f keeps [] h = refl
any_kept f keeps (x ∷ xs) h =
    let r = any_kept f keeps xs (λ y i. h y (inr i)) in
    elim (cases_Bool (keeps x)) [
      | inl e ↦ rw e (ap (λ b. f x || b) r)
      | inr e ↦ rw (e, h x (inl refl) e) r
    ]

module _ (T : Tables) (x : Condition) (v : Var) (t : Table) (env : Env) where
  -- the truth of the inner condition with a row
  abbrev with_row : Row → Bool
  with_row row = truth T (pos 0) x (bind v row env)

  -- the access admits each row with which it is true, and is of the table
  access_admits : (row : Row) → with_row row ≡ true → admits (inner_access T v t x env) env row ≡ true
  access_admits row h = go (shortest T env (inner_accesses v t x)) refl
    where
      go : (o : Option Access) → shortest T env (inner_accesses v t x) ≡ o → admits (unwrap_or o (Whole t)) env row ≡ true
      go None e = refl
      go (Some access) e = inner_accesses_are_enough T v t x env row (pos 0) access
          (found_in (is_least T env (inner_accesses v t x)) (inner_accesses v t x) access e) h

  access_table : table_of (inner_access T v t x env) ≡ t
  access_table = go (shortest T env (inner_accesses v t x)) refl
    where
      go : (o : Option Access) → shortest T env (inner_accesses v t x) ≡ o → table_of (unwrap_or o (Whole t)) ≡ t
      go None e = refl
      go (Some access) e =
          inner_accesses_keep_tables v t x access (found_in (is_least T env (inner_accesses v t x)) (inner_accesses v t x) access e)

  -- the guards that cut a list are true with each row with which it is true
  cut_same : (a : Access) (rows : List Row) → list_any with_row (cut_rows a v env (guards_of x) rows) ≡ list_any with_row rows
  cut_same a rows = go (is_list a)
    where
      no_row : (row : Row) → passes_cuts v env (guards_of x) row ≡ false → with_row row ≡ false
      no_row row e = elim (cases_Bool (with_row row)) [
        | inl h ↦ absurd (false≢true (sym e ∙ true_passes v env (guards_of x) row (guards_are_true T (pos 0) x (bind v row env) h)))
        | inr h ↦ h
      ]

      go : (c : Bool) → list_any with_row (if c then filter (passes_cuts v env (guards_of x)) rows else rows) ≡ list_any with_row rows
      go true = any_kept with_row (passes_cuts v env (guards_of x)) rows (λ row i e. no_row row e)
      go false = refl

  exists_same : (rows : List Row) → rows ≡ reached T v t x env → truth T (pos 0) (Exists v t x) env ≡ list_any with_row rows
  exists_same rows r =
      ap (λ table. list_any with_row (rows_of table T)) (sym access_table)
      ∙ any_walked with_row (inner_access T v t x env) env T access_admits
      ∙ sym (cut_same (inner_access T v t x env) (all_rows_by (inner_access T v t x env) env T))
      ∙ ap (list_any with_row) (sym r)

  module _ (rows : List Row) (r : rows ≡ reached T v t x env) where
    pub no_row : rows ≡ [] → truth T (pos 0) (Exists v t x) env ≡ false
    no_row e = exists_same rows r ∙ ap (list_any with_row) e

    pub first_row : (left : List Row) (row : Row) → rows ≡ row ∷ left → with_row row ≡ true → truth T (pos 0) (Exists v t x) env ≡ true
    first_row left row e h = exists_same rows r ∙ ap (list_any with_row) e ∙ rw h refl

    pub later_row : (left : List Row) (row : Row) → rows ≡ row ∷ left → with_row row ≡ false
        → truth T (pos 0) (Exists v t x) env ≡ list_any with_row left
    later_row left row e h = exists_same rows r ∙ ap (list_any with_row) e ∙ rw h refl
