-- The rows that the conditions of a body look at, and how many steps that may take.
use Rattle.std.specs.Prelude.{ℕ, ◌+◌, ℤ, pos, Bool, true, false, Option, Some, is_some, List, [], ◌∷◌, length, filter}
use Rattle.std.specs.Prelude.{unwrap_or, int_le, nat_le, if◌then◌else◌}
use Rattle.std.specs.List.{find, flat_map, list_all}
use Rattle.tap_base.specs.declared.numbers.Op.TheVariants.{Eq}
use Rattle.tap_rows.specs.declared.tables.Tables.{Tables}
use Rattle.tql_tree.specs.declared.table.Table.{Table}
use Rattle.tql_core.specs.declared.term.Var.{Var}
use Rattle.tql_tree.specs.declared.table.Table.TheVariants.{Docs}
use Rattle.tql_core.specs.declared.atom.NumField.{NumField}
use Rattle.tql_core.specs.declared.atom.NumField.TheVariants.{Id, Size}
use Rattle.tql_core.specs.declared.atom.TextField.{TextField}
use Rattle.tql_core.specs.declared.atom.ListField.{ListField}
use Rattle.tql_core.specs.declared.atom.Atom.{Atom}
use Rattle.tql_core.specs.Condition.{Condition, Always, Never, Plain, NowAtLeast, NowBefore, All, Either, Not, Exists}
use Rattle.tql_core.specs.Holds.{truth}
use Rattle.tql_core.specs.Row.{Row, arrival, rows_of}
use Rattle.tql_core.specs.Values.{Env, bind, lookup, on_row, field, text_field, list_field, both, both_texts, has}
use Rattle.time_marks.specs.Marks.{guards_of}
use Rattle.access_plan.specs.declared.access.Access.{Access}
use Rattle.access_plan.specs.declared.access.Access.TheVariants.{ByNumber, ByText, ByEntry, ByEach, Whole}
use Rattle.access_plan.specs.Accesses.{walked_list, table_of, number_table, text_table, admits, inner_accesses}
use Rattle.probe_eval.specs.Cuts.{passes_cuts}
use Rattle.probe_eval.specs.Kinds.{field_kind, of_docs}

-- the rows that an access reaches, of a whole table those that have come by a second
abbrev pub admits_by : ℤ → Access → Env → Row → Bool
admits_by last (Whole t) env row = int_le (arrival row) last
admits_by last access env row = admits access env row

-- the texts in a list of a variable's row that are looked up: none if it has no row, or that of a note
abbrev pub listed_texts : Var → ListField → Env → List (List ℕ)
listed_texts w l env = unwrap_or (on_row (lookup w.0 env) (walked_list l)) []

-- the rows of which a field is a number that may be absent
abbrev pub rows_of_number : NumField → Tables → Option ℤ → List Row
rows_of_number f T n = filter (λ row. both Eq (field f row) n) (rows_of (number_table f) T)

-- the rows of which a field is a text that may be absent
abbrev pub rows_of_text : TextField → Tables → Option (List ℕ) → List Row
rows_of_text f T x = filter (λ row. both_texts Eq (text_field f row) x) (rows_of (text_table f) T)

-- the documents that have a text, which may be absent, in a list
abbrev pub rows_of_entry : ListField → Tables → Option (List ℕ) → List Row
rows_of_entry l T x = filter (λ row. has (list_field l row) x) (rows_of Docs T)

-- the rows of which a field is a text
abbrev pub rows_with : TextField → Tables → List ℕ → List Row
rows_with f T x = rows_of_text f T (Some x)

-- those of each of some texts, one after the other
abbrev pub rows_with_each : TextField → Tables → List (List ℕ) → List Row
rows_with_each f T xs = flat_map (rows_with f T) xs

-- the rows that an access reaches beside bound rows; of a whole table those that have come by a second; those by the texts in a list
-- come text by text, those of a repeated one again
abbrev pub rows_by : ℤ → Access → Env → Tables → List Row
rows_by last (ByEach w l f) env T = rows_with_each f T (listed_texts w l env)
rows_by last access env T = filter (admits_by last access env) (rows_of (table_of access) T)

-- the same once all rows have come
abbrev pub all_rows_by : Access → Env → Tables → List Row
all_rows_by (ByEach w l f) env T = rows_with_each f T (listed_texts w l env)
all_rows_by access env T = filter (admits access env) (rows_of (table_of access) T)

-- the sum of f over a list
abbrev pub total : {A : Type 0} → (A → ℕ) → List A → ℕ
total f [] = 0
total f (x ∷ xs) = f x + total f xs

-- those up to the first of which the test is true
abbrev pub until : {A : Type 0} → (A → Bool) → List A → List A
until f [] = []
until f (x ∷ xs) = x ∷ (if f x then [] else until f xs)

-- does the access give a posting list of documents? It is in order of arrival and of number
abbrev pub is_list : Access → Bool
is_list (ByNumber Size e) = true
is_list (ByText f e) = is_some (of_docs (field_kind f))
is_list (ByEntry l e) = true
is_list _ = false

module _ (T : Tables) (env : Env) where
  -- how many rows an access reaches: by a document's number one, as far as is known without a look at it, else those of its list
  abbrev pub access_length : Access → ℕ
  access_length (ByNumber Id e) = 1
  access_length (Whole t) = length (rows_of t T)
  access_length access = length (all_rows_by access env T)

  -- is none of these shorter?
  abbrev pub is_least : List Access → Access → Bool
  is_least accesses access = list_all (λ other. nat_le (access_length access) (access_length other)) accesses

  -- the shortest of some accesses, of equal ones the first
  abbrev pub shortest : List Access → Option Access
  shortest accesses = find (is_least accesses) accesses

-- the access to the rows of an EXISTS: the shortest that a guard gives, else all rows of the table
abbrev pub inner_access : Tables → Var → Table → Condition → Env → Access
inner_access T v t x env = unwrap_or (shortest T env (inner_accesses v t x)) (Whole t)

-- of the rows of a posting list those with which each guard is true that cuts the list; of other accesses all
abbrev pub cut_rows : Access → Var → Env → List Atom → List Row → List Row
cut_rows access v env guards rows = if is_list access then filter (passes_cuts v env guards) rows else rows

-- the rows of an EXISTS that are walked
abbrev pub reached : Tables → Var → Table → Condition → Env → List Row
reached T v t x env = cut_rows (inner_access T v t x env) v env (guards_of x) (all_rows_by (inner_access T v t x env) env T)

-- a step for each row of an outermost EXISTS up to the first with which its inner condition is true, and the work of that condition
abbrev pub work : Tables → Condition → Env → ℕ
work T Always env = 0
work T Never env = 0
work T (Plain a) env = 0
work T (NowAtLeast e) env = 0
work T (NowBefore e) env = 0
work T (All l r) env = work T l env + work T r env
work T (Either l r) env = work T l env + work T r env
work T (Not x) env = work T x env
work T (Exists v t x) env =
    total (λ row. 1 + work T x (bind v row env)) (until (λ row. truth T (pos 0) x (bind v row env)) (reached T v t x env))

-- the same over some rows of an EXISTS, whichever they are
abbrev pub exists_work : Tables → Var → Condition → Env → List Row → ℕ
exists_work T v x env rows = total (λ row. 1 + work T x (bind v row env)) (until (λ row. truth T (pos 0) x (bind v row env)) rows)
