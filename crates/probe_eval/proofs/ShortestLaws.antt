-- The lists that accesses give, and how long they are.
use Rattle.std.proofs.Common.{◌≡◌, ◌∙◌, ◌⊎◌, ℕ, ◌+◌, ◌≤◌, ◌<◌, ℤ, pos, Bool, true, false, Option, Some, None, List, [], ◌∷◌, ◌++◌}
use Rattle.std.proofs.Common.{length, refl, sym, ap, subst, inl, inr, arith, map, filter, ◌*◌, if◌then◌else◌}
use Rattle.std.specs.Prelude.{IfSome, is_some, unwrap_or, option_to_list, nat_lt}
use Rattle.std.specs.List.{list_any}
use Rattle.std.specs.Ordering.{int_eq}
use Rattle.std.specs.Str.{bytes_eq}
use Rattle.std.proofs.lemmas.Bool.{cases_Bool, false≢true}
use Rattle.std.proofs.lemmas.Bool.Decides.{Decides-int_eq}
use Rattle.std.proofs.lemmas.List.{length-append}
use Rattle.std.proofs.lemmas.Option.{none-some}
use Rattle.tap_base.specs.declared.numbers.Op.TheVariants.{Eq}
use Rattle.tap_rows.specs.declared.rows.Doc.{Doc}
use Rattle.tap_rows.specs.declared.rows.Note.{Note}
use Rattle.tap_rows.specs.declared.tables.Tables.{Tables}
use Rattle.tql_tree.specs.declared.table.Table.{Table}
use Rattle.tql_tree.specs.declared.table.Table.TheVariants.{Docs, Notes}
use Rattle.tql_core.specs.declared.atom.NumField.TheVariants.{Id, Size, DocOf, Value}
use Rattle.tql_core.specs.declared.atom.TextExpr.{TextExpr}
use Rattle.tql_core.specs.declared.atom.TextField.{TextField}
use Rattle.tql_core.specs.declared.atom.ListField.{ListField}
use Rattle.tql_core.specs.declared.atom.Atom.{Atom}
use Rattle.tql_core.specs.declared.term.Var.{Var}
use Rattle.tql_core.specs.Condition.{Condition}
use Rattle.tql_core.specs.Row.{Row, OfDoc, OfNote, rows_of}
use Rattle.tql_core.specs.Values.{Env, number, text, text_field, both, both_texts}
use Rattle.time_marks.specs.declared.mark.Step.{Step}
use Rattle.time_marks.specs.Marks.{guards_of}
use Rattle.access_plan.specs.declared.access.Access.{Access}
use Rattle.access_plan.specs.declared.access.Access.TheVariants.{ByNumber, ByText, ByEntry, ByEach, Whole}
use Rattle.access_plan.specs.Accesses.{text_table, access_by, accesses_by, inner_accesses, is_held}
use Rattle.access_plan.proofs.InnerLaws.{append_none}
use Rattle.row_index.specs.Held.{AreSized}
use Rattle.row_index.specs.Orders.{InPlace, doc_arrival, doc_number}
use Rattle.row_index.specs.declared.text_kind.TextKind.{TextKind}
use Rattle.row_index.specs.Texts.{texts_of, with_text}
use Rattle.row_index.proofs.ListWindows.{mapped_length}
use Rattle.probe_eval.specs.declared.kinds.FieldKind.{FieldKind}
use Rattle.probe_eval.specs.declared.kinds.FieldKind.TheVariants.{OfDocs, OfNotes}
use Rattle.probe_eval.specs.Cuts.{passes_cuts}
use Rattle.probe_eval.specs.Kinds.{field_kind, of_docs, list_kind}
use Rattle.probe_eval.specs.Shortest.{IsUnderText, IsListOf, is_many, count_each, shorter_access, shortest_after}
use Rattle.probe_eval.specs.SingleLists.{ListKey, UnderText, UnderSize, ReachesList, text_key, size_key, single_key}
use Rattle.probe_eval.specs.declared.single_lists.SingleList.{SingleList}
use Rattle.probe_eval.specs.StepRows.{step_accesses}
use Rattle.probe_eval.specs.Work.{rows_with, rows_with_each, rows_by, all_rows_by, is_list, access_length, shortest}
use Rattle.probe_eval.specs.Work.{cut_rows, reached}
use Rattle.probe_eval.proofs.LeastLaws.{first_least}
use Rattle.probe_eval.proofs.AccessLists.{picked, no_text, no_entry, no_size, entries_with}
use Rattle.probe_eval.proofs.SingleListLaws.{sorted_if, short_key}

-- a text of a field of documents, which gives a list
gives_list : (k : FieldKind) (x : Option (List ℕ)) (key : ListKey) → text_key k x ≡ Some key → is_some (of_docs k) ≡ true
gives_list (OfDocs own) x key h = refl
gives_list (OfNotes own) x key h = absurd (none-some key h)

-- a single list is the list of its access
pub single_is_list : (T : Tables) (access : Access) (env : Env) (found : SingleList) → ReachesList T access env found
    → IsListOf T access env found.docs
single_is_list T access env found r = record {
  list = go access r.key;
  sorted = r.list.sorted;
  rows = rows access r.key ∙ r.rows (pos 0);
}
  where
    none : None ≡ Some r.list.key → ⊥
    none h = none-some r.list.key h

    go : (a : Access) → single_key a env ≡ Some r.list.key → is_list a ≡ true
    go (ByText f e) h = gives_list (field_kind f) (text e env) r.list.key h
    go (ByNumber Size e) h = refl
    go (ByNumber Id e) h = absurd (none h)
    go (ByNumber DocOf e) h = absurd (none h)
    go (ByNumber Value e) h = absurd (none h)
    go (ByEntry l e) h = absurd (none h)
    go (ByEach w l f) h = absurd (none h)
    go (Whole t) h = absurd (none h)

    rows : (a : Access) → single_key a env ≡ Some r.list.key → all_rows_by a env T ≡ rows_by (pos 0) a env T
    rows (ByText f e) h = refl
    rows (ByNumber f e) h = refl
    rows (ByEntry l e) h = refl
    rows (ByEach w l f) h = refl
    rows (Whole t) h = absurd (none h)

-- no list, or no text
no_single : (k : FieldKind) (x : Option (List ℕ)) → text_key k x ≡ None → (is_some (of_docs k) ≡ false) ⊎ (x ≡ None)
no_single (OfDocs own) None h = inr refl
no_single (OfDocs own) (Some x) h = absurd (none-some (UnderText own x) (sym h))
no_single (OfNotes own) x h = inl refl

-- of a number that isn't one of 32 bits no document has the size
out_of_sizes : (num : Option ℤ) → size_key num ≡ None → (k : ℕ) → k ≤ 4294967295 → both Eq (Some (pos k)) num ≡ false
out_of_sizes None h k l = refl
out_of_sizes (Some n) h k l = elim (cases_Bool (int_eq (pos k) n)) [
  | inl e ↦ absurd (none-some (UnderSize k) (sym h ∙ short_key (Some n) k (ap Some (sym ((Decides-int_eq (pos k) n).0 e))) l))
  | inr e ↦ e
]

-- what is found by neither is no list, or has no rows
pub not_single : (T : Tables) (access : Access) (env : Env) → AreSized T.docs → single_key access env ≡ None → is_many access ≡ false
    → (is_list access ≡ false) ⊎ (all_rows_by access env T ≡ [])
not_single T (ByText f e) env sized h m = elim (no_single (field_kind f) (text e env) h) [
  | inl n ↦ inl n
  | inr n ↦ inr (sym (no_text T f (text e env) n))
]
not_single T (ByNumber Id e) env sized h m = inl refl
not_single T (ByNumber Size e) env sized h m = inr (sym (no_size T.docs (number e env) (out_of_sizes (number e env) h) sized))
not_single T (ByNumber DocOf e) env sized h m = inl refl
not_single T (ByNumber Value e) env sized h m = inl refl
not_single T (ByEntry l e) env sized h m = absurd (false≢true (sym m))
not_single T (ByEach w l f) env sized h m = inl refl
not_single T (Whole t) env sized h m = inl refl

module _ (T : Tables) (stand : InPlace doc_number doc_arrival T.docs) (env : Env) (access : Access) where
  module _ (l : ListField) (e : TextExpr) (a : access ≡ ByEntry l e) (asked : Option (List ℕ)) (is : asked ≡ text e env) where
    pub entry_list : (kind : TextKind) → kind ≡ list_kind l → (r : Option (List Doc))
        → IfSome r (λ docs. IsUnderText kind asked T docs) → IfSome r (λ docs. IsListOf T access env docs)
    entry_list kind k None h = tt
    entry_list kind k (Some docs) u =
        let own : docs ≡ with_text (texts_of (list_kind l)) u.some T.docs = u.docs_are
        ∙ ap (λ z. with_text (texts_of z) u.some T.docs) k in
        record {
          list = ap is_list a;
          sorted = sorted_if T stand (λ doc. list_any (λ other. bytes_eq u.some other) (texts_of (list_kind l) doc)) docs own;
          rows = ap (λ z. all_rows_by z env T) a ∙ sym (entries_with T l (text e env) u.some (sym is ∙ u.is)) ∙ ap (map OfDoc) (sym own);
        }

    pub no_entry_list : asked ≡ None → (is_list access ≡ false) ⊎ (all_rows_by access env T ≡ [])
    no_entry_list h = inr (ap (λ z. all_rows_by z env T) a ∙ sym (no_entry T l (text e env) (sym is ∙ h)))

-- the length of a list is that of its rows
counts_all : (T : Tables) (env : Env) (n : ℕ) (a : Access) → is_list a ≡ true → n ≡ length (all_rows_by a env T) → n ≡ access_length T env a
counts_all T env n (ByNumber Size e) h k = k
counts_all T env n (ByNumber Id e) h k = absurd (false≢true h)
counts_all T env n (ByNumber DocOf e) h k = k
counts_all T env n (ByNumber Value e) h k = k
counts_all T env n (ByText f e) h k = k
counts_all T env n (ByEntry l e) h k = k
counts_all T env n (ByEach w l f) h k = k
counts_all T env n (Whole t) h k = absurd (false≢true h)

-- a list is as long as it is
pub list_counted : (T : Tables) (access : Access) (env : Env) (docs : List Doc) → IsListOf T access env docs
    → length docs ≡ access_length T env access
list_counted T access env docs l = counts_all T env (length docs) access l.list (sym (mapped_length OfDoc docs) ∙ sym (ap length l.rows))

-- an access that gives a list of none
pub none_counted : (T : Tables) (access : Access) (env : Env) → is_list access ≡ true
    → (is_list access ≡ false) ⊎ (all_rows_by access env T ≡ []) → 0 ≡ access_length T env access
none_counted T access env l (inl n) = absurd (false≢true (sym n ∙ l))
none_counted T access env l (inr n) = counts_all T env 0 access l (sym (ap length n))

pub filter_less : {A : Type 0} (p : A → Bool) (xs : List A) → length (filter p xs) ≤ length xs
filter_less p [] = omega arith
filter_less p (x ∷ xs) = let k = filter_less p xs in elim (cases_Bool (p x)) [
  | inl e ↦ rw e (omega (arith, k))
  | inr e ↦ rw e (omega (arith, k))
]

-- the rows of which a field is one of some texts, one text after the other
pub counted_each : (f : TextField) (T : Tables) (xs : List (List ℕ)) → count_each f T xs ≡ length (rows_with_each f T xs)
counted_each f T [] = refl
counted_each f T (x ∷ xs) =
    let a : length (rows_with_each f T (x ∷ xs)) ≡ length (rows_with f T x) + length (rows_with_each f T xs) =
    length-append (rows_with f T x) (rows_with_each f T xs) in
    let k = counted_each f T xs in
    omega (arith, a, k)

pub each_within : (f : TextField) (T : Tables) → length T.docs ≤ 4294967295 → length T.notes ≤ 4294967295 → (xs : List (List ℕ))
    → count_each f T xs ≤ 4294967295 * length xs
each_within f T h g [] = omega arith
each_within f T h g (x ∷ xs) =
    let l : length (rows_with f T x) ≤ length (rows_of (text_table f) T) =
    filter_less (λ row. both_texts Eq (text_field f row) (Some x)) (rows_of (text_table f) T) in
    let m = few (text_table f) in
    let k = each_within f T h g xs in
    omega (arith, l, m, k)
  where
    few : (t : Table) → length (rows_of t T) ≤ 4294967295
    few Docs = subst (λ n. n ≤ 4294967295) (sym (mapped_length OfDoc T.docs)) h
    few Notes = subst (λ n. n ≤ 4294967295) (sym (mapped_length OfNote T.notes)) g

pub counted_more : (f : TextField) (T : Tables) (xs rest : List (List ℕ)) (x : List ℕ) (sum count all : ℕ) → all ≡ sum + count_each f T xs
    → xs ≡ x ∷ rest → count ≡ length (rows_with f T x) → all ≡ sum + count + count_each f T rest
counted_more f T xs rest x sum count all w e n =
    let k : all ≡ sum + (length (rows_with f T x) + count_each f T rest) = w ∙ ap (λ z. sum + count_each f T z) e in
    omega (arith, k, n)

pub from_zero : (n : ℕ) → n ≡ 0 + n
from_zero n = omega arith

pub docs_counted : (docs : List Doc) (rows : List Row) → map OfDoc docs ≡ rows → length docs ≡ length rows
docs_counted docs rows e = sym (mapped_length OfDoc docs) ∙ ap length e

pub notes_counted : (notes : List Note) (rows : List Row) → map OfNote notes ≡ rows → length notes ≡ length rows
notes_counted notes rows e = sym (mapped_length OfNote notes) ∙ ap length e

-- the rows of an EXISTS by an access
module _ (T : Tables) (a : Access) (v : Var) (env : Env) (guards : List Atom) where
  abbrev all : List Row
  all = all_rows_by a env T

  pub no_list_cut : (rows : List Row) → rows ≡ all → (is_list a ≡ false) ⊎ (all ≡ []) → rows ≡ cut_rows a v env guards all
  no_list_cut rows r (inl n) = r ∙ sym (ap (λ c. if c then filter (passes_cuts v env guards) all else all) n)
  no_list_cut rows r (inr n) = r ∙ go (is_list a)
    where
      go : (c : Bool) → all ≡ (if c then filter (passes_cuts v env guards) all else all)
      go true = n ∙ sym (ap (filter (passes_cuts v env guards)) n)
      go false = refl

  pub none_cut : is_list a ≡ true → (is_list a ≡ false) ⊎ (all ≡ []) → [] ≡ cut_rows a v env guards all
  none_cut l (inl n) = absurd (false≢true (sym n ∙ l))
  none_cut l (inr n) = no_list_cut [] (sym n) (inr n)

  pub list_cut : (docs left : List Doc) → IsListOf T a env docs → left ≡ filter (λ d. passes_cuts v env guards (OfDoc d)) docs
      → map OfDoc left ≡ cut_rows a v env guards all
  list_cut docs left l e =
      ap (map OfDoc) e
      ∙ picked OfDoc (λ d. passes_cuts v env guards (OfDoc d)) (passes_cuts v env guards) docs (λ d. refl)
      ∙ sym (ap (filter (passes_cuts v env guards)) l.rows)
      ∙ sym (ap (λ c. if c then filter (passes_cuts v env guards) all else all) l.list)

-- those of the shortest
module _ (T : Tables) (v : Var) (t : Table) (x : Condition) (env : Env) (rows : List Row) where
  pub reached_by : (a : Access) → shortest T env (inner_accesses v t x) ≡ Some a
      → rows ≡ cut_rows a v env (guards_of x) (all_rows_by a env T) → rows ≡ reached T v t x env
  reached_by a s r = r ∙ sym (ap (λ o. cut_rows (unwrap_or o (Whole t)) v env (guards_of x) (all_rows_by (unwrap_or o (Whole t)) env T)) s)

  pub reached_whole : shortest T env (inner_accesses v t x) ≡ None → rows ≡ all_rows_by (Whole t) env T → rows ≡ reached T v t x env
  reached_whole s r = r ∙ uncut t
      ∙ sym (ap (λ o. cut_rows (unwrap_or o (Whole t)) v env (guards_of x) (all_rows_by (unwrap_or o (Whole t)) env T)) s)
    where
      uncut : (u : Table) → all_rows_by (Whole u) env T ≡ cut_rows (Whole u) v env (guards_of x) (all_rows_by (Whole u) env T)
      uncut Docs = refl
      uncut Notes = refl

-- looked for access by access, the shortest is found
pub shortest_found : (T : Tables) (env : Env) (accesses : List Access) → shortest_after T env None accesses ≡ shortest T env accesses
shortest_found T env accesses = first_least (access_length T env) (shorter_access T env) (λ a. refl) (λ b a. refl) accesses

-- the shortest of some accesses and one before them, access by access
module _ (T : Tables) (env : Env) where
  fold_append : (best : Option Access) (xs ys : List Access)
      → shortest_after T env best (xs ++ ys) ≡ shortest_after T env (shortest_after T env best xs) ys
  fold_append best [] ys = refl
  fold_append best (x ∷ xs) ys = fold_append (shorter_access T env best x) xs ys

  pub none_more : (best : Option Access) (accesses : List Access) → length accesses ≡ 0 → best ≡ shortest_after T env best accesses
  none_more best [] e = refl
  none_more best (x ∷ xs) e = absurd (omega (arith, e))

  pub one_more : (best found now : Option Access) (accesses rest : List Access) (access : Access) → accesses ≡ access ∷ rest
      → found ≡ shorter_access T env best access → now ≡ shortest_after T env found rest
      → now ≡ shortest_after T env best accesses
  one_more best found now accesses rest access e f n = n ∙ ap (λ o. shortest_after T env o rest) f ∙ sym (ap (shortest_after T env best) e)

  -- no other is shorter than one that reaches no row
  pub none_shorter : (best : Access) (accesses : List Access) → access_length T env best ≡ 0
      → Some best ≡ shortest_after T env (Some best) accesses
  none_shorter best [] e = refl
  none_shorter best (a ∷ accesses) e =
      let n : nat_lt (access_length T env a) (access_length T env best) ≡ false = grind (arith, e) in
      none_shorter best accesses e ∙ ap (λ b. shortest_after T env (if b then Some a else Some best) accesses) (sym n)

  -- the shorter of two, by their lengths
  pub is_shorter : (best access : Access) (m n : ℕ) → m ≡ access_length T env best → n ≡ access_length T env access
      → n < m → Some access ≡ shorter_access T env (Some best) access
  is_shorter best access m n e f h =
      let l : nat_lt (access_length T env access) (access_length T env best) ≡ true = grind (arith, e, f, h) in
      ap (λ b. if b then Some access else Some best) (sym l)

  pub not_shorter : (best access : Access) (m n : ℕ) → m ≡ access_length T env best → n ≡ access_length T env access
      → m ≤ n → Some best ≡ shorter_access T env (Some best) access
  not_shorter best access m n e f h =
      let l : nat_lt (access_length T env access) (access_length T env best) ≡ false = grind (arith, e, f, h) in
      ap (λ b. if b then Some access else Some best) (sym l)

  module _ (known : ℕ → Bool) (v : Var) (t : Table) where
    pub none_by : (best : Option Access) (a : Atom) → None ≡ access_by known v t a
        → best ≡ shortest_after T env best (accesses_by known v t (a ∷ []))
    none_by best a e = ap (λ o. shortest_after T env best (option_to_list o ++ [])) e

    pub one_by : (best now : Option Access) (a : Atom) (access : Access) → Some access ≡ access_by known v t a
        → now ≡ shorter_access T env best access → now ≡ shortest_after T env best (accesses_by known v t (a ∷ []))
    one_by best now a access e n = n ∙ ap (λ o. shortest_after T env best (option_to_list o ++ [])) e

    pub none_of : (best : Option Access) (guards : List Atom) → length guards ≡ 0
        → best ≡ shortest_after T env best (accesses_by known v t guards)
    none_of best [] e = refl
    none_of best (a ∷ guards) e = absurd (omega (arith, e))

    pub more_of : (best found now : Option Access) (guards rest : List Atom) (a : Atom) → guards ≡ a ∷ rest
        → found ≡ shortest_after T env best (accesses_by known v t (a ∷ []))
        → now ≡ shortest_after T env found (accesses_by known v t rest) → now ≡ shortest_after T env best (accesses_by known v t guards)
    more_of best found now guards rest a e f n =
        n ∙ ap (λ o. shortest_after T env o (accesses_by known v t rest)) f
        ∙ ap (λ xs. shortest_after T env (shortest_after T env best xs) (accesses_by known v t rest))
        (append_none (option_to_list (access_by known v t a)))
        ∙ sym (fold_append best (option_to_list (access_by known v t a)) (accesses_by known v t rest))
        ∙ sym (ap (λ g. shortest_after T env best (accesses_by known v t g)) e)

  pub none_on : (best : Option Access) (path : List Step) (v : Var) (t : Table) → length path ≡ 0
      → best ≡ shortest_after T env best (step_accesses path env v t)
  none_on best [] v t e = refl
  none_on best (step ∷ path) v t e = absurd (omega (arith, e))

  pub more_on : (best found now : Option Access) (path rest : List Step) (step : Step) (v : Var) (t : Table) → path ≡ step ∷ rest
      → found ≡ shortest_after T env best (accesses_by (is_held env) v t step.guards)
      → now ≡ shortest_after T env found (step_accesses rest env v t) → now ≡ shortest_after T env best (step_accesses path env v t)
  more_on best found now path rest step v t e f n =
      n ∙ ap (λ o. shortest_after T env o (step_accesses rest env v t)) f
      ∙ sym (fold_append best (accesses_by (is_held env) v t step.guards) (step_accesses rest env v t))
      ∙ sym (ap (λ p. shortest_after T env best (step_accesses p env v t)) e)
