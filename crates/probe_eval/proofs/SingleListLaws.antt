-- The posting lists that accesses reach by a key of which each document has at most one.
use Rattle.std.proofs.Common.{◌≡◌, ◌∙◌, ◌-◌, ◌≤◌, ℕ, ℤ, pos, negsuc, Bool, true, false, List, [], ◌∷◌, Option, Some, None, map, filter}
use Rattle.std.proofs.Common.{refl, sym, ap, subst, inl, inr, arith, nat_eq}
use Rattle.std.specs.Prelude.{IfSome, nat_le, slice_get, if◌then◌else◌}
use Rattle.std.proofs.lemmas.Bool.{cases_Bool, false≢true}
use Rattle.std.proofs.lemmas.Bool.Decides.{Decides-int_eq}
use Rattle.std.proofs.lemmas.Option.{none-some, same_Some}
use Rattle.tap_base.specs.declared.numbers.Op.TheVariants.{Eq}
use Rattle.tap_rows.specs.declared.rows.Doc.{Doc}
use Rattle.tap_rows.specs.declared.tables.Tables.{Tables}
use Rattle.tap_rows.specs.Fields.{fields}
use Rattle.tap_rows.specs.Kept.{Each}
use Rattle.tql_core.specs.declared.atom.NumExpr.{NumExpr}
use Rattle.tql_core.specs.declared.atom.NumField.TheVariants.{Size}
use Rattle.tql_core.specs.declared.atom.TextExpr.{TextExpr}
use Rattle.tql_core.specs.declared.atom.TextField.{TextField}
use Rattle.tql_core.specs.Row.{OfDoc}
use Rattle.tql_core.specs.Values.{Env, both, number, text}
use Rattle.access_plan.specs.declared.access.Access.{Access}
use Rattle.access_plan.specs.declared.access.Access.TheVariants.{ByNumber, ByText}
use Rattle.row_index.specs.declared.text_kind.TextKind.{TextKind}
use Rattle.row_index.specs.Orders.{InPlace, IsRisingBy, doc_arrival, doc_number, doc_rank}
use Rattle.row_index.specs.Texts.{texts_of, with_text}
use Rattle.row_index.proofs.Halves.{rising_kept}
use Rattle.row_index.proofs.InPlaces.{numbers_rise}
use Rattle.row_index.proofs.ListWindows.{IsOwn}
use Rattle.row_index.proofs.PlaceLists.{all_own, each_kept}
use Rattle.row_index.proofs.SingleLists.{lists_of_one_kind_are_apart}
use Rattle.probe_eval.specs.declared.kinds.FieldKind.{FieldKind}
use Rattle.probe_eval.specs.declared.kinds.FieldKind.TheVariants.{OfDocs, OfNotes}
use Rattle.probe_eval.specs.declared.list_kind.ListKind.TheVariants as L
use Rattle.probe_eval.specs.declared.single_lists.SingleList.{SingleList}
use Rattle.probe_eval.specs.Kinds.{field_kind, of_docs}
use Rattle.probe_eval.specs.SingleLists.{ListKey, UnderText, UnderSize, kind_of, is_single_kind, is_under_key, docs_under, text_key}
use Rattle.probe_eval.specs.SingleLists.{size_key, single_key, IsSorted, IsUnder, IsUnderField, IsOfSize, ReachesList}
use Rattle.probe_eval.specs.Work.{rows_of_number, rows_of_text, rows_by}
use Rattle.probe_eval.proofs.AccessLists.{of_docs_single, docs_with, docs_of_size}

-- documents that a test keeps are in order
pub sorted_if : (T : Tables) → InPlace doc_number doc_arrival T.docs → (p : Doc → Bool) (docs : List Doc) → docs ≡ filter p T.docs
    → IsSorted docs
sorted_if T stand p docs e = record {
  arrivals = subst (IsRisingBy doc_arrival) (sym e) (rising_kept doc_arrival p T.docs stand.rising);
  numbers = subst (IsRisingBy doc_rank) (sym e) (rising_kept doc_rank p T.docs (numbers_rise doc_number 1 T.docs stand.numbered));
}

-- the key of a text of a field of documents
text_kept : (k : FieldKind) (kind : TextKind) (x : Option (List ℕ)) (t : List ℕ) → of_docs k ≡ Some kind → x ≡ Some t
    → text_key k x ≡ Some (UnderText kind t)
text_kept (OfDocs own) kind x t h e = ap (text_key (OfDocs own)) e ∙ ap (λ k. Some (UnderText k t)) (same_Some own kind h)
text_kept (OfNotes own) kind x t h e = absurd (none-some kind h)

-- no text, no key
pub no_text_key : (k : FieldKind) (own : TextKind) (x : Option (List ℕ)) → k ≡ OfDocs own → x ≡ None → text_key k x ≡ None
no_text_key k own x e h = ap (λ z. text_key z x) e ∙ ap (text_key (OfDocs own)) h

-- a number of 32 bits
pub short_key : (num : Option ℤ) (size : ℕ) → num ≡ Some (pos size) → size ≤ 4294967295 → size_key num ≡ Some (UnderSize size)
short_key num size e h = ap size_key e ∙ ap (λ b. if b then Some (UnderSize size) else None) within
  where
    within : nat_le size 4294967295 ≡ true
    within = grind (arith, h)

-- any other is no size
pub no_short_key : (num : Option ℤ) → ((k : ℕ) → k ≤ 4294967295 → both Eq (Some (pos k)) num ≡ false) → size_key num ≡ None
no_short_key None out = refl
no_short_key (Some (negsuc n)) out = refl
no_short_key (Some (pos n)) out = elim (cases_Bool (nat_le n 4294967295)) [
  | inl e ↦ absurd (false≢true (sym (out n (within e)) ∙ (Decides-int_eq (pos n) (pos n)).1 refl))
  | inr e ↦ rw e refl
]
  where
    within : nat_le n 4294967295 ≡ true → n ≤ 4294967295
    within e = grind (arith, e)

-- a list under a text of a field of documents
pub under_field : (f : TextField) (own : TextKind) (asked : Option (List ℕ)) (T : Tables) → field_kind f ≡ OfDocs own
    → (r : Option SingleList) → IfSome r (λ list. IsUnder own asked T list) → IfSome r (λ list. IsUnderField f asked T list)
under_field f own asked T e None h = tt
under_field f own asked T e (Some list) h = record { own = own; is_own = ap of_docs e; under = h }

module _ (T : Tables) (stand : InPlace doc_number doc_arrival T.docs) (env : Env) (access : Access) where
  -- a list of a single kind whose documents are the rows of the access
  list_reached : (key : ListKey) → is_single_kind (kind_of key) ≡ true → single_key access env ≡ Some key
      → ((last : ℤ) → rows_by last access env T ≡ map OfDoc (docs_under key T.docs))
      → (list : SingleList) → list.kind ≡ kind_of key → list.docs ≡ docs_under key T.docs → ReachesList T access env list
  list_reached key single is rows list k e = record {
    list = record {
      key = key;
      kind = k;
      single = ap is_single_kind k ∙ single;
      docs = e;
      sorted = sorted_if T stand (is_under_key key) list.docs e;
    };
    key = is;
    rows = λ last. rows last ∙ ap (map OfDoc) (sym e);
  }

  module _ (f : TextField) (e : TextExpr) (a : access ≡ ByText f e) (asked : Option (List ℕ)) (is : asked ≡ text e env) where
    pub text_reached : (r : Option SingleList) → IfSome r (λ list. IsUnderField f asked T list)
        → IfSome r (λ list. ReachesList T access env list)
    text_reached None h = tt
    text_reached (Some list) h =
        let t = h.under.some in
        let s : text e env ≡ Some t = sym is ∙ h.under.is in
        list_reached (UnderText h.own t) (of_docs_single f h.own h.is_own)
        (ap (λ z. single_key z env) a ∙ text_kept (field_kind f) h.own (text e env) t h.is_own s)
        (λ last. ap (λ z. rows_by last z env T) a ∙ ap (rows_of_text f T) s ∙ sym (docs_with f h.own h.is_own T t))
        list h.under.kind h.under.docs

    -- if there is no text, the access asks for none
    pub none_asked : text_key (field_kind f) asked ≡ None → single_key access env ≡ None
    none_asked h = ap (λ z. single_key z env) a ∙ ap (text_key (field_kind f)) (sym is) ∙ h

  module _ (e : NumExpr) (a : access ≡ ByNumber Size e) (asked : Option ℤ) (is : asked ≡ number e env) where
    pub size_reached : (r : Option SingleList) → IfSome r (λ list. IsOfSize asked T list)
        → IfSome r (λ list. ReachesList T access env list)
    size_reached None h = tt
    size_reached (Some list) h =
        list_reached (UnderSize h.size) refl (ap (λ z. single_key z env) a ∙ ap size_key (sym is) ∙ h.key)
        (λ last. ap (λ z. rows_by last z env T) a ∙ ap (rows_of_number Size T) (sym is) ∙ sym (docs_of_size T asked h.size h.is))
        list h.kind h.docs

    -- if there is no size, the access asks for none
    pub no_size_asked : size_key asked ≡ None → single_key access env ≡ None
    no_size_asked h = ap (λ z. single_key z env) a ∙ ap size_key (sym is) ∙ h

-- the rows that a filter keeps pass its test
all_pass : {A : Type 0} (test : A → Bool) (rows : List A) → Each (λ row. test row ≡ true) (filter test rows)
all_pass test [] = tt
all_pass test (row ∷ rows) =
    elim (cases_Bool (test row)) [
      | inl b ↦ rw b (b, all_pass test rows)
      | inr b ↦ rw b (all_pass test rows)
    ]

-- a document has one size
one_size : (doc : Doc) (m n : ℕ) → nat_eq (fields doc).size m ≡ true → nat_eq (fields doc).size n ≡ true → m ≡ n
one_size doc m n h k = same (fields doc).size h k
  where
    same : (s : ℕ) → nat_eq s m ≡ true → nat_eq s n ≡ true → m ≡ n
    same s h k = grind (arith, h, k)

-- of two lists of one single kind that begin with one document both are the same
pub lists_are_apart : (key other : ListKey) (docs : List Doc) (d e : Doc) (ds es : List Doc) → is_single_kind (kind_of key) ≡ true
    → kind_of other ≡ kind_of key → InPlace doc_number doc_arrival docs → docs_under key docs ≡ d ∷ ds → docs_under other docs ≡ e ∷ es
    → d.num.0 ≡ e.num.0 → docs_under key docs ≡ docs_under other docs
lists_are_apart (UnderText own t) (UnderText kind u) docs d e ds es single k stand p q n =
    let same : kind ≡ own = text_same k in
    lists_of_one_kind_are_apart own t u docs d e ds es single stand p (subst (λ z. with_text (texts_of z) u docs ≡ e ∷ es) same q) n
    ∙ ap (λ z. with_text (texts_of z) u docs) (sym same)
  where
    text_same : {a b : TextKind} → L.Text a ≡ L.Text b → a ≡ b
    text_same e = cc
lists_are_apart (UnderSize m) (UnderSize k) docs d e ds es single h stand p q n =
    let own_all = all_own doc_number docs stand.numbered in
    let own_d = (subst (Each (IsOwn docs)) p (each_kept (IsOwn docs) (is_under_key (UnderSize m)) docs own_all)).0 in
    let own_e = (subst (Each (IsOwn docs)) q (each_kept (IsOwn docs) (is_under_key (UnderSize k)) docs own_all)).0 in
    let same : d ≡ e = same_Some d e (sym own_d ∙ ap (λ z. slice_get docs (z - 1)) n ∙ own_e) in
    let of_d = (subst (Each (λ doc. is_under_key (UnderSize m) doc ≡ true)) p (all_pass (is_under_key (UnderSize m)) docs)).0 in
    let of_e = (subst (Each (λ doc. is_under_key (UnderSize k) doc ≡ true)) q (all_pass (is_under_key (UnderSize k)) docs)).0 in
    let also : is_under_key (UnderSize k) d ≡ true = subst (λ doc. is_under_key (UnderSize k) doc ≡ true) (sym same) of_e in
    ap (λ z. docs_under (UnderSize z) docs) (one_size d m k of_d also)
lists_are_apart (UnderText own t) (UnderSize k) docs d e ds es single h stand p q n = absurd (differ h)
  where
    differ : {a : TextKind} → L.Size ≡ L.Text a → ⊥
    differ e = cc
lists_are_apart (UnderSize m) (UnderText kind u) docs d e ds es single h stand p q n = absurd (differ h)
  where
    differ : {a : TextKind} → L.Text a ≡ L.Size → ⊥
    differ e = cc
