-- Posting lists by a key of which each document has at most one: a text, or the size.
use Rattle.std.specs.Prelude.{◌≡◌, ℤ, pos, negsuc, ℕ, Bool, true, Option, Some, None, List, map, filter, nat_eq, nat_le, if◌then◌else◌}
use Rattle.std.specs.Str.{bytes_eq}
use Rattle.tap_rows.specs.declared.rows.Doc.{Doc}
use Rattle.tap_rows.specs.declared.tables.Tables.{Tables}
use Rattle.tap_rows.specs.Fields.{fields}
use Rattle.tql_core.specs.declared.atom.NumField.TheVariants.{Size}
use Rattle.tql_core.specs.declared.atom.TextField.{TextField}
use Rattle.tql_core.specs.Row.{OfDoc}
use Rattle.tql_core.specs.Values.{Env, number, text}
use Rattle.access_plan.specs.declared.access.Access.{Access}
use Rattle.access_plan.specs.declared.access.Access.TheVariants.{ByNumber, ByText}
use Rattle.row_index.specs.declared.text_kind.TextKind.{TextKind}
use Rattle.row_index.specs.Numbers.{of_size}
use Rattle.row_index.specs.Orders.{IsRisingBy, doc_arrival, doc_rank}
use Rattle.row_index.specs.Posts.{is_one_of}
use Rattle.row_index.specs.Texts.{is_single, texts_of, with_text}
use Rattle.probe_eval.specs.declared.kinds.FieldKind.{FieldKind}
use Rattle.probe_eval.specs.declared.kinds.FieldKind.TheVariants.{OfDocs, OfNotes}
use Rattle.probe_eval.specs.Kinds.{field_kind, of_docs}
use Rattle.probe_eval.specs.declared.list_kind.ListKind.{ListKind}
use Rattle.probe_eval.specs.declared.list_kind.ListKind.TheVariants as L
use Rattle.probe_eval.specs.declared.single_lists.SingleList.{SingleList}
use Rattle.probe_eval.specs.Work.{rows_by}

-- what the documents of a posting list have in common: a text of a kind, or a size
pub data ListKey : Type 0 where
  UnderText : TextKind → List ℕ → ListKey
  UnderSize : ℕ → ListKey

-- the kind of a key
abbrev pub kind_of : ListKey → ListKind
kind_of (UnderText own text) = L.Text own
kind_of (UnderSize size) = L.Size

-- has a document at most one key of this kind?
abbrev pub is_single_kind : ListKind → Bool
is_single_kind (L.Text own) = is_single own
is_single_kind L.Size = true

-- is the document listed under this key?
abbrev pub is_under_key : ListKey → Doc → Bool
is_under_key (UnderText own text) doc = is_one_of bytes_eq text (texts_of own doc)
is_under_key (UnderSize size) doc = nat_eq (fields doc).size size

-- the documents that are listed under the key
abbrev pub docs_under : ListKey → List Doc → List Doc
docs_under key docs = filter (is_under_key key) docs

-- the key of a text that may be absent, if it is of a kind of documents
abbrev pub text_key : FieldKind → Option (List ℕ) → Option ListKey
text_key (OfNotes own) x = None
text_key (OfDocs own) None = None
text_key (OfDocs own) (Some x) = Some (UnderText own x)

-- the key of a size that may be absent, if it has 32 bits
abbrev pub size_key : Option ℤ → Option ListKey
size_key None = None
size_key (Some (pos n)) = if nat_le n 4294967295 then Some (UnderSize n) else None
size_key (Some (negsuc n)) = None

-- the key under which the access looks for documents, if each of them has at most one such key
abbrev pub single_key : Access → Env → Option ListKey
single_key (ByText f e) env = text_key (field_kind f) (text e env)
single_key (ByNumber Size e) env = size_key (number e env)
single_key _ env = None

-- documents in order of arrival and of number
pub record IsSorted (docs : List Doc) : Type 0 where
  pub arrivals : IsRisingBy doc_arrival docs
  pub numbers : IsRisingBy doc_rank docs

-- the list has the documents under the text, of this kind
pub record IsUnder (own : TextKind) (text : Option (List ℕ)) (T : Tables) (found : SingleList) : Type 0 where
  pub kind : found.kind ≡ L.Text own
  pub some : List ℕ
  pub is : text ≡ Some some
  pub docs : found.docs ≡ with_text (texts_of own) some T.docs

-- the list has the documents under the text, of the field's kind
pub record IsUnderField (f : TextField) (text : Option (List ℕ)) (T : Tables) (found : SingleList) : Type 0 where
  pub own : TextKind
  pub is_own : of_docs (field_kind f) ≡ Some own
  pub under : IsUnder own text T found

-- the list has the documents of the size
pub record IsOfSize (num : Option ℤ) (T : Tables) (found : SingleList) : Type 0 where
  pub kind : found.kind ≡ L.Size
  pub size : ℕ
  pub is : num ≡ Some (pos size)
  pub key : size_key num ≡ Some (UnderSize size)
  pub docs : found.docs ≡ of_size size T.docs

-- the list has the documents under some key, of which each document has at most one
pub record IsSingleList (T : Tables) (found : SingleList) : Type 0 where
  pub key : ListKey
  pub kind : found.kind ≡ kind_of key
  pub single : is_single_kind found.kind ≡ true
  pub docs : found.docs ≡ docs_under key T.docs
  pub sorted : IsSorted found.docs

-- the access reaches the documents of the list
pub record ReachesList (T : Tables) (access : Access) (env : Env) (found : SingleList) : Type 0 where
  pub list : IsSingleList T found
  pub key : single_key access env ≡ Some list.key
  pub rows : (last : ℤ) → rows_by last access env T ≡ map OfDoc found.docs
