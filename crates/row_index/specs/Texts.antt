-- The texts by which documents are found.
use Rattle.std.specs.Prelude.{◌≡◌, ◌+◌, List, [], ℕ, zero, suc, Bool, true, false, length, get_or, nat_lt, if◌then◌else◌}
use Rattle.std.specs.Str.{bytes_eq}
use Rattle.std.specs.Option.{option_to_list}
use Rattle.tap_rows.specs.declared.rows.Doc.{Doc}
use Rattle.tap_rows.specs.declared.fields.Fields.{Fields}
use Rattle.row_index.specs.declared.doc_texts.DocTexts.{DocTexts}
use Rattle.row_index.specs.declared.text_kind.TextKind.{TextKind}
use Rattle.row_index.specs.declared.text_kind.TextKind.TheVariants.{MsgId, Parent, Sender, Subject, Reference, To, Cc, Newsgroups, Word}
use Rattle.row_index.specs.Orders.{Numbered, doc_number}
use Rattle.row_index.specs.Places.{cut_all}
use Rattle.row_index.specs.Posts.{Posts, posted_all, IsPartlyPosted, with_key}
use Rattle.tap_rows.specs.Fields.{fields}

-- the place of a kind among all
abbrev pub kind_place : TextKind → ℕ
kind_place MsgId = 0
kind_place Parent = 1
kind_place Sender = 2
kind_place Subject = 3
kind_place Reference = 4
kind_place To = 5
kind_place Cc = 6
kind_place Newsgroups = 7
kind_place Word = 8

-- the kind at a place
abbrev pub kind_at : ℕ → TextKind
kind_at zero = MsgId
kind_at (suc zero) = Parent
kind_at (suc (suc zero)) = Sender
kind_at (suc (suc (suc zero))) = Subject
kind_at (suc (suc (suc (suc zero)))) = Reference
kind_at (suc (suc (suc (suc (suc zero))))) = To
kind_at (suc (suc (suc (suc (suc (suc zero)))))) = Cc
kind_at (suc (suc (suc (suc (suc (suc (suc zero))))))) = Newsgroups
kind_at _ = Word

-- the words of a document
abbrev pub words_in : Doc → List (List ℕ)
words_in doc = (fields doc).words

-- the texts of this kind among fields
abbrev pub field_texts : TextKind → Fields → List (List ℕ)
field_texts MsgId f = option_to_list f.msgid
field_texts Parent f = option_to_list f.inreplyto
field_texts Sender f = option_to_list f.from
field_texts Subject f = option_to_list f.subject
field_texts Reference f = f.references
field_texts To f = f.to
field_texts Cc f = f.cc
field_texts Newsgroups f = f.newsgroups
field_texts Word f = f.words

-- the document's texts of this kind
abbrev pub texts_of : TextKind → Doc → List (List ℕ)
texts_of kind doc = field_texts kind (fields doc)

-- has a document at most one text of this kind?
abbrev pub is_single : TextKind → Bool
is_single MsgId = true
is_single Parent = true
is_single Sender = true
is_single Subject = true
is_single _ = false

-- the documents of which one of these texts is the given one
abbrev pub with_text : (Doc → List (List ℕ)) → List ℕ → List Doc → List Doc
with_text texts text docs = with_key bytes_eq texts text docs

-- the places under each text of the kind at this place
abbrev pub list_at : ℕ → DocTexts → List (List ℕ × List ℕ)
list_at n texts = get_or texts.lists n []

-- the places under each text of this kind
abbrev pub list_of : TextKind → DocTexts → List (List ℕ × List ℕ)
list_of kind texts = list_at (kind_place kind) texts

-- under each text stand the places of the documents that have it
abbrev pub TextPosts : List Doc → DocTexts → Type 0
TextPosts docs texts = (kind : TextKind) → Posts bytes_eq (texts_of kind) doc_number docs (list_of kind texts)

-- the document comes next after these, at this place
pub record IsNext (docs : List Doc) (doc : Doc) (place : ℕ) : Type 0 where
  pub numbered : Numbered doc_number 1 docs
  pub number : doc.num.0 ≡ length docs + 1
  pub behind : place ≡ length docs

-- the lists of the first n kinds were changed so, and no others
abbrev pub AreChanged : (ℕ → List (List ℕ × List ℕ) → List (List ℕ × List ℕ)) → ℕ → DocTexts → DocTexts → Type 0
AreChanged change n old new = (k : ℕ) → list_at k new ≡ (if nat_lt k n then change k (list_at k old) else list_at k old)

-- a document of these fields was put under its texts of the first n kinds
abbrev pub ArePosted : ℕ → Fields → ℕ → DocTexts → DocTexts → Type 0
ArePosted n fields place old new = AreChanged (λ k es. posted_all bytes_eq (field_texts (kind_at k) fields) place es) n old new

-- a document of these fields was put under all its texts
abbrev pub IsPosted : Fields → ℕ → DocTexts → DocTexts → Type 0
IsPosted fields place old new =
    (kind : TextKind) → list_of kind new ≡ posted_all bytes_eq (field_texts kind fields) place (list_of kind old)

-- a document of these fields was put under some of its texts
abbrev pub IsPartly : Fields → ℕ → DocTexts → DocTexts → Type 0
IsPartly fields place old new = (kind : TextKind) → IsPartlyPosted (field_texts kind fields) place (list_of kind old) (list_of kind new)

-- the places from len on were removed from under all texts
abbrev pub IsCut : ℕ → DocTexts → DocTexts → Type 0
IsCut len old new = (kind : TextKind) → list_of kind new ≡ cut_all len (list_of kind old)
