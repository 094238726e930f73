-- A document stands in at most one list of the texts of a single kind.
use Rattle.std.proofs.Common.{◌≡◌, ℕ, ◌-◌, Bool, true, List, [], ◌∷◌, Option, Some, None, filter, sym, ap, ◌∙◌, subst, inl}
use Rattle.std.proofs.Common.{inr}
use Rattle.std.specs.Prelude.{slice_get}
use Rattle.std.specs.Option.{option_to_list}
use Rattle.std.specs.Str.{bytes_eq}
use Rattle.std.proofs.lemmas.Bool.{cases_Bool}
use Rattle.std.proofs.lemmas.Option.{same_Some}
use Rattle.tap_rows.specs.declared.rows.Doc.{Doc}
use Rattle.tap_rows.specs.Kept.{Each}
use Rattle.row_index.specs.declared.text_kind.TextKind.{TextKind}
use Rattle.row_index.specs.declared.text_kind.TextKind.TheVariants.{MsgId, Parent, Sender, Subject, Reference, To, Cc, Newsgroups, Word}
use Rattle.row_index.specs.Orders.{InPlace, doc_number, doc_arrival}
use Rattle.row_index.specs.Posts.{is_one_of}
use Rattle.row_index.specs.Texts.{is_single, texts_of, with_text}
use Rattle.row_index.proofs.ListWindows.{IsOwn, own_listed}
use Rattle.tap_rows.specs.Fields.{fields}
use Rattle.tap_rows.proofs.Tests.{or_end, bytes_same}

-- who has one text at most has no other
alone : (o : Option (List ℕ)) (t u : List ℕ) → is_one_of bytes_eq t (option_to_list o) ≡ true
    → is_one_of bytes_eq u (option_to_list o) ≡ true → t ≡ u
alone None t u h k = absurd cc
alone (Some x) t u h k = is t h ∙ sym (is u k)
  where
    is : (y : List ℕ) → is_one_of bytes_eq y (option_to_list (Some x)) ≡ true → y ≡ x
    is y e = bytes_same y x (sym (or_end (bytes_eq y x)) ∙ e)

-- a document has at most one text of a single kind
one_text : (kind : TextKind) (doc : Doc) (t u : List ℕ) → is_single kind ≡ true → is_one_of bytes_eq t (texts_of kind doc) ≡ true
    → is_one_of bytes_eq u (texts_of kind doc) ≡ true → t ≡ u
one_text MsgId doc t u s h k = alone (fields doc).msgid t u h k
one_text Parent doc t u s h k = alone (fields doc).inreplyto t u h k
one_text Sender doc t u s h k = alone (fields doc).from t u h k
one_text Subject doc t u s h k = alone (fields doc).subject t u h k
one_text Reference doc t u s h k = absurd cc
one_text To doc t u s h k = absurd cc
one_text Cc doc t u s h k = absurd cc
one_text Newsgroups doc t u s h k = absurd cc
one_text Word doc t u s h k = absurd cc

-- the rows that a filter keeps pass its test
all_pass : {A : Type 0} (test : A → Bool) (rows : List A) → Each (λ row. test row ≡ true) (filter test rows)
all_pass test [] = tt
all_pass test (row ∷ rows) =
    elim (cases_Bool (test row)) [
      | inl b ↦ rw b (b, all_pass test rows)
      | inr b ↦ rw b (all_pass test rows)
    ]

-- of two lists of one single kind that begin with one document both are the same
pub lists_of_one_kind_are_apart : (kind : TextKind) (t u : List ℕ) (docs : List Doc) (d e : Doc) (ds es : List Doc) → is_single kind ≡ true
    → InPlace doc_number doc_arrival docs → with_text (texts_of kind) t docs ≡ d ∷ ds → with_text (texts_of kind) u docs ≡ e ∷ es
    → d.num.0 ≡ e.num.0 → with_text (texts_of kind) t docs ≡ with_text (texts_of kind) u docs
lists_of_one_kind_are_apart kind t u docs d e ds es single stand p q n =
    let own_d = (subst (Each (IsOwn docs)) p (own_listed (texts_of kind) t docs stand)).0 in
    let own_e = (subst (Each (IsOwn docs)) q (own_listed (texts_of kind) u docs stand)).0 in
    let same : d ≡ e = same_Some d e (sym own_d ∙ ap (λ k. slice_get docs (k - 1)) n ∙ own_e) in
    let of_d = (subst (Each (λ doc. is_one_of bytes_eq t (texts_of kind doc) ≡ true)) p
    (all_pass (λ doc. is_one_of bytes_eq t (texts_of kind doc)) docs)).0 in
    let of_e = (subst (Each (λ doc. is_one_of bytes_eq u (texts_of kind doc) ≡ true)) q
    (all_pass (λ doc. is_one_of bytes_eq u (texts_of kind doc)) docs)).0 in
    let also : is_one_of bytes_eq u (texts_of kind d) ≡ true =
    subst (λ doc. is_one_of bytes_eq u (texts_of kind doc) ≡ true) (sym same) of_e in
    ap (λ z. with_text (texts_of kind) z docs) (one_text kind d t u single of_d also)
