-- The rows that walks of the index hand out are those that an access admits.
use Rattle.std.proofs.Common.{◌≡◌, ℕ, suc, ◌+◌, ◌<◌, ◌≤◌, ℤ, pos, Bool, true, false, List, [], ◌∷◌, Option, Some, None, length, refl, sym}
use Rattle.std.proofs.Common.{ap, ◌∙◌, subst, inl, inr, arith, map, nat_eq}
use Rattle.std.specs.Prelude.{◌||◌, ◌≤ℤ◌, neg_ℤ, int_le, unwrap_or, option_to_list, filter}
use Rattle.std.specs.List.{list_any, find}
use Rattle.std.specs.Str.{bytes_eq}
use Rattle.std.specs.Ordering.{int_eq, is_eq}
use Rattle.std.proofs.lemmas.Int.{ints}
use Rattle.std.proofs.lemmas.Bool.{cases_Bool, eqb-true, eq-eqb}
use Rattle.std.proofs.lemmas.Bool.Decides.{Decides-int_eq}
use Rattle.std.proofs.lemmas.Map.Text.{is_eq-slice_cmp}
use Rattle.std.proofs.lemmas.Option.{none-some}
use Rattle.std.proofs.lemmas.Slice.Eq.{bytes_eq-Decides}
use Rattle.tap_base.specs.declared.numbers.Op.TheVariants.{Eq}
use Rattle.tap_rows.specs.declared.rows.Doc.{Doc}
use Rattle.tap_rows.specs.declared.rows.Note.{Note}
use Rattle.tap_rows.specs.declared.tables.Tables.{Tables}
use Rattle.tap_rows.specs.Kept.{Each}
use Rattle.tql_tree.specs.declared.table.Table.TheVariants.{Docs, Notes}
use Rattle.tql_core.specs.declared.atom.NumField.TheVariants.{Id, Size, DocOf, Value}
use Rattle.tql_core.specs.declared.atom.TextField.{TextField}
use Rattle.tql_core.specs.declared.atom.TextField.TheVariants.{From, Subject, MsgId, InReplyTo, Author, NoteKind, NoteText}
use Rattle.tql_core.specs.declared.atom.ListField.{ListField}
use Rattle.tql_core.specs.declared.atom.ListField.TheVariants.{To, Cc, Newsgroups, References, Words}
use Rattle.tql_core.specs.Row.{Row, OfDoc, OfNote, arrival, rows_of}
use Rattle.tql_core.specs.Values.{field, both, both_texts, text_cmp, text_field, list_field, has}
use Rattle.row_index.specs.declared.text_kind.TextKind.{TextKind}
use Rattle.row_index.specs.declared.note_text_kind.NoteTextKind.{NoteTextKind}
use Rattle.row_index.specs.Texts.{is_single, texts_of, with_text}
use Rattle.row_index.specs.Notes.{note_texts_of, notes_with}
use Rattle.row_index.specs.Numbers.{of_size, notes_valued}
use Rattle.row_index.specs.Orders.{Numbered, doc_number}
use Rattle.row_index.specs.Held.{indexed_notes}
use Rattle.access_plan.specs.Accesses.{walked_list, text_table}
use Rattle.probe_eval.specs.declared.kinds.FieldKind.TheVariants.{OfDocs, OfNotes}
use Rattle.probe_eval.specs.Kinds.{field_kind, of_docs, list_kind}
use Rattle.probe_eval.specs.Work.{rows_of_number, rows_of_text, rows_of_entry, rows_with}
use Rattle.tap_rows.specs.Fields.{fields}
use Rattle.tap_rows.proofs.Tests.{some_same, agree}
use Rattle.tap_base.specs.Numbers.{IsMoment}

module _ {A : Type 0} (of : A → Row) where
  -- rows picked before or after they are seen as rows
  pub picked : (p : A → Bool) (q : Row → Bool) (xs : List A) → ((x : A) → p x ≡ q (of x)) → map of (filter p xs) ≡ filter q (map of xs)
  picked p q [] h = refl
  picked p q (x ∷ xs) h =
      elim (cases_Bool (q (of x))) [
        | inl e ↦ rw (h x, e) (ap (λ zs. of x ∷ zs) (picked p q xs h))
        | inr e ↦ rw (h x, e) (picked p q xs h)
      ]

  pub none_picked : (q : Row → Bool) (xs : List A) → ((x : A) → q (of x) ≡ false) → [] ≡ filter q (map of xs)
  none_picked q [] h = refl
  none_picked q (x ∷ xs) h = rw (h x) (none_picked q xs h)

  -- rows that have all come by a second
  pub all_by : (f : A → ℤ) (last : ℤ) (xs : List A) → ((x : A) → arrival (of x) ≡ f x) → pos 250000000000 ≤ℤ last
      → Each (λ x. IsMoment (f x)) xs → filter (λ row. int_le (arrival row) last) (map of xs) ≡ filter (λ row. true) (map of xs)
  all_by f last [] s l m = refl
  all_by f last (x ∷ xs) s l m =
      let e : int_le (arrival (of x)) last ≡ true = ap (λ y. int_le y last) (s x) ∙ late (f x) m.0.1 in
      rw e (ap (λ zs. of x ∷ zs) (all_by f last xs s l m.1))
    where
      late : (a : ℤ) → a ≤ℤ pos 250000000000 → int_le a last ≡ true
      late a h = grind (arith, ints)

ne : (a k : ℕ) → k < a → nat_eq a k ≡ false
ne a k h = grind arith

pub same_number : (a k : ℕ) → nat_eq a k ≡ int_eq (pos a) (pos k)
same_number a k = agree (nat_eq a k) (int_eq (pos a) (pos k)) (λ e. (Decides-int_eq (pos a) (pos k)).1 (ap pos (eqb-true a k e))) (λ e.
    eq-eqb a k (same ((Decides-int_eq (pos a) (pos k)).0 e)))
  where
    same : pos a ≡ pos k → a ≡ k
    same e = cc

-- documents whose numbers are their places: one at most has a number
none_from : (k n : ℕ) (ds : List Doc) → Numbered doc_number n ds → k < n → filter (λ doc. nat_eq doc.num.0 k) ds ≡ []
none_from k n [] h l = refl
none_from k n (d ∷ ds) h l = rw (ne d.num.0 k (subst (λ z. k < z) (sym h.0) l)) (none_from k (n + 1) ds h.1 (omega (arith, l)))

one_found : (k n : ℕ) (ds : List Doc) → Numbered doc_number n ds
    → option_to_list (find (λ doc. nat_eq doc.num.0 k) ds) ≡ filter (λ doc. nat_eq doc.num.0 k) ds
one_found k n [] h = refl
one_found k n (d ∷ ds) h =
    elim (cases_Bool (nat_eq d.num.0 k)) [
      | inl e ↦ rw e (ap (λ zs. d ∷ zs) (sym (none_from k (n + 1) ds h.1 (past (sym h.0 ∙ eqb-true d.num.0 k e)))))
      | inr e ↦ rw e (one_found k (n + 1) ds h.1)
    ]
  where
    past : n ≡ k → k < (n + 1)
    past e = omega (arith, e)

pub doc_picked : (docs : List Doc) (o : Option ℤ) (k : ℕ) → o ≡ Some (pos k) → Numbered doc_number 1 docs
    → map OfDoc (option_to_list (find (λ doc. nat_eq doc.num.0 k) docs)) ≡ filter (λ row. both Eq (field Id row) o) (map OfDoc docs)
doc_picked docs o k e n =
    subst (λ z. map OfDoc (option_to_list (find (λ doc. nat_eq doc.num.0 k) docs))
    ≡ filter (λ row. both Eq (field Id row) z) (map OfDoc docs)) (sym e)
    (ap (map OfDoc) (one_found k 1 docs n)
    ∙ picked OfDoc (λ doc. nat_eq doc.num.0 k) (λ row. both Eq (field Id row) (Some (pos k))) docs (λ d. same_number d.num.0 k))

-- none of these numbers is the one asked for
none_numbered : (q : Row → Bool) (n : ℕ) (docs : List Doc) → Numbered doc_number n docs
    → ((d : Doc) → d.num.0 < n + length docs → q (OfDoc d) ≡ false) → [] ≡ filter q (map OfDoc docs)
none_numbered q n [] h f = refl
none_numbered q n (d ∷ ds) h f =
    rw (f d (here d.num.0 n (length ds) h.0)) (none_numbered q (n + 1) ds h.1 (λ x l. f x (further x.num.0 n (length ds) l)))
  where
    here : (a n l : ℕ) → a ≡ n → a < n + suc l
    here a n l e = omega (arith, e)

    further : (a n l : ℕ) → a < n + 1 + l → a < n + suc l
    further a n l h = omega (arith, h)

pub no_doc : (docs : List Doc) (o : Option ℤ) → ((k : ℕ) → k ≤ 4294967295 → both Eq (Some (pos k)) o ≡ false) → Numbered doc_number 1 docs
    → length docs < 4294967296 → [] ≡ filter (λ row. both Eq (field Id row) o) (map OfDoc docs)
no_doc docs o out n r = none_numbered (λ row. both Eq (field Id row) o) 1 docs n (λ d l. out d.num.0 (small d.num.0 (length docs) l r))
  where
    small : (a l : ℕ) → a < 1 + l → l < 4294967296 → a ≤ 4294967295
    small a l h k = omega (arith, h, k)

pub notes_picked : (notes : List Note) (o : Option ℤ) (k : ℕ) → o ≡ Some (pos k)
    → map OfNote (indexed_notes k notes) ≡ filter (λ row. both Eq (field DocOf row) o) (map OfNote notes)
notes_picked notes o k e =
    subst (λ z. map OfNote (indexed_notes k notes) ≡ filter (λ row. both Eq (field DocOf row) z) (map OfNote notes)) (sym e)
    (picked OfNote (λ note. (nat_eq k note.doc.0 || false)) (λ row. both Eq (field DocOf row) (Some (pos k))) notes (λ n. turned k n.doc.0))
  where
    or_false : (b : Bool) → (b || false) ≡ b
    or_false true = refl
    or_false false = refl

    turned : (k a : ℕ) → (nat_eq k a || false) ≡ int_eq (pos a) (pos k)
    turned k a = or_false (nat_eq k a)
        ∙ agree (nat_eq k a) (nat_eq a k) (λ e. eq-eqb a k (sym (eqb-true k a e))) (λ e. eq-eqb k a (sym (eqb-true a k e)))
        ∙ same_number a k

pub no_note : (notes : List Note) (o : Option ℤ) → ((k : ℕ) → k ≤ 4294967295 → both Eq (Some (pos k)) o ≡ false)
    → Each (λ note. note.doc.0 < 4294967296) notes → [] ≡ filter (λ row. both Eq (field DocOf row) o) (map OfNote notes)
no_note [] o out r = refl
no_note (n ∷ ns) o out r = rw (out n.doc.0 (small n.doc.0 r.0)) (no_note ns o out r.1)
  where
    small : (a : ℕ) → a < 4294967296 → a ≤ 4294967295
    small a h = omega (arith, h)

-- the documents of a size, the notes of a value
pub docs_of_size : (T : Tables) (o : Option ℤ) (k : ℕ) → o ≡ Some (pos k) → map OfDoc (of_size k T.docs) ≡ rows_of_number Size T o
docs_of_size T o k e =
    picked OfDoc (λ doc. nat_eq (fields doc).size k) (λ row. both Eq (field Size row) (Some (pos k))) T.docs (λ d.
    same_number (fields d).size k)
    ∙ ap (rows_of_number Size T) (sym e)

pub no_size : (docs : List Doc) (o : Option ℤ) → ((k : ℕ) → k ≤ 4294967295 → both Eq (Some (pos k)) o ≡ false)
    → Each (λ doc. (fields doc).size < 4294967296) docs → [] ≡ filter (λ row. both Eq (field Size row) o) (map OfDoc docs)
no_size [] o out r = refl
no_size (d ∷ ds) o out r = rw (out (fields d).size (small (fields d).size r.0)) (no_size ds o out r.1)
  where
    small : (a : ℕ) → a < 4294967296 → a ≤ 4294967295
    small a h = omega (arith, h)

pub notes_of_value : (T : Tables) (o : Option ℤ) (k : ℤ) → o ≡ Some k → map OfNote (notes_valued k T.notes) ≡ rows_of_number Value T o
notes_of_value T o k e =
    picked OfNote (λ note. int_eq note.value k) (λ row. both Eq (field Value row) (Some k)) T.notes (λ n. refl)
    ∙ ap (rows_of_number Value T) (sym e)

pub no_value : (notes : List Note) (o : Option ℤ)
    → ((k : ℤ) → neg_ℤ (pos 9223372036854775808) ≤ℤ k → k ≤ℤ pos 9223372036854775807 → both Eq (Some k) o ≡ false)
    → Each (λ note. (neg_ℤ (pos 9223372036854775808) ≤ℤ note.value) × (note.value ≤ℤ pos 9223372036854775807)) notes
    → [] ≡ filter (λ row. both Eq (field Value row) o) (map OfNote notes)
no_value [] o out r = refl
no_value (n ∷ ns) o out r = rw (out n.value r.0.0 r.0.1) (no_value ns o out r.1)

same_text : (x text : List ℕ) → bytes_eq text x ≡ is_eq (text_cmp x text)
same_text x text = turned ∙ sym (is_eq-slice_cmp x text)
  where
    turned : bytes_eq text x ≡ bytes_eq x text
    turned = agree (bytes_eq text x) (bytes_eq x text) (λ e. (bytes_eq-Decides x text).1 (sym ((bytes_eq-Decides text x).0 e))) (λ e.
        (bytes_eq-Decides text x).1 (sym ((bytes_eq-Decides x text).0 e)))

-- a text that may be absent
pub text_asked : (o : Option (List ℕ)) (text : List ℕ)
    → list_any (λ other. bytes_eq text other) (option_to_list o) ≡ both_texts Eq o (Some text)
text_asked None text = refl
text_asked (Some x) text = or_false (bytes_eq text x) ∙ same_text x text
  where
    or_false : (b : Bool) → (b || false) ≡ b
    or_false true = refl
    or_false false = refl

pub word_asked : (xs : List (List ℕ)) (text : List ℕ)
    → list_any (λ other. bytes_eq text other) xs ≡ list_any (λ x. is_eq (text_cmp x text)) xs
word_asked [] text = refl
word_asked (x ∷ xs) text = rw (same_text x text, word_asked xs text) refl

notes_same : {x y : NoteTextKind} → OfNotes x ≡ OfNotes y → x ≡ y
notes_same e = cc

differ : {x : TextKind} {y : NoteTextKind} → OfDocs x ≡ OfNotes y → ⊥
differ e = cc

-- a field of documents, of this kind
module _ (f : TextField) (kind : TextKind) (is : of_docs (field_kind f) ≡ Some kind) where
  pub of_docs_table : text_table f ≡ Docs
  of_docs_table = go f is
    where
      go : (f : TextField) → of_docs (field_kind f) ≡ Some kind → text_table f ≡ Docs
      go From h = refl
      go Subject h = refl
      go MsgId h = refl
      go InReplyTo h = refl
      go Author h = absurd (none-some kind h)
      go NoteKind h = absurd (none-some kind h)
      go NoteText h = absurd (none-some kind h)

  pub of_docs_single : is_single kind ≡ true
  of_docs_single = go f is
    where
      go : (f : TextField) → of_docs (field_kind f) ≡ Some kind → is_single kind ≡ true
      go From h = ap is_single (sym (some_same h))
      go Subject h = ap is_single (sym (some_same h))
      go MsgId h = ap is_single (sym (some_same h))
      go InReplyTo h = ap is_single (sym (some_same h))
      go Author h = absurd (none-some kind h)
      go NoteKind h = absurd (none-some kind h)
      go NoteText h = absurd (none-some kind h)

  -- a document has at most one text of it
  pub of_docs_texts : (d : Doc) → texts_of kind d ≡ option_to_list (text_field f (OfDoc d))
  of_docs_texts d = go f is
    where
      go : (f : TextField) → of_docs (field_kind f) ≡ Some kind → texts_of kind d ≡ option_to_list (text_field f (OfDoc d))
      go From h = ap (λ k. texts_of k d) (sym (some_same h))
      go Subject h = ap (λ k. texts_of k d) (sym (some_same h))
      go MsgId h = ap (λ k. texts_of k d) (sym (some_same h))
      go InReplyTo h = ap (λ k. texts_of k d) (sym (some_same h))
      go Author h = absurd (none-some kind h)
      go NoteKind h = absurd (none-some kind h)
      go NoteText h = absurd (none-some kind h)

  pub doc_asked : (d : Doc) (t : List ℕ)
      → list_any (λ other. bytes_eq t other) (texts_of kind d) ≡ both_texts Eq (text_field f (OfDoc d)) (Some t)
  doc_asked d t = ap (list_any (λ other. bytes_eq t other)) (of_docs_texts d) ∙ text_asked (text_field f (OfDoc d)) t

  -- the index's list under a text has the documents of which the field is that text
  pub docs_with : (T : Tables) (t : List ℕ) → map OfDoc (with_text (texts_of kind) t T.docs) ≡ rows_with f T t
  docs_with T t =
      picked OfDoc (λ doc. list_any (λ other. bytes_eq t other) (texts_of kind doc))
      (λ row. both_texts Eq (text_field f row) (Some t)) T.docs (λ d. doc_asked d t)
      ∙ ap (λ u. filter (λ row. both_texts Eq (text_field f row) (Some t)) (rows_of u T)) (sym of_docs_table)

-- a field of notes, of this kind
module _ (f : TextField) (kind : NoteTextKind) (is : field_kind f ≡ OfNotes kind) where
  of_notes_table : text_table f ≡ Notes
  of_notes_table = go f is
    where
      go : (f : TextField) → field_kind f ≡ OfNotes kind → text_table f ≡ Notes
      go From h = absurd (differ h)
      go Subject h = absurd (differ h)
      go MsgId h = absurd (differ h)
      go InReplyTo h = absurd (differ h)
      go Author h = refl
      go NoteKind h = refl
      go NoteText h = refl

  of_notes_texts : (n : Note) → note_texts_of kind n ≡ option_to_list (text_field f (OfNote n))
  of_notes_texts n = go f is
    where
      go : (f : TextField) → field_kind f ≡ OfNotes kind → note_texts_of kind n ≡ option_to_list (text_field f (OfNote n))
      go From h = absurd (differ h)
      go Subject h = absurd (differ h)
      go MsgId h = absurd (differ h)
      go InReplyTo h = absurd (differ h)
      go Author h = ap (λ k. note_texts_of k n) (sym (notes_same h))
      go NoteKind h = ap (λ k. note_texts_of k n) (sym (notes_same h))
      go NoteText h = ap (λ k. note_texts_of k n) (sym (notes_same h))

  pub notes_of_text : (T : Tables) (t : List ℕ) → map OfNote (notes_with (note_texts_of kind) t T.notes) ≡ rows_with f T t
  notes_of_text T t =
      picked OfNote (λ note. list_any (λ other. bytes_eq t other) (note_texts_of kind note))
      (λ row. both_texts Eq (text_field f row) (Some t)) T.notes (λ n. ap (list_any (λ other. bytes_eq t other)) (of_notes_texts n)
      ∙ text_asked (text_field f (OfNote n)) t)
      ∙ ap (λ u. filter (λ row. both_texts Eq (text_field f row) (Some t)) (rows_of u T)) (sym of_notes_table)

-- a document has a text in a list if and only if this is one of its texts of that kind
pub entry_asked : (l : ListField) (d : Doc) (t : List ℕ)
    → list_any (λ other. bytes_eq t other) (texts_of (list_kind l) d) ≡ has (list_field l (OfDoc d)) (Some t)
unfolding fields
entry_asked To d t = word_asked (fields d).to t
entry_asked Cc d t = word_asked (fields d).cc t
entry_asked Newsgroups d t = word_asked (fields d).newsgroups t
entry_asked References d t = word_asked (fields d).references t
entry_asked Words d t = word_asked (fields d).words t

pub entries_with : (T : Tables) (l : ListField) (o : Option (List ℕ)) (t : List ℕ) → o ≡ Some t
    → map OfDoc (with_text (texts_of (list_kind l)) t T.docs) ≡ rows_of_entry l T o
entries_with T l o t e =
    picked OfDoc (λ doc. list_any (λ other. bytes_eq t other) (texts_of (list_kind l) doc)) (λ row. has (list_field l row) (Some t))
    T.docs (λ d. entry_asked l d t)
    ∙ ap (rows_of_entry l T) (sym e)

-- a note has no list whose texts are looked up
pub none_walked : (l : ListField) (note : Note) → unwrap_or (walked_list l (OfNote note)) [] ≡ []
none_walked To note = refl
none_walked Cc note = refl
none_walked Newsgroups note = refl
none_walked References note = refl
none_walked Words note = refl

-- an absent text is that of no row
none_of : (q : Row → Bool) (rows : List Row) → ((row : Row) → q row ≡ false) → [] ≡ filter q rows
none_of q [] h = refl
none_of q (row ∷ rows) h = rw (h row) (none_of q rows h)

pub no_text : (T : Tables) (f : TextField) (o : Option (List ℕ)) → o ≡ None → [] ≡ rows_of_text f T o
no_text T f o e = none_of (λ row. both_texts Eq (text_field f row) None) (rows_of (text_table f) T) (λ row. neither (text_field f row))
    ∙ ap (rows_of_text f T) (sym e)
  where
    neither : (x : Option (List ℕ)) → both_texts Eq x None ≡ false
    neither None = refl
    neither (Some x) = refl

pub no_entry : (T : Tables) (l : ListField) (o : Option (List ℕ)) → o ≡ None → [] ≡ rows_of_entry l T o
no_entry T l o e = none_of (λ row. has (list_field l row) None) (rows_of Docs T) (λ row. neither (list_field l row))
    ∙ ap (rows_of_entry l T) (sym e)
  where
    neither : (xs : Option (List (List ℕ))) → has xs None ≡ false
    neither None = refl
    neither (Some xs) = refl
