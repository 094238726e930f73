-- An index with one row more, without its last note, or with its first documents alone.
use Rattle.std.proofs.Common.{◌≡◌, ℕ, ◌+◌, ◌-◌, ◌<◌, ◌^◌, ◌≤ℤ◌, ℤ, pos, List, [], ◌∷◌, ◌++◌, length, sym, ap, ◌∙◌, subst, arith}
use Rattle.std.proofs.Common.{zero, suc, take, ◌≤◌, Result, Ok, Err, OnErr}
use Rattle.std.proofs.lemmas.List.{take-take, take_all}
use Rattle.std.specs.Str.{bytes_eq}
use Rattle.std.specs.Ordering.{int_eq}
use Rattle.tap_rows.specs.declared.rows.Doc.{Doc}
use Rattle.tap_rows.specs.declared.rows.Note.{Note}
use Rattle.tap_rows.specs.Kept.{Each}
use Rattle.row_index.specs.declared.doc_places.DocPlaces.{DocPlaces}
use Rattle.row_index.specs.Orders.{InPlace, Numbered, doc_number, doc_arrival, note_number, note_arrival}
use Rattle.row_index.specs.declared.doc_texts.DocTexts.{DocTexts}
use Rattle.row_index.specs.declared.dates.Dates.{Dates}
use Rattle.row_index.specs.Places.{unposted, under, ends_with}
use Rattle.row_index.specs.Posts.{Posts, IsFreePlace}
use Rattle.row_index.specs.declared.text_kind.TextKind.TheVariants.{Word}
use Rattle.row_index.specs.declared.note_places.NotePlaces.{NotePlaces}
use Rattle.row_index.specs.Texts.{IsNext, IsCut, TextPosts, words_in, list_of}
use Rattle.row_index.specs.Notes.{NotePosts, IsNextNote, IsNoteForgotten}
use Rattle.tap_rows.specs.Fields.{fields}
use Rattle.tap_rows.proofs.Tests.{bytes_same}
use Rattle.row_index.specs.Dates.{DatePosts}
use Rattle.row_index.specs.Held.{NumberPosts, DocPosts, IsIndexOf, AreSized, HasValue}
use Rattle.row_index.proofs.InPlaces.{in_place_more, in_place_less, number_of_last}
use Rattle.row_index.proofs.PostLaws.{fresh_place}
use Rattle.row_index.proofs.NumberLaws.{sizes_less}
use Rattle.row_index.specs.Numbers.{doc_sizes}
use Rattle.row_index.proofs.NoteLaws.{notes_less}
use Rattle.row_index.proofs.TextLaws.{texts_cut}
use Rattle.tap_base.specs.Numbers.{IsMoment}

place_behind : (p n len : ℕ) → p ≡ n - 1 → n ≡ len + 1 → p ≡ len
place_behind p n len a b = omega (arith, a, b)

-- the next document at its place
next_doc : (docs : List Doc) (doc : Doc) (p : ℕ) → InPlace doc_number doc_arrival docs → doc.num.0 ≡ length docs + 1 → p ≡ doc.num.0 - 1
    → IsNext docs doc p
next_doc docs doc p h e q = record { numbered = h.numbered; number = e; behind = place_behind p doc.num.0 (length docs) q e }

-- what holds of each row, with one more, without the last, and of the first few
module _ {A : Type 0} (P : A → Type 0) where
  each_more : (xs : List A) (y : A) → Each P xs → P y → Each P (xs ++ y ∷ [])
  each_more [] y h p = (p, tt)
  each_more (x ∷ xs) y h p = (h.0, each_more xs y h.1 p)

  each_less : (xs : List A) (y : A) → Each P (xs ++ y ∷ []) → Each P xs
  each_less [] y h = tt
  each_less (x ∷ xs) y h = (h.0, each_less xs y h.1)

  each_front : (n : ℕ) (xs : List A) → Each P xs → Each P (take n xs)
  each_front zero xs h = tt
  each_front (suc n) [] h = tt
  each_front (suc n) (x ∷ xs) h = (h.0, each_front n xs h.1)

pub held_doc_more : (docs more : List Doc) (doc : Doc) (p : ℕ) (old new : DocPlaces) (notes : List Note) (note_places : NotePlaces)
    → IsIndexOf docs old notes note_places → doc.num.0 ≡ length docs + 1 → doc.num.0 < 2 ^ 32 → (fields doc).size < 2 ^ 32
    → IsMoment doc.arrival
    → Each (λ other. other.arrival ≤ℤ doc.arrival) docs
    → p ≡ doc.num.0 - 1 → ((docs : List Doc) → IsNext docs doc p → DocPosts docs old → DocPosts (docs ++ doc ∷ []) new)
    → more ≡ docs ++ doc ∷ []
    → IsIndexOf more new notes note_places
held_doc_more docs more doc p old new notes note_places h e w b m a q f s = subst (λ z. IsIndexOf z new notes note_places) (sym s) (record {
  docs_stand = in_place_more doc_number doc_arrival docs doc h.docs_stand e w m a;
  notes_stand = h.notes_stand;
  docs_found = f docs (next_doc docs doc p h.docs_stand e q) h.docs_found;
  notes_found = h.notes_found;
  notes_on_docs = h.notes_on_docs;
  docs_sized = each_more (λ doc. (fields doc).size < 2 ^ 32) docs doc h.docs_sized b;
  notes_have_values = h.notes_have_values;
})

-- the first documents, and what finds them
pub held_docs_cut : (docs front : List Doc) (len : ℕ) (old new : DocPlaces) (notes : List Note) (note_places : NotePlaces)
    → IsIndexOf docs old notes note_places → InPlace doc_number doc_arrival front → DocPosts front new → front ≡ take len docs
    → IsIndexOf front new notes note_places
held_docs_cut docs front len old new notes note_places h stand found is = record {
  docs_stand = stand;
  notes_stand = h.notes_stand;
  docs_found = found;
  notes_found = h.notes_found;
  notes_on_docs = h.notes_on_docs;
  docs_sized = subst AreSized (sym is) (each_front (λ doc. (fields doc).size < 2 ^ 32) len docs h.docs_sized);
  notes_have_values = h.notes_have_values;
}

-- the next note at its place
next_note : (notes : List Note) (note : Note) (p : ℕ) → InPlace note_number note_arrival notes → note.num.0 ≡ length notes + 1
    → p ≡ note.num.0 - 1 → IsNextNote notes note p
next_note notes note p h e q = record { numbered = h.numbered; number = e; behind = place_behind p note.num.0 (length notes) q e }

pub held_note_more : (docs : List Doc) (places : DocPlaces) (notes more : List Note) (note : Note) (p : ℕ) (old new : NotePlaces)
    → IsIndexOf docs places notes old → note.num.0 ≡ length notes + 1 → note.num.0 < 2 ^ 32 → note.doc.0 < 2 ^ 32 → HasValue note
    → IsMoment note.arrival
    → Each (λ other. other.arrival ≤ℤ note.arrival) notes
    → p ≡ note.num.0 - 1 → ((notes : List Note) → IsNextNote notes note p → NotePosts notes old → NotePosts (notes ++ note ∷ []) new)
    → more ≡ notes ++ note ∷ []
    → IsIndexOf docs places more new
held_note_more docs places notes more note p old new h e w d v m a q f s = subst (λ z. IsIndexOf docs places z new) (sym s) (record {
  docs_stand = h.docs_stand;
  notes_stand = in_place_more note_number note_arrival notes note h.notes_stand e w m a;
  docs_found = h.docs_found;
  notes_found = f notes (next_note notes note p h.notes_stand e q) h.notes_found;
  notes_on_docs = each_more (λ note. note.doc.0 < 2 ^ 32) notes note h.notes_on_docs d;
  docs_sized = h.docs_sized;
  notes_have_values = each_more HasValue notes note h.notes_have_values v;
})

pub held_note_less : (docs : List Doc) (places : DocPlaces) (notes all : List Note) (note : Note) (p : ℕ) (old new : NotePlaces)
    → IsIndexOf docs places all old → all ≡ notes ++ note ∷ [] → p ≡ length notes → IsNoteForgotten note p old new
    → IsIndexOf docs places notes new
held_note_less docs places notes all note p old new h s q f =
    let h' = subst (λ z. IsIndexOf docs places z old) s h in
    let stand = in_place_less note_number note_arrival notes note h'.notes_stand in
    let next : IsNextNote notes note p = record {
      numbered = stand.numbered;
      number = number_of_last note_number note_arrival notes note h'.notes_stand;
      behind = q;
    } in
    record {
      docs_stand = h'.docs_stand;
      notes_stand = stand;
      docs_found = h'.docs_found;
      notes_found = notes_less notes note p next old new f h'.notes_found;
      notes_on_docs = each_less (λ note. note.doc.0 < 2 ^ 32) notes note h'.notes_on_docs;
      docs_sized = h'.docs_sized;
      notes_have_values = each_less HasValue notes note h'.notes_have_values;
    }

-- the last document is removed, its date and its size
module _ (docs all : List Doc) (doc : Doc) (p : ℕ) (is : all ≡ docs ++ doc ∷ []) (behind : p ≡ length docs)
    (stand : InPlace doc_number doc_arrival all) where
  last : InPlace doc_number doc_arrival (docs ++ doc ∷ [])
  last = subst (InPlace doc_number doc_arrival) is stand

  pub stand_cut : InPlace doc_number doc_arrival docs
  stand_cut = in_place_less doc_number doc_arrival docs doc last

  next : IsNext docs doc p
  next = record { numbered = stand_cut.numbered; number = number_of_last doc_number doc_arrival docs doc last; behind = behind }

  pub numbers_cut : (old new : Dates) (size : ℤ) (by_size less : List (ℤ × List ℕ)) → NumberPosts all old by_size
      → ((docs : List Doc) → IsNext docs doc p → DatePosts (docs ++ doc ∷ []) old → DatePosts docs new)
      → size ≡ pos (fields doc).size → less ≡ unposted int_eq size p by_size → NumberPosts docs new less
  numbers_cut old new size by_size less t dates e f =
      let t' : NumberPosts (docs ++ doc ∷ []) old by_size = subst (λ ds. NumberPosts ds old by_size) is t in
      record { dates = dates docs next t'.dates; sizes = sizes_less docs doc p size by_size less next e f t'.sizes }

-- the first documents of those without the last one, if that is none of them
pub front_stays : (len : ℕ) (all docs left : List Doc) → len < length docs → left ≡ take (length docs - 1) docs
    → take len docs ≡ take len all → take len left ≡ take len all
front_stays len all docs left lt is same =
    ap (take len) is ∙ take-take len (length docs - 1) docs (omega (arith, lt)) ∙ same

pub front_left : (len : ℕ) (all docs : List Doc) → length docs ≤ len → take len docs ≡ take len all → docs ≡ take len all
front_left len all docs le same = sym (take_all len docs le) ∙ same

-- a document's place is under no word before it is added
pub word_place_free : (docs : List Doc) (places : DocPlaces) (notes : List Note) (note_places : NotePlaces) (p : ℕ)
    → IsIndexOf docs places notes note_places → p ≡ length docs → IsFreePlace p (list_of Word places.texts)
word_place_free docs places notes note_places p h is = λ key.
    ap (λ k. ends_with k (under bytes_eq key (list_of Word places.texts))) is
    ∙ fresh_place bytes_eq bytes_same words_in doc_number docs (list_of Word places.texts) key h.docs_stand.numbered
    (h.docs_found.texts Word)

-- what finds the first documents
pub found_cut : (docs front : List Doc) (len : ℕ) (old : DocPlaces) (texts : DocTexts) (dates : Dates) (by_size : List (ℤ × List ℕ))
    → Numbered doc_number 1 docs → front ≡ take len docs → IsCut len old.texts texts → DocPosts docs old → NumberPosts front dates by_size
    → DocPosts front (record { texts = texts; dates = dates; sizes = by_size })
found_cut docs front len old texts dates by_size h is cut found numbers = record {
  texts = subst (λ ds. TextPosts ds texts) (sym is) (texts_cut docs len old.texts texts h cut found.texts);
  numbers = numbers;
}

-- after an error the documents are found as before

pub texts_failed : {T E : Type 0} (r : Result T E) (doc : Doc) (p : ℕ) (old : DocPlaces) (texts : DocTexts)
    → ((docs : List Doc) → IsNext docs doc p → TextPosts docs old.texts → TextPosts docs texts)
    → OnErr r ((docs : List Doc) → IsNext docs doc p → DocPosts docs old
    → DocPosts docs (record { texts = texts; dates = old.dates; sizes = old.sizes }))
texts_failed (Ok x) doc p old texts f = tt
texts_failed (Err e) doc p old texts f = λ docs n t. record { texts = f docs n t.texts; numbers = t.numbers }

pub sizes_failed : {T E : Type 0} (r : Result T E) (doc : Doc) (p : ℕ) (dates : Dates) (old new : List (ℤ × List ℕ)) → new ≡ old
    → OnErr r ((docs : List Doc) → IsNext docs doc p → NumberPosts docs dates old → NumberPosts docs dates new)
sizes_failed (Ok x) doc p dates old new e = tt
sizes_failed (Err x) doc p dates old new e = λ docs n t. record {
  dates = t.dates;
  sizes = subst (Posts int_eq doc_sizes doc_number docs) (sym e) t.sizes;
}
