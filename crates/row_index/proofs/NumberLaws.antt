-- Rows that are found by a number.
use Rattle.std.proofs.Common.{◌≡◌, ℕ, ℤ, pos, Bool, true, false, List, [], ◌∷◌, ◌++◌, filter, refl, sym, ap, ◌∙◌, inl, inr, nat_eq}
use Rattle.std.specs.Prelude.{◌||◌}
use Rattle.std.specs.Ordering.{int_eq}
use Rattle.std.proofs.lemmas.Bool.{cases_Bool}
use Rattle.std.proofs.lemmas.Bool.Decides.{Decides-eqb, Decides-int_eq}
use Rattle.tap_rows.specs.declared.rows.Doc.{Doc}
use Rattle.tap_rows.specs.declared.rows.Note.{Note}
use Rattle.tap_rows.specs.Fields.{fields}
use Rattle.tap_rows.proofs.Tests.{or_end, pos_same}
use Rattle.row_index.specs.Orders.{doc_number}
use Rattle.row_index.specs.Places.{posted, unposted}
use Rattle.row_index.specs.Posts.{Posts, with_key}
use Rattle.row_index.specs.Numbers.{doc_sizes, note_docs, note_values, of_size, notes_valued}
use Rattle.row_index.specs.Held.{indexed_notes}
use Rattle.row_index.specs.Texts.{IsNext}
use Rattle.row_index.proofs.PostLaws.{posts_more, posts_less}

pub same_int : (x y : ℤ) → int_eq x y ≡ true → x ≡ y
same_int x y h = (Decides-int_eq x y).0 h

-- two tests that hold together are one
same_test : (a b : Bool) → (a ≡ true → b ≡ true) → (b ≡ true → a ≡ true) → a ≡ b
same_test true b f g = sym (f refl)
same_test false true f g = g refl
same_test false false f g = refl

int_back : (x y : ℤ) → int_eq x y ≡ int_eq y x
int_back x y = same_test (int_eq x y) (int_eq y x) (turn x y) (turn y x) where
  turn : (a b : ℤ) → int_eq a b ≡ true → int_eq b a ≡ true
  turn a b h = (Decides-int_eq b a).1 (sym (same_int a b h))

int_of_nat : (m n : ℕ) → int_eq (pos m) (pos n) ≡ nat_eq m n
int_of_nat m n = same_test (int_eq (pos m) (pos n)) (nat_eq m n)
    (λ h. (Decides-eqb m n).1 (pos_same m n (same_int (pos m) (pos n) h)))
    (λ h. (Decides-int_eq (pos m) (pos n)).1 (ap pos ((Decides-eqb m n).0 h)))

nat_back : (m n : ℕ) → nat_eq m n ≡ nat_eq n m
nat_back m n = same_test (nat_eq m n) (nat_eq n m) (turn m n) (turn n m) where
  turn : (a b : ℕ) → nat_eq a b ≡ true → nat_eq b a ≡ true
  turn a b h = (Decides-eqb b a).1 (sym ((Decides-eqb a b).0 h))

-- tests that agree keep the same rows
kept_alike : {A : Type 0} (f g : A → Bool) → ((x : A) → f x ≡ g x) → (xs : List A) → filter f xs ≡ filter g xs
kept_alike f g h [] = refl
kept_alike f g h (x ∷ xs) =
    let r = kept_alike f g h xs in
    elim (cases_Bool (g x)) [
      | inl b ↦ rw (h x, b) (ap (λ z. x ∷ z) r)
      | inr b ↦ rw (h x, b) r
    ]

-- what is found by a number, in other words

pub found_of_size : (size : ℕ) (docs : List Doc) → with_key int_eq doc_sizes (pos size) docs ≡ of_size size docs
found_of_size size docs = kept_alike (λ doc. int_eq (pos size) (pos (fields doc).size) || false) (λ doc. nat_eq (fields doc).size size)
    (λ doc. or_end (int_eq (pos size) (pos (fields doc).size)) ∙ int_of_nat size (fields doc).size ∙ nat_back size (fields doc).size) docs

pub found_on_doc : (doc : ℕ) (notes : List Note) → with_key int_eq note_docs (pos doc) notes ≡ indexed_notes doc notes
found_on_doc doc notes = kept_alike (λ note. int_eq (pos doc) (pos note.doc.0) || false) (λ note. nat_eq doc note.doc.0 || false)
    (λ note. ap (λ b. b || false) (int_of_nat doc note.doc.0)) notes

pub found_valued : (value : ℤ) (notes : List Note) → with_key int_eq note_values value notes ≡ notes_valued value notes
found_valued value notes = kept_alike (λ note. int_eq value note.value || false) (λ note. int_eq note.value value)
    (λ note. or_end (int_eq value note.value) ∙ int_back value note.value) notes

-- a document is put under its size, or removed

module _ (docs : List Doc) (doc : Doc) (p : ℕ) (size : ℤ) (old new : List (ℤ × List ℕ)) (next : IsNext docs doc p)
    (is : size ≡ pos (fields doc).size) where
  pub sizes_more : new ≡ posted int_eq size p old → Posts int_eq doc_sizes doc_number docs old
      → Posts int_eq doc_sizes doc_number (docs ++ doc ∷ []) new
  sizes_more f t = posts_more int_eq same_int doc_sizes doc_number docs doc old new next.numbered next.number
      (f ∙ ap (λ z. posted int_eq z p old) is ∙ ap (λ k. posted int_eq (pos (fields doc).size) k old) next.behind) t

  pub sizes_less : new ≡ unposted int_eq size p old → Posts int_eq doc_sizes doc_number (docs ++ doc ∷ []) old
      → Posts int_eq doc_sizes doc_number docs new
  sizes_less f t = posts_less int_eq same_int doc_sizes doc_number docs doc old new next.numbered next.number
      (f ∙ ap (λ z. unposted int_eq z p old) is ∙ ap (λ k. unposted int_eq (pos (fields doc).size) k old) next.behind) t
