-- Notes that are put under their numbers and texts, and removed again.
use Rattle.std.proofs.Common.{◌≡◌, ℕ, pos, Bool, true, false, List, [], ◌∷◌, ◌++◌, length, refl, sym, ap, ◌∙◌, inl, inr, if◌then◌else◌}
use Rattle.std.proofs.Common.{Result, Ok, Err, OnErr}
use Rattle.std.specs.Ordering.{int_eq}
use Rattle.std.specs.Str.{bytes_eq}
use Rattle.std.proofs.lemmas.Bool.{cases_Bool}
use Rattle.tap_rows.specs.declared.rows.Note.{Note}
use Rattle.tap_rows.proofs.Tests.{bytes_same}
use Rattle.row_index.specs.declared.note_places.NotePlaces.{NotePlaces}
use Rattle.row_index.specs.declared.note_text_kind.NoteTextKind.TheVariants.{Author, Kind, Text}
use Rattle.row_index.specs.Orders.{note_number}
use Rattle.row_index.specs.Places.{ends_with, without_place, under, posted, unposted}
use Rattle.row_index.specs.Posts.{posted_all, unposted_all, IsMaybePosted, Posts}
use Rattle.row_index.specs.Numbers.{note_docs, note_values}
use Rattle.row_index.specs.Notes.{note_texts_of, NotePosts, IsNextNote, IsNotePosted, IsNotePartly, IsNoteForgotten}
use Rattle.row_index.proofs.PostLaws.{under_unposted, not_taken, fresh_place, posts_more, posts_less}
use Rattle.row_index.proofs.NumberLaws.{same_int}

-- a note of one key
module _ {K : Type 0} (eq : K → K → Bool) (sound : (x y : K) → eq x y ≡ true → x ≡ y) (keys : Note → List K) (notes : List Note)
    (note : Note) (p : ℕ) (key : K) (next : IsNextNote notes note p) (is : keys note ≡ key ∷ []) where
  key_more : (es fs : List (K × List ℕ)) → fs ≡ posted eq key p es → Posts eq keys note_number notes es
      → Posts eq keys note_number (notes ++ note ∷ []) fs
  key_more es fs f t = posts_more eq sound keys note_number notes note es fs next.numbered next.number
      (f ∙ ap (λ k. posted eq key k es) next.behind ∙ ap (λ ks. posted_all eq ks (length notes) es) (sym is)) t

  key_less : (es fs : List (K × List ℕ)) → fs ≡ unposted eq key p es → Posts eq keys note_number (notes ++ note ∷ []) es
      → Posts eq keys note_number notes fs
  key_less es fs f t = posts_less eq sound keys note_number notes note es fs next.numbered next.number
      (f ∙ ap (λ k. unposted eq key k es) next.behind ∙ ap (λ ks. unposted_all eq ks (length notes) es) (sym is)) t

  -- where it isn't, nothing is removed
  key_absent : (es fs : List (K × List ℕ)) → fs ≡ unposted eq key p es → Posts eq keys note_number notes es
      → Posts eq keys note_number notes fs
  key_absent es fs f t = λ other.
      ap (under eq other) f ∙ under_unposted eq sound other key p es refl ∙ stays other ∙ t other
    where
      free : (other : K) → ends_with p (under eq other es) ≡ false
      free other = ap (λ k. ends_with k (under eq other es)) next.behind
          ∙ fresh_place eq sound keys note_number notes es other next.numbered t

      stays : (other : K) → (if eq other key then without_place p (under eq other es) else under eq other es) ≡ under eq other es
      stays other =
          elim (cases_Bool (eq other key)) [
            | inl b ↦ rw b (not_taken p (under eq other es) (free other))
            | inr b ↦ rw b refl
          ]

  key_undone : (es part fs : List (K × List ℕ)) → IsMaybePosted eq key p es part → fs ≡ unposted eq key p part
      → Posts eq keys note_number notes es → Posts eq keys note_number notes fs
  key_undone es part fs (inl e) f t = key_less part fs f (key_more es part e t)
  key_undone es part fs (inr e) f t = key_absent es fs (f ∙ ap (λ z. unposted eq key p z) e) t

pub note_partly : {T E : Type 0} (r : Result T E) (note : Note) (p : ℕ) (old new : NotePlaces)
    → IsMaybePosted int_eq (pos note.doc.0) p old.doc new.doc → IsMaybePosted int_eq note.value p old.value new.value
    → IsMaybePosted bytes_eq note.author p old.author new.author → IsMaybePosted bytes_eq note.kind p old.kind new.kind
    → IsMaybePosted bytes_eq note.text p old.text new.text → OnErr r (IsNotePartly note p old new)
note_partly (Ok x) note p old new a b c d e = tt
note_partly (Err x) note p old new a b c d e = record { doc = a; value = b; author = c; kind = d; text = e }

-- all keys of a note

module _ (notes : List Note) (note : Note) (p : ℕ) (next : IsNextNote notes note p) where
  pub notes_more : (old new : NotePlaces) → IsNotePosted note p old new → NotePosts notes old → NotePosts (notes ++ note ∷ []) new
  notes_more old new f t = record {
    doc = key_more int_eq same_int note_docs notes note p (pos note.doc.0) next refl old.doc new.doc f.doc t.doc;
    value = key_more int_eq same_int note_values notes note p note.value next refl old.value new.value f.value t.value;
    author = key_more bytes_eq bytes_same (note_texts_of Author) notes note p note.author next refl old.author new.author f.author t.author;
    kind = key_more bytes_eq bytes_same (note_texts_of Kind) notes note p note.kind next refl old.kind new.kind f.kind t.kind;
    text = key_more bytes_eq bytes_same (note_texts_of Text) notes note p note.text next refl old.text new.text f.text t.text;
  }

  pub notes_less : (old new : NotePlaces) → IsNoteForgotten note p old new → NotePosts (notes ++ note ∷ []) old → NotePosts notes new
  notes_less old new f t = record {
    doc = key_less int_eq same_int note_docs notes note p (pos note.doc.0) next refl old.doc new.doc f.doc t.doc;
    value = key_less int_eq same_int note_values notes note p note.value next refl old.value new.value f.value t.value;
    author = key_less bytes_eq bytes_same (note_texts_of Author) notes note p note.author next refl old.author new.author f.author t.author;
    kind = key_less bytes_eq bytes_same (note_texts_of Kind) notes note p note.kind next refl old.kind new.kind f.kind t.kind;
    text = key_less bytes_eq bytes_same (note_texts_of Text) notes note p note.text next refl old.text new.text f.text t.text;
  }

  pub notes_undone : (old part new : NotePlaces) → IsNotePartly note p old part → IsNoteForgotten note p part new → NotePosts notes old
      → NotePosts notes new
  notes_undone old part new f u t = record {
    doc = key_undone int_eq same_int note_docs notes note p (pos note.doc.0) next refl old.doc part.doc new.doc f.doc u.doc t.doc;
    value = key_undone int_eq same_int note_values notes note p note.value next refl old.value part.value new.value f.value u.value t.value;
    author = key_undone bytes_eq bytes_same (note_texts_of Author) notes note p note.author next refl old.author part.author new.author
        f.author u.author t.author;
    kind = key_undone bytes_eq bytes_same (note_texts_of Kind) notes note p note.kind next refl old.kind part.kind new.kind
        f.kind u.kind t.kind;
    text = key_undone bytes_eq bytes_same (note_texts_of Text) notes note p note.text next refl old.text part.text new.text
        f.text u.text t.text;
  }
