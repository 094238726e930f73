-- Documents that are put under their texts, and removed again.
use Rattle.std.proofs.Common.{◌≡◌, ◌≢◌, ℕ, zero, suc, ◌+◌, ◌<◌, Bool, false, List, [], ◌∷◌, ◌++◌, length, take, get_or}
use Rattle.std.proofs.Common.{refl, sym, ap, ◌∙◌, subst, inl, inr, arith, Result, Ok, Err, OnErr, nat_eq, nat_lt, if◌then◌else◌}
use Rattle.std.proofs.Common.{set, replicate}
use Rattle.std.specs.Str.{bytes_eq}
use Rattle.std.proofs.Math.Seq.{take-length, take-append_seam}
use Rattle.std.proofs.lemmas.Bool.{cases_Bool, eqb-true}
use Rattle.std.proofs.lemmas.List.{get_or-set_same, get_or-set_other}
use Rattle.tap_rows.specs.declared.rows.Doc.{Doc}
use Rattle.tap_rows.specs.declared.fields.Fields.{Fields}
use Rattle.tap_rows.specs.Fields.{fields}
use Rattle.tap_rows.proofs.Tests.{bytes_same}
use Rattle.row_index.specs.declared.doc_texts.DocTexts.{DocTexts}
use Rattle.row_index.specs.declared.text_kind.TextKind.{TextKind}
use Rattle.row_index.specs.declared.text_kind.TextKind.TheVariants.{MsgId, Parent, Sender, Subject, Reference, To, Cc, Newsgroups, Word}
use Rattle.row_index.specs.Orders.{Numbered, doc_number}
use Rattle.row_index.specs.Places.{under}
use Rattle.row_index.specs.Posts.{IsPartlyPosted, posted_all}
use Rattle.row_index.specs.Texts.{kind_place, kind_at, field_texts, texts_of, list_at, list_of, IsNext, TextPosts, AreChanged, ArePosted}
use Rattle.row_index.specs.Texts.{IsPosted, IsPartly, IsCut}
use Rattle.row_index.proofs.PostLaws.{posts_more}
use Rattle.row_index.proofs.CutLaws.{posts_cut, posts_undone}

pub at_err : {T E : Type 0} (r : Result T E) (P : Type 0) → P → OnErr r P
at_err (Ok x) P p = tt
at_err (Err e) P p = p

pub wholly : (keys : List (List ℕ)) (p : ℕ) (es fs : List (List ℕ × List ℕ)) → fs ≡ posted_all bytes_eq keys p es
    → IsPartlyPosted keys p es fs
wholly keys p es fs e = (length keys, e ∙ ap (λ k. posted_all bytes_eq k p es) (sym (take-length keys)))

-- the kinds and their places

pub every_kind : (P : ℕ → TextKind → Type 0) → ((k : ℕ) → k < 9 → P k (kind_at k)) → (kind : TextKind) → P (kind_place kind) kind
every_kind P h MsgId = h 0 (omega arith)
every_kind P h Parent = h 1 (omega arith)
every_kind P h Sender = h 2 (omega arith)
every_kind P h Subject = h 3 (omega arith)
every_kind P h Reference = h 4 (omega arith)
every_kind P h To = h 5 (omega arith)
every_kind P h Cc = h 6 (omega arith)
every_kind P h Newsgroups = h 7 (omega arith)
every_kind P h Word = h 8 (omega arith)

other_place : (k n : ℕ) → nat_eq k n ≡ false → k ≢ n
other_place k n h = λ e. grind (arith, h, e)

-- lists, one of which is replaced
module _ {A : Type 0} where
  pub at_set : (xs : List A) (i k : ℕ) (v d : A) → i < length xs
      → get_or (set xs i v) k d ≡ (if nat_eq k i then v else get_or xs k d)
  at_set xs i k v d h =
      elim (cases_Bool (nat_eq k i)) [
        | inl b ↦
            let e = eqb-true k i b in
            ap (λ j. get_or (set xs i v) j d) e ∙ get_or-set_same xs i v d h ∙ sym (ap (λ z. if z then v else get_or xs k d) b)
        | inr b ↦ get_or-set_other xs i k v d (other_place k i b) ∙ sym (ap (λ z. if z then v else get_or xs k d) b)
      ]

  pub at_any : (xs : List A) (i : ℕ) (d e : A) → i < length xs → get_or xs i d ≡ get_or xs i e
  at_any [] i d e h = absurd (omega (arith, h))
  at_any (x ∷ xs) zero d e h = refl
  at_any (x ∷ xs) (suc i) d e h = at_any xs i d e (omega (arith, h))

  none_at : (n k : ℕ) (d : A) → get_or (replicate n d) k d ≡ d
  none_at zero k d = refl
  none_at (suc n) zero d = refl
  none_at (suc n) (suc k) d = none_at n k d

not_before : (n : ℕ) → nat_lt n n ≡ false
not_before n = grind arith

abbrev Lists : Type 0
Lists = List (List ℕ × List ℕ)

abbrev either : {A : Type 0} → A → A → Bool → A
either x y b = if b then x else y

-- lists that are changed one after another
module _ (f : ℕ → Lists → Lists) (old : DocTexts) where
  module _ (now next : DocTexts) (n : ℕ) (v : Lists) (within : n < length now.lists) (so_far : AreChanged f n old now)
      (is : next.lists ≡ set now.lists n v) where
    -- the next one is as it was
    pub yet_old : list_at n now ≡ list_at n old
    yet_old = so_far n ∙ ap (either (f n (list_at n old)) (list_at n old)) (not_before n)

    -- and is v then
    pub at_next : (k : ℕ) → list_at k next ≡ (if nat_eq k n then v else list_at k now)
    at_next k = ap (λ (ls : List Lists). get_or ls k []) is ∙ at_set now.lists n k v [] within

-- the texts of the kind at a place, put under their list
abbrev pub posting : Fields → ℕ → ℕ → Lists → Lists
posting f p k es = posted_all bytes_eq (field_texts (kind_at k) f) p es

module _ (f : Fields) (p : ℕ) (old : DocTexts) where
  -- those of the first kinds were, and some of the next one
  pub partly_next : (now next : DocTexts) (n : ℕ) (v : Lists) → n < length now.lists → ArePosted n f p old now
      → next.lists ≡ set now.lists n v → IsPartlyPosted (field_texts (kind_at n) f) p (list_at n now) v → IsPartly f p old next
  partly_next now next n v within so_far is (m, part) =
      every_kind (λ k kind. IsPartlyPosted (field_texts kind f) p (list_at k old) (list_at k next)) (λ k lt. go k)
    where
      go : (k : ℕ) → IsPartlyPosted (field_texts (kind_at k) f) p (list_at k old) (list_at k next)
      go k =
          let here = at_next (posting f p) old now next n v within so_far is k in
          elim (cases_Bool (nat_eq k n)) [
            | inl b ↦ (
              m,
              here ∙ ap (either v (list_at k now)) b ∙ part
                  ∙ ap (posted_all bytes_eq (take m (field_texts (kind_at n) f)) p)
                  (yet_old (posting f p) old now next n v within so_far is)
                  ∙ ap (λ j. posted_all bytes_eq (take m (field_texts (kind_at j) f)) p (list_at j old)) (sym (eqb-true k n b)),
            )
            | inr b ↦
                let was : list_at k next ≡ (if nat_lt k n then posting f p k (list_at k old) else list_at k old) =
                here ∙ ap (either v (list_at k now)) b ∙ so_far k in
                elim (cases_Bool (nat_lt k n)) [
                  | inl c ↦ wholly (field_texts (kind_at k) f) p (list_at k old) (list_at k next)
                      (was ∙ ap (either (posting f p k (list_at k old)) (list_at k old)) c)
                  | inr c ↦ (0, was ∙ ap (either (posting f p k (list_at k old)) (list_at k old)) c)
                ]
          ]

-- the same of what an index reads
pub some_at : (f : Fields) (p : ℕ) (texts : DocTexts) (n : ℕ) (kind : TextKind) (d v : Lists) → n < length texts.lists
    → kind ≡ kind_at n → IsPartlyPosted (field_texts kind f) p (get_or texts.lists n d) v
    → IsPartlyPosted (field_texts (kind_at n) f) p (list_at n texts) v
some_at f p texts n kind d v within k part =
    subst (λ z. IsPartlyPosted (field_texts z f) p (list_at n texts) v) k
    (subst (λ es. IsPartlyPosted (field_texts kind f) p es v) (at_any texts.lists n d [] within) part)

pub partly_of : (f g : Fields) (p : ℕ) (old new : DocTexts) → f ≡ g → IsPartly f p old new → IsPartly g p old new
partly_of f g p old new e part = subst (λ h. IsPartly h p old new) e part

-- documents and their texts

pub no_texts : (texts : DocTexts) → texts.lists ≡ replicate 9 [] → TextPosts [] texts
no_texts texts e = λ kind key.
    ap (λ (ls : List Lists). under bytes_eq key (get_or ls (kind_place kind) [])) e
    ∙ ap (under bytes_eq key) (none_at 9 (kind_place kind) [])

texts_more : (docs : List Doc) (doc : Doc) (old new : DocTexts) → Numbered doc_number 1 docs → doc.num.0 ≡ length docs + 1
    → IsPosted (fields doc) (length docs) old new → TextPosts docs old → TextPosts (docs ++ doc ∷ []) new
texts_more docs doc old new h e f t = λ kind.
    posts_more bytes_eq bytes_same (texts_of kind) doc_number docs doc (list_of kind old) (list_of kind new) h e (f kind) (t kind)

pub texts_cut : (docs : List Doc) (len : ℕ) (old new : DocTexts) → Numbered doc_number 1 docs → IsCut len old new → TextPosts docs old
    → TextPosts (take len docs) new
texts_cut docs len old new h f t = λ kind.
    posts_cut bytes_eq bytes_same (texts_of kind) doc_number docs len (list_of kind old) (list_of kind new) h (f kind) (t kind)

texts_undone : (docs : List Doc) (doc : Doc) (old part new : DocTexts) → Numbered doc_number 1 docs
    → IsPartly (fields doc) (length docs) old part → IsCut (length docs) part new → TextPosts docs old → TextPosts docs new
texts_undone docs doc old part new h f u t = λ kind.
    posts_undone bytes_eq bytes_same (texts_of kind) doc_number docs doc (f kind).0 (list_of kind old) (list_of kind part)
    (list_of kind new) h (f kind).1 (u kind) (t kind)

-- the same as the calls put it

pub next_more : (docs : List Doc) (doc : Doc) (p : ℕ) (old new : DocTexts) → IsPosted (fields doc) p old new → IsNext docs doc p
    → TextPosts docs old → TextPosts (docs ++ doc ∷ []) new
next_more docs doc p old new f n t = texts_more docs doc old new n.numbered n.number
    (subst (λ k. IsPosted (fields doc) k old new) n.behind f) t

pub next_undone : (docs : List Doc) (doc : Doc) (p : ℕ) (old part new : DocTexts) → IsPartly (fields doc) p old part → IsCut p part new
    → IsNext docs doc p → TextPosts docs old → TextPosts docs new
next_undone docs doc p old part new f u n t = texts_undone docs doc old part new
    n.numbered (subst (λ k. IsPartly (fields doc) k old part) n.behind f) (subst (λ k. IsCut k part new) n.behind u) t

-- the document that was added last is removed again
numbered_more : (n : ℕ) (docs : List Doc) (doc : Doc) → Numbered doc_number n docs → doc.num.0 ≡ n + length docs
    → Numbered doc_number n (docs ++ doc ∷ [])
numbered_more n [] doc h e = (omega (arith, e), tt)
numbered_more n (d ∷ docs) doc h e = (h.0, numbered_more (n + 1) docs doc h.1 (omega (arith, e)))

pub last_cut : (docs : List Doc) (doc : Doc) (p : ℕ) (old new : DocTexts) → IsNext docs doc p → IsCut p old new
    → TextPosts (docs ++ doc ∷ []) old → TextPosts docs new
last_cut docs doc p old new n u t =
    let number = n.number in
    let more = numbered_more 1 docs doc n.numbered (omega (arith, number)) in
    let back : take p (docs ++ doc ∷ []) ≡ docs = ap (λ k. take k (docs ++ doc ∷ [])) n.behind ∙ take-append_seam docs (doc ∷ []) in
    subst (λ ds. TextPosts ds new) back (texts_cut (docs ++ doc ∷ []) p old new more u t)
