-- Rows that arrive later change no first second, for every condition.
use Rattle.std.proofs.Common.{◌≡◌, ◌∙◌, sym, ap, subst, refl, arith, ℤ, Bool, false, Option, List, [], ◌∷◌, ◌++◌, inl, inr}
use Rattle.std.specs.Prelude.{◌&&◌, ◌≤ℤ◌, ◌<ℤ◌, int_le, filter}
use Rattle.std.specs.List.{filter_map}
use Rattle.std.proofs.lemmas.Bool.{cases_Bool}
use Rattle.std.proofs.lemmas.Int.{ints}
use Rattle.std.proofs.lemmas.List.{append-nil}
use Rattle.std.proofs.lemmas.List.Elements.{filter_map-append}
use Rattle.tap_rows.specs.declared.tables.Tables.{Tables}
use Rattle.tap_rows.specs.declared.rows.Doc.{Doc}
use Rattle.tap_rows.specs.declared.results.Hit.{Hit}
use Rattle.tap_rows.specs.Results.{Truth, visible, is_given, first_second, hit_of, at_least, hits_in_order, fresh_in}
use Rattle.tap_rows.specs.Kept.{Each, In, IsOfTheSecond}
use Rattle.tap_rows.specs.Grown.{Grown}
use Rattle.tap_rows.proofs.SecondsLaws.{least_second-same}
use Rattle.tap_rows.proofs.FreshLaws.{first-late}

-- what fails a test adds nothing to what passes
pub filter-none : {A : Type 0} (p : A → Bool) (xs ys : List A) → Each (λ y. p y ≡ false) ys → filter p (xs ++ ys) ≡ filter p xs
filter-none p [] [] h = refl
filter-none p [] (y ∷ ys) h = rw h.0 (filter-none p [] ys h.1)
filter-none p (x ∷ xs) ys h =
    elim (cases_Bool (p x)) [
      | inl y ↦ rw y (ap (λ zs. x ∷ zs) (filter-none p xs ys h))
      | inr n ↦ rw n (filter-none p xs ys h)
    ]

pub each-map : {A : Type 0} (P Q : A → Type 0) (xs : List A) → ((x : A) → P x → Q x) → Each P xs → Each Q xs
each-map P Q [] f each = tt
each-map P Q (x ∷ xs) f each = (f x each.0, each-map P Q xs f each.1)

pub each-append : {A : Type 0} (P : A → Type 0) (xs ys : List A) → Each P xs → Each P ys → Each P (xs ++ ys)
each-append P [] ys each more = more
each-append P (x ∷ xs) ys each more = (each.0, each-append P xs ys each.1 more)

-- one of rows that all have something has it
pub each-in : {A : Type 0} (P : A → Type 0) (xs : List A) (x : A) → Each P xs → In x xs → P x
each-in P [] x each has = absurd has
each-in P (y ∷ ys) x each (inl e) = subst P (sym e) each.0
each-in P (y ∷ ys) x each (inr has) = each-in P ys x each.1 has

hidden : (a s t : ℤ) → t ≤ℤ a → s <ℤ t → int_le a s ≡ false
hidden a s t h k = grind (arith, ints)

-- nothing was added
pub grown-same : (t : ℤ) (tables later : Tables) → later.docs ≡ tables.docs → later.notes ≡ tables.notes → Grown t tables later
grown-same t tables later docs notes = record {
  new_docs = [];
  new_notes = [];
  docs = docs ∙ sym (append-nil tables.docs);
  notes = notes ∙ sym (append-nil tables.notes);
  late_docs = tt;
  late_notes = tt;
}

docs-kept : (t s : ℤ) (tables later : Tables) → Grown t tables later → s <ℤ t → (visible later s).docs ≡ (visible tables s).docs
docs-kept t s tables later grown lt =
    rw grown.docs (filter-none (λ doc. int_le doc.arrival s) tables.docs grown.new_docs
    (each-map (λ doc. t ≤ℤ doc.arrival) (λ doc. int_le doc.arrival s ≡ false) grown.new_docs (λ doc h. hidden doc.arrival s t h lt)
    grown.late_docs))

notes-kept : (t s : ℤ) (tables later : Tables) → Grown t tables later → s <ℤ t → (visible later s).notes ≡ (visible tables s).notes
notes-kept t s tables later grown lt =
    rw grown.notes (filter-none (λ note. int_le note.arrival s) tables.notes grown.new_notes
    (each-map (λ note. t ≤ℤ note.arrival) (λ note. int_le note.arrival s ≡ false) grown.new_notes (λ note h. hidden note.arrival s t h lt)
    grown.late_notes))

-- a document that was there keeps its first second below t
pub first-later : (truth : Truth) (t : ℤ) (tables later : Tables) (doc : Doc) (start until : ℤ) → IsOfTheSecond truth → Grown t tables later
    → until ≤ℤ t → first_second truth later doc start until ≡ first_second truth tables doc start until
first-later truth t tables later doc start until causal grown le =
    least_second-same (is_given truth later doc) (is_given truth tables doc) start until (λ x lo hi.
    let before : x <ℤ t = omega (arith, ints) in
    ap (λ b. int_le doc.arrival x && b)
    (causal tables later doc x (docs-kept t x tables later grown before) (notes-kept t x tables later grown before)))

hits-new : (truth : Truth) (tables : Tables) (start tau until : ℤ) (docs : List Doc) → Each (λ doc. until ≤ℤ doc.arrival) docs
    → filter_map (λ doc. hit_of doc (at_least tau (first_second truth tables doc start until))) docs ≡ []
hits-new truth tables start tau until [] late = refl
hits-new truth tables start tau until (doc ∷ docs) late =
    rw (first-late truth tables doc start until late.0) (hits-new truth tables start tau until docs late.1)

hits-later : (truth : Truth) (t : ℤ) (tables later : Tables) (start tau until : ℤ) (docs : List Doc) → IsOfTheSecond truth
    → Grown t tables later → until ≤ℤ t → filter_map (λ doc. hit_of doc (at_least tau (first_second truth later doc start until))) docs
    ≡ filter_map (λ doc. hit_of doc (at_least tau (first_second truth tables doc start until))) docs
hits-later truth t tables later start tau until [] causal grown le = refl
hits-later truth t tables later start tau until (doc ∷ docs) causal grown le =
    rw (
      first-later truth t tables later doc start until causal grown le,
      hits-later truth t tables later start tau until docs causal grown le,
    ) refl

-- documents without a hit at the end add none
no-more : (hit : Doc → Option Hit) (all docs new : List Doc) → all ≡ docs ++ new → filter_map hit new ≡ []
    → filter_map hit all ≡ filter_map hit docs
no-more hit all docs new is none = rw (is, filter_map-append hit docs new, none) (append-nil (filter_map hit docs))

-- what is fresh below t stays as it was
pub fresh-later : (truth : Truth) (t : ℤ) (tables later : Tables) (start tau until : ℤ) → IsOfTheSecond truth → Grown t tables later
    → until ≤ℤ t → fresh_in truth later start tau until ≡ fresh_in truth tables start tau until
fresh-later truth t tables later start tau until causal grown le =
    let none : filter_map (λ doc. hit_of doc (at_least tau (first_second truth later doc start until))) grown.new_docs ≡ [] =
    hits-new truth later start tau until grown.new_docs
    (each-map (λ doc. t ≤ℤ doc.arrival) (λ doc. until ≤ℤ doc.arrival) grown.new_docs (λ doc h. omega (arith, ints)) grown.late_docs) in
    let same : filter_map (λ doc. hit_of doc (at_least tau (first_second truth later doc start until))) later.docs
    ≡ filter_map (λ doc. hit_of doc (at_least tau (first_second truth tables doc start until))) tables.docs =
    no-more (λ doc. hit_of doc (at_least tau (first_second truth later doc start until)))
    later.docs tables.docs grown.new_docs grown.docs none ∙ hits-later truth t tables later start tau until tables.docs causal grown le in
    ap hits_in_order same
