-- The lines of a header, one after another.
use Rattle.std.proofs.Common.{◌≡◌, ◌∙◌, sym, ap, refl, arith, ℕ, List, [], ◌∷◌, ◌++◌, take, drop, Bool, true, false, if◌then◌else◌}
use Rattle.std.specs.List.{concat, take_while}
use Rattle.std.proofs.lemmas.List.{append_assoc, append-nil}
use Rattle.std.proofs.lemmas.List.Sums.{take_while-cons}
use Rattle.tap_rows.specs.Headers.{HeaderField, continues_field, begins_field, fields_from, after_header, is_field_name_byte, name_length}
use Rattle.tap_rows.specs.Headers.{after_name}
use Rattle.tap_base.specs.Bytes.{is_blank}
use Rattle.mail_fields.specs.Rests.{after_continued, continues_first}

-- a line that continues a field is the first of those that do
pub continued-value : (done done' line : List ℕ) (ls rest : List (List ℕ)) → ls ≡ line ∷ rest → continues_field line ≡ true
    → done' ≡ done ++ line → done ++ concat (take_while continues_field ls) ≡ done' ++ concat (take_while continues_field rest)
continued-value done done' line ls rest is does same = rw (is, same)
    (rw (take_while-cons continues_field line rest, does) (sym (append_assoc done line (concat (take_while continues_field rest)))))

pub continued-after : (line : List ℕ) (ls rest : List (List ℕ)) → ls ≡ line ∷ rest → continues_field line ≡ true
    → after_continued ls ≡ after_continued rest
continued-after line ls rest is does = rw is (rw does refl)

-- a line that continues a field begins no other
blank_is_of_no_name : (b : ℕ) → is_blank b ≡ true → is_field_name_byte b ≡ false
blank_is_of_no_name b does = grind arith

begins_none : (line : List ℕ) → continues_field line ≡ true → begins_field line ≡ false
begins_none [] does = refl
begins_none (b ∷ line) does = rw (blank_is_of_no_name b does) refl

fields-skip : (line : List ℕ) (ls : List (List ℕ)) → continues_field line ≡ true → fields_from (line ∷ ls) ≡ fields_from ls
fields-skip line ls does = rw (begins_none line does, does) refl

body-skip : (line : List ℕ) (ls : List (List ℕ)) → continues_field line ≡ true → after_header (line ∷ ls) ≡ after_header ls
body-skip line ls does = rw (begins_none line does, does) refl

-- and is passed over by the header's fields
pub fields-continued : (ls : List (List ℕ)) → fields_from (after_continued ls) ≡ fields_from ls
fields-continued [] = refl
fields-continued (line ∷ ls) = go (continues_field line) refl (fields-continued ls) where
  go : (b : Bool) → continues_field line ≡ b → fields_from (after_continued ls) ≡ fields_from ls
      → fields_from (after_continued (line ∷ ls)) ≡ fields_from (line ∷ ls)
  go true e rest = ap (λ b. fields_from (if b then after_continued ls else line ∷ ls)) e ∙ rest ∙ sym (fields-skip line ls e)
  go false e rest = ap (λ b. fields_from (if b then after_continued ls else line ∷ ls)) e

pub body-continued : (ls : List (List ℕ)) → after_header (after_continued ls) ≡ after_header ls
body-continued [] = refl
body-continued (line ∷ ls) = go (continues_field line) refl (body-continued ls) where
  go : (b : Bool) → continues_field line ≡ b → after_header (after_continued ls) ≡ after_header ls
      → after_header (after_continued (line ∷ ls)) ≡ after_header (line ∷ ls)
  go true e rest = ap (λ b. after_header (if b then after_continued ls else line ∷ ls)) e ∙ rest ∙ sym (body-skip line ls e)
  go false e rest = ap (λ b. after_header (if b then after_continued ls else line ∷ ls)) e

pub first-continued : (ls : List (List ℕ)) → continues_first (after_continued ls) ≡ false
first-continued [] = refl
first-continued (line ∷ ls) = go (continues_field line) refl (first-continued ls) where
  go : (b : Bool) → continues_field line ≡ b → continues_first (after_continued ls) ≡ false
      → continues_first (after_continued (line ∷ ls)) ≡ false
  go true e rest = ap (λ b. continues_first (if b then after_continued ls else line ∷ ls)) e ∙ rest
  go false e rest = ap (λ b. continues_first (if b then after_continued ls else line ∷ ls)) e ∙ e

-- a field that begins at the first line
pub taken-fields : (done done' : List HeaderField) (line name unfolded : List ℕ) (ls rest after : List (List ℕ)) → ls ≡ line ∷ rest
    → true ≡ begins_field line → name ≡ take (name_length line) line
    → unfolded ≡ drop 1 (after_name line) ++ concat (take_while continues_field rest) → after ≡ after_continued rest
    → done' ≡ done ++ record { name = name; unfolded = unfolded } ∷ [] → done ++ fields_from ls ≡ done' ++ fields_from after
taken-fields done done' line name unfolded ls rest after is does is-name is-value is-after is-done =
    rw (is, sym does, is-after, is-done, fields-continued rest, is-name, is-value) (sym (append_assoc done _ (fields_from rest)))

pub taken-body : (line : List ℕ) (ls rest after : List (List ℕ)) → ls ≡ line ∷ rest → true ≡ begins_field line
    → after ≡ after_continued rest → after_header ls ≡ after_header after
taken-body line ls rest after is does is-after = rw (is, sym does, is-after, body-continued rest) refl

-- without a line that continues it, a field's value is that of its first line
pub value-stays : (value : List ℕ) (ls : List (List ℕ)) → continues_first ls ≡ false
    → value ≡ value ++ concat (take_while continues_field ls)
value-stays value [] none = sym (append-nil value)
value-stays value (line ∷ ls) none =
    sym (ap (λ ys. value ++ concat ys) (take_while-cons continues_field line ls)
    ∙ ap (λ b. value ++ concat (if b then line ∷ take_while continues_field ls else [])) none ∙ append-nil value)

pub lines-stay : (ls : List (List ℕ)) → continues_first ls ≡ false → ls ≡ after_continued ls
lines-stay [] none = refl
lines-stay (line ∷ ls) none = sym (ap (λ b. if b then after_continued ls else line ∷ ls) none)
