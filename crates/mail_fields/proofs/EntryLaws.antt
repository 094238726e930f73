-- The entries of the parts of a value, one after another.
use Rattle.std.proofs.Common.{◌≡◌, ◌∙◌, sym, ap, refl, subst, arith, ℕ, suc, List, [], ◌∷◌, ◌++◌, ◌+◌, take, drop, length, Bool, true}
use Rattle.std.proofs.Common.{false, ◌≤◌, ◌<◌, if◌then◌else◌, inl, inr}
use Rattle.std.specs.Prelude.{not, ◌==◌, ◌&&◌}
use Rattle.std.specs.List.{slice_split, position_or_len, onto_first, list_any, after_first}
use Rattle.std.specs.Str.{str_to_ascii_lowercase}
use Rattle.std.proofs.lemmas.Bool.{cases_lt}
use Rattle.std.proofs.lemmas.List.{append-nil, append_assoc, drop_all, take_all}
use Rattle.tap_base.proofs.Parts.{whole_part, first_part}
use Rattle.tap_base.specs.Bytes.{is_blank}
use Rattle.tap_rows.specs.Headers.{trimmed}
use Rattle.tap_rows.specs.Entries.{addresses_in, address_of, listed, referred, comma_parts_from}
use Rattle.mail_fields.specs.Rests.{comma_place}
use Rattle.mail_fields.specs.declared.entries.EntryEnd.{EntryEnd}
use Rattle.mail_fields.specs.declared.entries.EntryEnd.TheVariants.{Comma, Blank}
use Rattle.mail_fields.specs.EntryEnds.{entries_by, entry_length}

abbrev not_empty : List ℕ → Bool
not_empty entry = not (length entry == 0)

-- the entries of a first part, and then of the others
entries-cons : (part : List ℕ) (parts : List (List ℕ)) → addresses_in (part ∷ parts) ≡ addresses_in (part ∷ []) ++ addresses_in parts
entries-cons part parts =
    elim (not_empty (str_to_ascii_lowercase (address_of part)))
    as (λ b. (if b then str_to_ascii_lowercase (address_of part) ∷ addresses_in parts else addresses_in parts)
    ≡ (if b then str_to_ascii_lowercase (address_of part) ∷ [] else []) ++ addresses_in parts) [ true ↦ refl | false ↦ refl ]

-- parts between blanks
referred-first : (value : List ℕ) (n : ℕ) → n ≡ position_or_len is_blank value
    → referred value ≡ addresses_in (take n value ∷ []) ++ referred (drop (n + 1) value)
referred-first value n e =
    elim (cases_lt n (length value)) [
      | inl lt ↦ rw (first_part is_blank value n e lt) (entries-cons (take n value) (slice_split is_blank (drop (n + 1) value)))
      | inr le ↦ let w = whole_part is_blank value n e le in rw (w.0, w.1) (sym (append-nil _))
    ]

-- one more byte
take-one : (b : ℕ) (value : List ℕ) (m : ℕ) → take (1 + m) (b ∷ value) ≡ b ∷ take m value
take-one b value m = let e : 1 + m ≡ suc m = omega arith in rw e refl

drop-one : (b : ℕ) (value : List ℕ) (m : ℕ) → drop (1 + m + 1) (b ∷ value) ≡ drop (m + 1) value
drop-one b value m = let e : 1 + m + 1 ≡ suc (m + 1) = omega arith in rw e refl

and_not : (x q : Bool) → (x && not q) ≡ true → q ≡ false
and_not true false e = refl
and_not true true e = sym e
and_not false true e = absurd (cc)
and_not false false e = refl

-- where no comma cuts, the value is the one part
comma-whole : (quoted : Bool) (value : List ℕ) → length value ≤ comma_place quoted value → comma_parts_from quoted value ≡ value ∷ []
comma-whole quoted [] le = refl
comma-whole quoted (b ∷ value) le = go (b == 34) refl (b == 44 && not quoted) refl (λ q. comma-whole q value) where
  go : (x : Bool) → (b == 34) ≡ x → (y : Bool) → (b == 44 && not quoted) ≡ y
      → ((q : Bool) → length value ≤ comma_place q value → comma_parts_from q value ≡ value ∷ [])
      → comma_parts_from quoted (b ∷ value) ≡ (b ∷ value) ∷ []
  go true e y f rec =
      let place : comma_place quoted (b ∷ value) ≡ 1 + comma_place (not quoted) value = rw e refl in
      rw e (ap (onto_first b) (rec (not quoted) (omega arith)))
  go false e true f rec =
      let place : comma_place quoted (b ∷ value) ≡ 0 = rw (e, f) refl in
      absurd (omega arith)
  go false e false f rec =
      let place : comma_place quoted (b ∷ value) ≡ 1 + comma_place quoted value = rw (e, f) refl in
      rw (e, f) (ap (onto_first b) (rec quoted (omega arith)))

-- else its first part ends there
comma-cut : (quoted : Bool) (value : List ℕ) → comma_place quoted value < length value → comma_parts_from quoted value
    ≡ take (comma_place quoted value) value ∷ comma_parts_from false (drop (comma_place quoted value + 1) value)
comma-cut quoted [] lt = absurd (omega arith)
comma-cut quoted (b ∷ value) lt = go (b == 34) refl (b == 44 && not quoted) refl (λ q. comma-cut q value) where
  go : (x : Bool) → (b == 34) ≡ x → (y : Bool) → (b == 44 && not quoted) ≡ y → ((q : Bool) → comma_place q value < length value
      → comma_parts_from q value ≡ take (comma_place q value) value ∷ comma_parts_from false (drop (comma_place q value + 1) value))
      → comma_parts_from quoted (b ∷ value)
      ≡ take (comma_place quoted (b ∷ value)) (b ∷ value) ∷ comma_parts_from false (drop (comma_place quoted (b ∷ value) + 1) (b ∷ value))
  go true e y f rec =
      let place : comma_place quoted (b ∷ value) ≡ 1 + comma_place (not quoted) value = rw e refl in
      let parts : comma_parts_from quoted (b ∷ value) ≡ onto_first b (comma_parts_from (not quoted) value) = rw e refl in
      parts ∙ ap (onto_first b) (rec (not quoted) (omega arith))
      ∙ sym (subst (λ k. take k (b ∷ value) ∷ comma_parts_from false (drop (k + 1) (b ∷ value))
      ≡ (b ∷ take (comma_place (not quoted) value) value) ∷ comma_parts_from false (drop (comma_place (not quoted) value + 1) value))
      (sym place) (rw (take-one b value (comma_place (not quoted) value), drop-one b value (comma_place (not quoted) value)) refl))
  go false e true f rec =
      let place : comma_place quoted (b ∷ value) ≡ 0 = rw (e, f) refl in
      let parts : comma_parts_from quoted (b ∷ value) ≡ [] ∷ comma_parts_from quoted value = rw (e, f) refl in
      parts ∙ ap (λ q. [] ∷ comma_parts_from q value) (and_not (b == 44) quoted f)
      ∙ sym (subst (λ k. take k (b ∷ value) ∷ comma_parts_from false (drop (k + 1) (b ∷ value)) ≡ [] ∷ comma_parts_from false value)
      (sym place) refl)
  go false e false f rec =
      let place : comma_place quoted (b ∷ value) ≡ 1 + comma_place quoted value = rw (e, f) refl in
      let parts : comma_parts_from quoted (b ∷ value) ≡ onto_first b (comma_parts_from quoted value) = rw (e, f) refl in
      parts ∙ ap (onto_first b) (rec quoted (omega arith))
      ∙ sym (subst (λ k. take k (b ∷ value) ∷ comma_parts_from false (drop (k + 1) (b ∷ value))
      ≡ (b ∷ take (comma_place quoted value) value) ∷ comma_parts_from false (drop (comma_place quoted value + 1) value)) (sym place)
      (rw (take-one b value (comma_place quoted value), drop-one b value (comma_place quoted value)) refl))

listed-here : (value : List ℕ)
    → listed value ≡ addresses_in (take (comma_place false value) value ∷ []) ++ listed (drop (comma_place false value + 1) value)
listed-here value =
    elim (cases_lt (comma_place false value) (length value)) [
      | inl lt ↦ ap addresses_in (comma-cut false value lt)
          ∙ entries-cons (take (comma_place false value) value) (comma_parts_from false (drop (comma_place false value + 1) value))
      | inr le ↦ ap addresses_in (comma-whole false value le)
          ∙ rw (take_all (comma_place false value) value le, drop_all (comma_place false value + 1) value (omega arith))
          (sym (append-nil _))
    ]

listed-first : (value : List ℕ) (n : ℕ) → n ≡ comma_place false value
    → listed value ≡ addresses_in (take n value ∷ []) ++ listed (drop (n + 1) value)
listed-first value n e =
    subst (λ k. listed value ≡ addresses_in (take k value ∷ []) ++ listed (drop (k + 1) value)) (sym e) (listed-here value)

-- a value's entries are that of its first part and those of the rest
entries-first : (end : EntryEnd) (value : List ℕ) (n : ℕ) → n ≡ entry_length end value
    → entries_by end value ≡ addresses_in (take n value ∷ []) ++ entries_by end (drop (n + 1) value)
entries-first Comma value n e = listed-first value n e
entries-first Blank value n e = referred-first value n e

pub entries-step : (end : EntryEnd) (all done done' : List (List ℕ)) (value : List ℕ) (n : ℕ) → all ≡ done ++ entries_by end value
    → n ≡ entry_length end value → done' ≡ done ++ addresses_in (take n value ∷ [])
    → all ≡ done' ++ entries_by end (drop (n + 1) value)
entries-step end all done done' value n before e is = before ∙ ap (λ ys. done ++ ys) (entries-first end value n e)
    ∙ rw is (sym (append_assoc done _ _))

-- is one of the bytes there?
any-within : (p : ℕ → Bool) (xs : List ℕ) → position_or_len p xs < length xs → list_any p xs ≡ true
any-within p [] lt = absurd (omega arith)
any-within p (x ∷ xs) lt = go (p x) refl (any-within p xs) where
  go : (b : Bool) → p x ≡ b → (position_or_len p xs < length xs → list_any p xs ≡ true) → list_any p (x ∷ xs) ≡ true
  go true e rec = rw e refl
  go false e rec =
      let place : position_or_len p (x ∷ xs) ≡ 1 + position_or_len p xs = rw e refl in
      rw e (rec (omega arith))

any-none : (p : ℕ → Bool) (xs : List ℕ) → length xs ≤ position_or_len p xs → list_any p xs ≡ false
any-none p [] le = refl
any-none p (x ∷ xs) le = go (p x) refl (any-none p xs) where
  go : (b : Bool) → p x ≡ b → (length xs ≤ position_or_len p xs → list_any p xs ≡ false) → list_any p (x ∷ xs) ≡ false
  go true e rec =
      let place : position_or_len p (x ∷ xs) ≡ 0 = rw e refl in
      absurd (omega arith)
  go false e rec =
      let place : position_or_len p (x ∷ xs) ≡ 1 + position_or_len p xs = rw e refl in
      rw e (rec (omega arith))

-- an address in angle brackets
pub address-inner : (part inner : List ℕ) (start end : ℕ) → start ≡ position_or_len (λ b. b == 60) part → inner ≡ drop (start + 1) part
    → end ≡ position_or_len (λ b. b == 62) inner → end < length inner → take end inner ≡ address_of part
address-inner part inner start end is-start is-inner is-end lt =
    let same : inner ≡ after_first (λ b. b == 60) part = is-inner ∙ ap (λ k. drop (k + 1) part) is-start in
    let any : list_any (λ b. b == 62) inner ≡ true = any-within (λ b. b == 62) inner (omega arith) in
    rw (sym same, any, is-end) refl

-- and one without
pub address-plain : (part inner plain : List ℕ) (start end paren : ℕ) → start ≡ position_or_len (λ b. b == 60) part
    → inner ≡ drop (start + 1) part → end ≡ position_or_len (λ b. b == 62) inner → length inner ≤ end
    → paren ≡ position_or_len (λ b. b == 40) part → plain ≡ trimmed (take paren part) → plain ≡ address_of part
address-plain part inner plain start end paren is-start is-inner is-end le is-open is-plain =
    let same : inner ≡ after_first (λ b. b == 60) part = is-inner ∙ ap (λ k. drop (k + 1) part) is-start in
    let any : list_any (λ b. b == 62) inner ≡ false = any-none (λ b. b == 62) inner (omega arith) in
    rw (sym same, any) (is-plain ∙ ap (λ k. trimmed (take k part)) is-open)
