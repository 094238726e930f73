-- The entries of a field's value.
use Rattle.std.specs.Prelude.{ℕ, List, [], ◌∷◌, Bool, false, ◌&&◌, not, ◌==◌, length, filter, map, if◌then◌else◌}
use Rattle.std.specs.List.{slice_split, before_first, after_first, list_any, onto_first}
use Rattle.std.specs.Str.{str_to_ascii_lowercase}
use Rattle.tap_base.specs.Bytes.{is_blank}
use Rattle.tap_rows.specs.Headers.{trimmed}

-- the address of a part: what is between the first `<` and the next `>`, or else what is before the first `(`, trimmed
abbrev pub address_of : List ℕ → List ℕ
address_of part =
    if list_any (λ b. b == 62) (after_first (λ b. b == 60) part) then before_first (λ b. b == 62) (after_first (λ b. b == 60) part)
    else trimmed (before_first (λ b. b == 40) part)

-- the addresses of some parts, A to Z lowered, without empty ones
abbrev pub addresses_in : List (List ℕ) → List (List ℕ)
addresses_in parts = filter (λ entry. not (length entry == 0)) (map (λ part. str_to_ascii_lowercase (address_of part)) parts)

-- the parts between the commas outside quotes; do the bytes begin inside quotes?
abbrev pub comma_parts_from : Bool → List ℕ → List (List ℕ)
comma_parts_from quoted [] = [] ∷ []
comma_parts_from quoted (b ∷ bytes) =
    if b == 34 then onto_first b (comma_parts_from (not quoted) bytes)
    else (if b == 44 && not quoted then [] ∷ comma_parts_from quoted bytes else onto_first b (comma_parts_from quoted bytes))

-- the parts of a value between commas; a comma cuts if the number of `"` before it is even
abbrev pub comma_parts : List ℕ → List (List ℕ)
comma_parts value = comma_parts_from false value

-- the entries of a value that commas cut
abbrev pub listed : List ℕ → List (List ℕ)
listed value = addresses_in (comma_parts value)

-- the entries of a value that blanks cut
abbrev pub referred : List ℕ → List (List ℕ)
referred value = addresses_in (slice_split is_blank value)

-- the entries of a value that is one entry
abbrev pub identified : List ℕ → List (List ℕ)
identified value = addresses_in (value ∷ [])
