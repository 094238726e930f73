-- Places that stand under the keys of their rows.
use Rattle.std.specs.Prelude.{◌≡◌, ◌⊎◌, ℕ, ◌-◌, Bool, false, List, [], ◌∷◌, ◌++◌, take, filter, map, if◌then◌else◌}
use Rattle.std.specs.Str.{bytes_eq}
use Rattle.std.specs.List.{list_any}
use Rattle.row_index.specs.Places.{under, ends_with, posted, unposted}

-- the place put under each of the keys
abbrev pub posted_all : {K : Type 0} → (K → K → Bool) → List K → ℕ → List (K × List ℕ) → List (K × List ℕ)
posted_all eq [] place es = es
posted_all eq (key ∷ keys) place es = posted_all eq keys place (posted eq key place es)

-- the place removed from under each of the keys
abbrev pub unposted_all : {K : Type 0} → (K → K → Bool) → List K → ℕ → List (K × List ℕ) → List (K × List ℕ)
unposted_all eq [] place es = es
unposted_all eq (key ∷ keys) place es = unposted_all eq keys place (unposted eq key place es)

-- the place was put under the first few of the texts
abbrev pub IsPartlyPosted : List (List ℕ) → ℕ → List (List ℕ × List ℕ) → List (List ℕ × List ℕ) → Type 0
IsPartlyPosted keys place es fs = (n : ℕ) × (fs ≡ posted_all bytes_eq (take n keys) place es)

-- the place was put under the key, or nothing was
abbrev pub IsMaybePosted : {K : Type 0} → (K → K → Bool) → K → ℕ → List (K × List ℕ) → List (K × List ℕ) → Type 0
IsMaybePosted eq key place es fs = (fs ≡ posted eq key place es) ⊎ (fs ≡ es)

-- the place isn't the last one under any text
abbrev pub IsFreePlace : ℕ → List (List ℕ × List ℕ) → Type 0
IsFreePlace place es = (key : List ℕ) → ends_with place (under bytes_eq key es) ≡ false

-- the words that are noted after this one: with it, unless the place is the last one under it
abbrev pub noted_then : ℕ → List ℕ → List (List ℕ × List ℕ) → List (List ℕ) → List (List ℕ)
noted_then place word es noted = if ends_with place (under bytes_eq word es) then noted else noted ++ word ∷ []

-- is this key one of these?
abbrev pub is_one_of : {K : Type 0} → (K → K → Bool) → K → List K → Bool
is_one_of eq key keys = list_any (λ other. eq key other) keys

-- the rows that have the key
abbrev pub with_key : {K A : Type 0} → (K → K → Bool) → (A → List K) → K → List A → List A
with_key eq keys key rows = filter (λ row. is_one_of eq key (keys row)) rows

-- the places of rows, by their numbers from 1
abbrev pub places_of : {A : Type 0} → (A → ℕ) → List A → List ℕ
places_of number rows = map (λ row. number row - 1) rows

-- under each key stand the places of the rows that have it
abbrev pub Posts : {K A : Type 0} → (K → K → Bool) → (A → List K) → (A → ℕ) → List A → List (K × List ℕ) → Type 0
Posts {K} eq keys number rows es = (key : K) → under eq key es ≡ places_of number (with_key eq keys key rows)
