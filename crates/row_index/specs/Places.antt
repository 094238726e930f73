-- The places of rows under their keys.
use Rattle.std.specs.Prelude.{ℕ, zero, suc, ◌-◌, Bool, false, Option, Some, None, List}
use Rattle.std.specs.Prelude.{[], ◌∷◌, ◌++◌, length, map, take, nat_eq, nat_le, slice_get, if◌then◌else◌}
use Rattle.std.specs.List.{list_any, suffix_len}

-- is there a number, and is it this one?
abbrev pub is_row_number : ℕ → Option ℕ → Bool
is_row_number n None = false
is_row_number n (Some m) = nat_eq m n

-- is this the last place?
abbrev pub ends_with : ℕ → List ℕ → Bool
ends_with place places = is_row_number place (slice_get places (length places - 1))

-- the place at the end, if it isn't there yet
abbrev pub with_place : ℕ → List ℕ → List ℕ
with_place place places = if ends_with place places then places else places ++ place ∷ []

-- the place removed from the end, if it is there
abbrev pub without_place : ℕ → List ℕ → List ℕ
without_place place places = if ends_with place places then take (length places - 1) places else places

-- without the places at the end that are this number or more
abbrev pub cut_places : ℕ → List ℕ → List ℕ
cut_places len places = take (length places - suffix_len (λ place. nat_le len place) places) places

module _ {K : Type 0} where
  -- so cut, the places under each key
  abbrev pub cut_all : ℕ → List (K × List ℕ) → List (K × List ℕ)
  cut_all len es = map (λ e. (e.0, cut_places len e.1)) es

  -- so cut, the places under the nth key
  abbrev pub cut_at : ℕ → ℕ → List (K × List ℕ) → List (K × List ℕ)
  cut_at len n [] = []
  cut_at len zero (e ∷ es) = (e.0, cut_places len e.1) ∷ es
  cut_at len (suc n) (e ∷ es) = e ∷ cut_at len n es

module _ {K : Type 0} (eq : K → K → Bool) where
  -- the places under a key
  abbrev pub under : K → List (K × List ℕ) → List ℕ
  under key [] = []
  under key (e ∷ es) = if eq key e.0 then e.1 else under key es

  -- the place put under the key
  abbrev pub posted : K → ℕ → List (K × List ℕ) → List (K × List ℕ)
  posted key place [] = (key, place ∷ []) ∷ []
  posted key place (e ∷ es) = if eq key e.0 then (e.0, with_place place e.1) ∷ es else e ∷ posted key place es

  -- the place removed from under the key
  abbrev pub unposted : K → ℕ → List (K × List ℕ) → List (K × List ℕ)
  unposted key place [] = []
  unposted key place (e ∷ es) = if eq key e.0 then (e.0, without_place place e.1) ∷ es else e ∷ unposted key place es

  -- has the key been used?
  abbrev pub is_used_key : K → List (K × List ℕ) → Bool
  is_used_key key es = list_any (λ e. eq key e.0) es
