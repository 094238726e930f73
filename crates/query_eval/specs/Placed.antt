-- Hits with the places of their documents among them.
use Rattle.std.specs.Prelude.{◌≡◌, ℕ, ◌-◌, ◌<◌, ◌≤◌, Bool, false, Option}
use Rattle.std.specs.Prelude.{Some, None, List, length, nat_eq, slice_get, vec_capacity, ◌^◌}
use Rattle.query_eval.specs.declared.least_hits.LeastHits.{LeastHits}
use Rattle.tap_rows.specs.declared.results.Hit.{Hit}
use Rattle.query_eval.specs.Lowest.{keeping}

-- is the hit there, and of this document?
abbrev pub is_of : ℕ → Option Hit → Bool
is_of doc None = false
is_of doc (Some hit) = nat_eq hit.doc.0 doc

abbrev pub has_hit_at : List Hit → ℕ → ℕ → Bool
has_hit_at hits place doc = is_of doc (slice_get hits place)

-- under the number of each hit's document stands the hit's place
abbrev pub IsPlaced : List Hit → List ℕ → Type 0
IsPlaced hits places =
    (k : ℕ) (hit : Hit) → slice_get hits k ≡ Some hit
    → (0 < hit.doc.0) × (hit.doc.0 ≤ length places) × (slice_get places (hit.doc.0 - 1) ≡ Some k)

-- there is room for a hit of each document that has a place
pub record HasRoom (kept : LeastHits) : Type 0 where
  pub room : length kept.places.items ≤ vec_capacity kept.hits
  pub counted : length kept.places.items < 2 ^ 32

-- hits can be stored
pub record CanStoreHits (kept : LeastHits) : Type 0 where
  pub placed : IsPlaced kept.hits.items kept.places.items
  pub room : HasRoom kept

-- what is stored after some hits more: of each document with a place the least
abbrev pub Stores : LeastHits → LeastHits → List Hit → Type 0
Stores old new hits = new.hits.items ≡ keeping (length old.places.items) old.hits.items hits
