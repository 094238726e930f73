-- The rows that are left of a walk.
use Rattle.std.specs.Prelude.{◌≡◌, ℕ, Option, Some, None, List, [], ◌∷◌, length, map, slice_get}
use Rattle.tap_rows.specs.declared.rows.Doc.{Doc}
use Rattle.row_index.specs.Orders.{InPlace, doc_number, doc_arrival}
use Rattle.row_index.specs.declared.dates.Dated.{Dated}
use Rattle.row_index.specs.declared.walk.Places.{Places}
use Rattle.row_index.specs.declared.walk.Places.TheVariants.{Listed, ByDate}
use Rattle.row_index.specs.declared.walk.Left.{Left}
use Rattle.row_index.specs.declared.walk.Left.TheVariants.{Beside, Picked}

-- an element before others, or nothing if it is absent
abbrev pub put_before : {A : Type 0} → Option A → List A → List A
put_before None rest = []
put_before (Some x) rest = x ∷ rest

-- the rows at these places, up to the first place without one: what a walk has still to hand out
abbrev pub at_places : {A : Type 0} → List A → List ℕ → List A
at_places xs [] = []
at_places xs (k ∷ ks) = put_before (slice_get xs k) (at_places xs ks)

-- there is an element at each of the places
abbrev pub HasRows : {A : Type 0} → List A → List ℕ → Type 0
HasRows xs places = length (at_places xs places) ≡ length places

-- documents in their places, and at each of these places there is one
pub record ArePlaces (docs : List Doc) (places : List ℕ) : Type 0 where
  pub stand : InPlace doc_number doc_arrival docs
  pub rows : HasRows docs places

-- the places that are left
abbrev pub places_in : Places → List ℕ
places_in (Listed places) = places.now
places_in (ByDate dates) = map (λ (key : Dated). key.place) dates

-- the rows that are left
abbrev pub left_in : {A : Type 0} → Left A → List A
left_in (Beside rows) = rows.now
left_in (Picked picked) = at_places picked.rows.now (places_in picked.places)
