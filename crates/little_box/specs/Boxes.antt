-- Deliveries.
use Rattle.std.specs.Prelude.{◌≡◌, ℕ, ◌<◌, ◌^◌, Bool, false, Option, Some, None, List, [], ◌∷◌, length, nat_eq, slice_get}
use Rattle.std.specs.List.{list_any}
use Rattle.tap_rows.specs.declared.results.Entry.{Entry}

-- is a document of this number delivered?
abbrev pub is_in : ℕ → List Entry → Bool
is_in doc entries = list_any (λ (e : Entry). nat_eq doc e.doc.0) entries

-- no document is delivered twice
abbrev pub AreDistinct : List Entry → Type 0
AreDistinct [] = Unit {0}
AreDistinct (e ∷ es) = (is_in e.doc.0 es ≡ false) × AreDistinct es

-- is there a mark at this place, and is it set?
abbrev pub is_set : Option Bool → Bool
is_set None = false
is_set (Some b) = b

-- the marks of a box are those of the documents that are delivered, each once, and a number of 32 bits counts them
pub record IsBox (entries : List Entry) (delivered : List Bool) : Type 0 where
  pub marked : (n : ℕ) → is_set (slice_get delivered n) ≡ is_in n entries
  pub distinct : AreDistinct entries
  pub room : length entries < 2 ^ 32
