-- Kinds of bytes, and places in texts and lists.
use Rattle.std.specs.Prelude.{◌≡◌, ℕ, Bool, ◌||◌, ◌==◌, ◌<◌, ◌≤◌, ◌-◌, List, [], ◌∷◌, length, drop}
use Rattle.std.specs.Prelude.{if◌then◌else◌}

-- a blank: a space or a tab
abbrev pub is_blank : ℕ → Bool
is_blank b = b == 32 || b == 9

-- what a text gives a hasher: its bytes as one run
abbrev pub text_writes : List ℕ → List (List ℕ)
text_writes bytes = bytes ∷ []

-- a text that isn't empty
abbrev pub IsNonEmpty : List ℕ → Type 0
IsNonEmpty text = 0 < length text

-- a place in the text, or its end
abbrev pub IsPlaceOrEnd : List ℕ → ℕ → Type 0
IsPlaceOrEnd text at = at ≤ length text

-- a place of a list, as a node's number is one of its pool
abbrev pub IsPlaceOf : {A : Type 0} → List A → ℕ → Type 0
IsPlaceOf items place = place < length items

-- the one text is the end of the other
pub record IsEndOf (rest text : List ℕ) : Type 0 where
  pub within : length rest ≤ length text
  pub bytes : drop (length text - length rest) text ≡ rest

-- a byte of a quoted text: a quote is written twice
abbrev pub doubled : ℕ → List ℕ
doubled b = if b == 39 then 39 ∷ 39 ∷ [] else b ∷ []
