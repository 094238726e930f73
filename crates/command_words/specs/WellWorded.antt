-- Well worded words: at most one pair of each option, in either order.
use Rattle.std.specs.Prelude.{◌≡◌, ◌⊎◌, ◌≤◌, ℕ, List, [], ◌∷◌, ◌++◌, Bool, true, false, not, ◌==◌, Option, Some, None}
use Rattle.std.specs.Prelude.{unwrap_or, codes}
use Rattle.std.specs.Fmt.{decimal}
use Rattle.command_words.specs.Options.{default_path}

-- a path is not empty and doesn't begin with `-`
abbrev pub is_path : List ℕ → Bool
is_path [] = false
is_path (b ∷ path) = not (b == 45)

-- no path, or a path that may be named
abbrev pub IsPathOrNone : Option (List ℕ) → Type 0
IsPathOrNone None = Unit {0}
IsPathOrNone (Some path) = is_path path ≡ true

-- a number of messages is from 1 to 100,000
abbrev pub IsNumberOrNone : Option ℕ → Type 0
IsNumberOrNone None = Unit {0}
IsNumberOrNone (Some n) = (1 ≤ n) × (n ≤ 100000)

-- the words that name a path
abbrev pub store_words : Option (List ℕ) → List (List ℕ)
store_words None = []
store_words (Some path) = codes "--store" ∷ path ∷ []

-- a number is written in decimal digits, with no zero before them
abbrev pub sample_words : Option ℕ → List (List ℕ)
sample_words None = []
sample_words (Some n) = codes "--sample" ∷ decimal n ∷ []

-- the words are `--store` and a path, if any, and `--sample` and a number from 1 to 100,000 in decimal digits without a leading
-- zero, if any, in either order; a path isn't empty and doesn't begin with `-`
pub record IsWellWorded (words : List (List ℕ)) (path : Option (List ℕ)) (number : Option ℕ) : Type 0 where
  pub named_path : IsPathOrNone path
  pub named_number : IsNumberOrNone number
  pub order : (words ≡ store_words path ++ sample_words number) ⊎ (words ≡ sample_words number ++ store_words path)

-- the path of the store: the named one, or `:memory:`
abbrev pub path_or_default : Option (List ℕ) → List ℕ
path_or_default path = unwrap_or path default_path
