-- What the words of a POP3 session ask for, and when they are well worded.
use Rattle.std.specs.Prelude.{ℕ, ◌≡◌, List, [], ◌∷◌, Bool, true, false, Option, unwrap_or, codes, if◌then◌else◌}
use Rattle.std.specs.List.{All}
use Rattle.std.specs.Option.{option_to_list}
use Rattle.clap.specs.Words.{first_of, matches_of}
use Rattle.command_words.specs.Options.{default_path}
use Rattle.command_words.specs.WellWorded.{is_path}
use Rattle.command_words.specs.PopOptions.{pop_app}

-- the value that the words give to an option; none is empty
abbrev pub pop_value : List ℕ → List (List ℕ) → List ℕ
pop_value name words = unwrap_or (first_of name (matches_of pop_app words)) []

-- the path of the store that the words name, `:memory:` if they name none
abbrev pub pop_path_in : List (List ℕ) → List ℕ
pop_path_in words = unwrap_or (first_of (codes "store") (matches_of pop_app words)) default_path

-- the user, the box's name and the secret that the words name
abbrev pub user_in : List (List ℕ) → List ℕ
user_in words = pop_value (codes "user") words

abbrev pub box_in : List (List ℕ) → List ℕ
box_in words = pop_value (codes "box") words

abbrev pub secret_in : List (List ℕ) → List ℕ
secret_in words = pop_value (codes "pass") words

-- an option of a POP3 session
pub data PopOption : Type 0 where
  Store : PopOption
  User : PopOption
  Box : PopOption
  Pass : PopOption

-- the name of an option
abbrev pub option_name : PopOption → List ℕ
option_name Store = codes "store"
option_name User = codes "user"
option_name Box = codes "box"
option_name Pass = codes "pass"

-- the word of an option
abbrev pub option_word : PopOption → List ℕ
option_word Store = codes "--store"
option_word User = codes "--user"
option_word Box = codes "--box"
option_word Pass = codes "--pass"

-- is this the option?
abbrev pub is_option : PopOption → PopOption → Bool
is_option Store Store = true
is_option User User = true
is_option Box Box = true
is_option Pass Pass = true
is_option one other = false

-- an option with its value
pub record OptionWithValue : Type 0 where
  pub option : PopOption
  pub value : List ℕ

-- the words of some pairs, in their order
abbrev pub words_of_pairs : List OptionWithValue → List (List ℕ)
words_of_pairs [] = []
words_of_pairs (pair ∷ pairs) = option_word pair.option ∷ pair.value ∷ words_of_pairs pairs

-- the values that some pairs give to an option
abbrev pub values_given : PopOption → List OptionWithValue → List (List ℕ)
values_given option [] = []
values_given option (pair ∷ pairs) = if is_option pair.option option then pair.value ∷ values_given option pairs
    else values_given option pairs

-- the words are one each of `--user`, `--box` and `--pass`, and at most one of `--store`, each with its text, in any order
pub record IsPopWorded (words : List (List ℕ)) (path : Option (List ℕ)) (user name secret : List ℕ) : Type 0 where
  pub pairs : List OptionWithValue
  pub words_are : words ≡ words_of_pairs pairs
  pub store_is : values_given Store pairs ≡ option_to_list path
  pub user_is : values_given User pairs ≡ user ∷ []
  pub box_is : values_given Box pairs ≡ name ∷ []
  pub secret_is : values_given Pass pairs ≡ secret ∷ []
  pub plain : All (λ pair. is_path pair.value ≡ true) pairs
