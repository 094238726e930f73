-- What words ask for, by the rules of `clap`.
use Rattle.std.specs.Prelude.{ℕ, List, map, Option, Some, None, unwrap_or, option_and_then, codes, if◌then◌else◌}
use Rattle.std.specs.Borrow.{Bor}
use Rattle.std.specs.Str.Parse.{digits_value, without_leading_plus}
use Rattle.clap.specs.ValueTests.{is_unsigned_in}
use Rattle.clap.specs.Words.{first_of, matches_of}
use Rattle.command_words.specs.Options.{app, default_path}

-- the bytes of the words
abbrev pub word_bytes : List (Bor (List ℕ)) → List (List ℕ)
word_bytes words = map (λ s. s.now) words

-- the number of a text of digits, before which a plus may stand, if it is from 1 to 100,000
unfoldable pub number_in : List ℕ → Option ℕ
number_in text = if is_unsigned_in 1 100000 text then Some (digits_value 10 (without_leading_plus text)) else None

-- the path of the store that the words name, `:memory:` if they name none
abbrev pub path_in : List (List ℕ) → List ℕ
path_in words = unwrap_or (first_of (codes "store") (matches_of app words)) default_path

-- the number of messages of a sample, if the words ask for one
abbrev pub sample_in : List (List ℕ) → Option ℕ
sample_in words = option_and_then number_in (first_of (codes "sample") (matches_of app words))
