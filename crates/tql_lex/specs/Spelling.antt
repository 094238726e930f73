-- How tokens are written, and which tokens a text is.
use Rattle.std.specs.Prelude.{◌≡◌, ◌≤◌, ◌<◌, ◌≤ℤ◌, ℕ, pos, List, [], ◌∷◌, ◌++◌, ◌+◌}
use Rattle.std.specs.Prelude.{length, Bool, true, false, ◌||◌, not, ◌==◌, Some}
use Rattle.std.specs.List.{list_all, flat_map}
use Rattle.std.specs.Str.{str_to_ascii_lowercase}
use Rattle.std.specs.Str.Parse.{digits_value}
use Rattle.tap_base.specs.declared.numbers.Op.TheVariants.{Lt, Gt}
use Rattle.tql_lex.specs.declared.sign.Sign.{Sign}
use Rattle.tql_lex.specs.declared.sign.Sign.TheVariants.{Compare}
use Rattle.tql_lex.specs.declared.kind.Kind.{Kind}
use Rattle.tql_lex.specs.declared.kind.Kind.TheVariants.{Word, Number, Str, Mark}
use Rattle.tql_lex.specs.declared.token.Token.{Token}
use Rattle.tql_lex.specs.Tokens.{is_between_tokens, begins_word, is_digit, is_of_word, short_sign, long_sign, most, token}
use Rattle.tap_base.specs.Bytes.{doubled}

-- the bytes between the quotes of a text
abbrev pub between_quotes : List ℕ → List ℕ
between_quotes content = flat_map doubled content

-- bytes that a token of this kind may be written in
pub data Spells : List ℕ → Kind → Type 0 where
  word_is : (b : ℕ) (rest : List ℕ)
      → begins_word b ≡ true → list_all is_of_word rest ≡ true → Spells (b ∷ rest) (Word (str_to_ascii_lowercase (b ∷ rest)))
  number_is : (b : ℕ) (rest : List ℕ)
      → is_digit b ≡ true → list_all is_digit rest ≡ true → digits_value 10 (b ∷ rest) ≤ most
      → Spells (b ∷ rest) (Number (pos (digits_value 10 (b ∷ rest))))
  text_is : (content : List ℕ) → Spells (39 ∷ (between_quotes content ++ 39 ∷ [])) (Str content)
  short_is : (b : ℕ) (sign : Sign) → short_sign b ≡ Some sign → Spells (b ∷ []) (Mark sign)
  long_is : (b c : ℕ) (sign : Sign) → long_sign b c ≡ Some sign → Spells (b ∷ c ∷ []) (Mark sign)

-- would a byte right behind it belong to it, or be of one token with it?
abbrev pub goes_on : Kind → ℕ → Bool
goes_on (Word w) b = is_of_word b
goes_on (Number n) b = is_digit b
goes_on (Str content) b = b == 39
goes_on (Mark (Compare Lt)) b = b == 62 || b == 61
goes_on (Mark (Compare Gt)) b = b == 61
goes_on (Mark sign) b = false

-- nothing of what stands behind belongs to it
abbrev pub ends_before : Kind → List ℕ → Bool
ends_before kind [] = true
ends_before kind (b ∷ rest) = not (goes_on kind b)

-- The text from a place on is these tokens: each is as long as it can be, and only blanks and line ends lie between them.
pub data AreTokens : ℕ → List ℕ → List Token → Type 0 where
  none : (place : ℕ) → AreTokens place [] []
  blank : (place b : ℕ) (rest : List ℕ) (tokens : List Token)
      → is_between_tokens b ≡ true → AreTokens (place + 1) rest tokens → AreTokens place (b ∷ rest) tokens
  one : (place : ℕ) (spelling rest : List ℕ) (kind : Kind) (tokens : List Token)
      → Spells spelling kind → ends_before kind rest ≡ true → AreTokens (place + length spelling) rest tokens
      → AreTokens place (spelling ++ rest) (token kind place (length spelling) ∷ tokens)

-- the tokens stand one behind another, from a place on and up to an end, and none is empty
abbrev pub in_order : ℕ → List Token → ℕ → Type 0
in_order from [] end = from ≤ end
in_order from (t ∷ tokens) end = (from ≤ t.place) × (t.place < t.end) × in_order t.end tokens end

-- a number is not below 0 (other tokens aren't numbers)
abbrev pub IsNotBelow : Kind → Type 0
IsNotBelow (Number n) = pos 0 ≤ℤ n
IsNotBelow kind = Unit {0}

-- no token is a number below 0
abbrev pub no_number_below : List Token → Type 0
no_number_below [] = Unit {0}
no_number_below (t ∷ tokens) = IsNotBelow t.kind × no_number_below tokens
