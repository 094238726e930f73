-- Why a text has no tokens, and where.
use Rattle.std.specs.Prelude.{◌≡◌, ◌<◌, ℕ, List, ◌∷◌, ◌++◌, ◌+◌, length, true, false}
use Rattle.std.specs.List.{list_all}
use Rattle.std.specs.Str.Parse.{digits_value}
use Rattle.tql_lex.specs.declared.kind.Kind.{Kind}
use Rattle.tql_lex.specs.declared.kind.Kind.TheVariants.{Str}
use Rattle.tql_lex.specs.declared.fault.LexFault.{LexFault}
use Rattle.tql_lex.specs.declared.fault.LexFault.TheVariants.{BadByte, OpenString, BigNumber, TooLong, Memory}
use Rattle.tql_lex.specs.Tokens.{is_between_tokens, is_digit, most}
use Rattle.tql_lex.specs.Spelling.{between_quotes, Spells, ends_before}

-- Blanks and whole tokens, each as long as it can be, lead from a place and a text to a later place and the text there.
pub data Reaches : ℕ → List ℕ → ℕ → List ℕ → Type 0 where
  here : (place : ℕ) (text : List ℕ) → Reaches place text place text
  blank : (place b : ℕ) (text : List ℕ) (end : ℕ) (rest : List ℕ)
      → is_between_tokens b ≡ true → Reaches (place + 1) text end rest → Reaches place (b ∷ text) end rest
  one : (place : ℕ) (spelling text : List ℕ) (kind : Kind) (end : ℕ) (rest : List ℕ)
      → Spells spelling kind → ends_before kind text ≡ true
      → Reaches (place + length spelling) text end rest → Reaches place (spelling ++ text) end rest

-- no token begins with the first byte, which is no blank
pub record IsBadByte (text : List ℕ) : Type 0 where
  pub byte : ℕ
  pub behind : List ℕ
  pub is : text ≡ byte ∷ behind
  pub is_no_blank : is_between_tokens byte ≡ false
  pub begins_nothing : (others : List ℕ) (kind : Kind) → Spells (byte ∷ others) kind → ⊥

-- a text begins, and no quote behind it ends one
pub record IsOpenString (text : List ℕ) : Type 0 where
  pub behind : List ℕ
  pub is : text ≡ 39 ∷ behind
  pub has_no_end : (content rest : List ℕ) → behind ≡ between_quotes content ++ 39 ∷ rest → ends_before (Str content) rest ≡ true → ⊥

-- the digits at the front, all of them, are of a number that is too great
pub record IsBigNumber (text : List ℕ) : Type 0 where
  pub digit : ℕ
  pub digits : List ℕ
  pub behind : List ℕ
  pub is : text ≡ (digit ∷ digits) ++ behind
  pub all_digits : list_all is_digit (digit ∷ digits) ≡ true
  pub no_more : (b : ℕ) (rest : List ℕ) → behind ≡ b ∷ rest → is_digit b ≡ false
  pub too_great : most < digits_value 10 (digit ∷ digits)

-- the text at a place is the cause of a fault
abbrev pub HasFault : List ℕ → LexFault → ℕ → Type 0
HasFault text (BadByte p) place = (p ≡ place) × IsBadByte text
HasFault text (OpenString p) place = (p ≡ place) × IsOpenString text
HasFault text (BigNumber p) place = (p ≡ place) × IsBigNumber text
HasFault text (TooLong len) place = ⊥
HasFault text Memory place = ⊥

-- tokens lead to the place of a fault, and its cause stands there
pub record FaultIn (place : ℕ) (text : List ℕ) (fault : LexFault) : Type 0 where
  pub at : ℕ
  pub rest : List ℕ
  pub reaches : Reaches place text at rest
  pub cause : HasFault rest fault at
