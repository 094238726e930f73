-- The tokens of a text.
use Rattle.std.specs.Prelude.{ℕ, zero, suc, pos, ◌<◌, List, [], ◌∷◌, ◌++◌, ◌+◌, ◌-◌, ◌^◌, length, take, drop, get_or}
use Rattle.std.specs.Prelude.{Bool, ◌||◌, ◌&&◌, not, nat_le, nat_lt, ◌==◌, Option, Some, None, Result, Ok, Err, if◌then◌else◌}
use Rattle.std.specs.List.{position_or_len}
use Rattle.std.specs.Str.{str_to_ascii_lowercase}
use Rattle.std.specs.Str.Parse.{digits_value}
use Rattle.tap_base.specs.declared.numbers.Op.TheVariants.{Eq, Ne, Lt, Le, Gt, Ge}
use Rattle.tql_lex.specs.declared.sign.Sign.{Sign}
use Rattle.tql_lex.specs.declared.sign.Sign.TheVariants.{Open, Close, Dot, Colon, Plus, Minus, Compare}
use Rattle.tql_lex.specs.declared.kind.Kind.{Kind}
use Rattle.tql_lex.specs.declared.kind.Kind.TheVariants.{Word, Number, Str, Mark}
use Rattle.tql_lex.specs.declared.token.Token.{Token}
use Rattle.tql_lex.specs.declared.fault.LexFault.{LexFault}
use Rattle.tql_lex.specs.declared.fault.LexFault.TheVariants.{BadByte, OpenString, BigNumber, TooLong}

-- a byte between tokens: a space, a tab or a line's end
abbrev pub is_between_tokens : ℕ → Bool
is_between_tokens b = b == 32 || b == 9 || b == 10

-- a byte that a word begins with: a letter or `_`
abbrev pub begins_word : ℕ → Bool
begins_word b = (nat_le 65 b && nat_le b 90) || (nat_le 97 b && nat_le b 122) || b == 95

-- a digit from 0 to 9
abbrev pub is_digit : ℕ → Bool
is_digit b = nat_le 48 b && nat_le b 57

-- a byte that a word goes on with
abbrev pub is_of_word : ℕ → Bool
is_of_word b = begins_word b || is_digit b

-- how many bytes at the front pass the test: the longest run
abbrev pub run : (ℕ → Bool) → List ℕ → ℕ
run test text = position_or_len (λ b. not (test b)) text

-- that many bytes more, which write this content
abbrev pub with_content : List ℕ → ℕ → Option (List ℕ × ℕ) → Option (List ℕ × ℕ)
with_content content len None = None
with_content content len (Some x) = Some (content ++ x.0, len + x.1)

-- what stands before the closing quote, a doubled quote being one, and how many bytes that is written in, with the closing quote
abbrev pub quoted : List ℕ → Option (List ℕ × ℕ)
quoted [] = None
quoted (b ∷ []) = if b == 39 then Some ([], 1) else None
quoted (b ∷ c ∷ rest) =
    if b == 39 then (if c == 39 then with_content (b ∷ []) 2 (quoted rest) else Some ([], 1))
    else with_content (b ∷ []) 1 (quoted (c ∷ rest))

-- in how many bytes the next byte before the closing quote is written: 0 at that quote and at the end
abbrev pub width : List ℕ → ℕ
width [] = 0
width (b ∷ []) = if b == 39 then 0 else 1
width (b ∷ c ∷ rest) = if b == 39 then (if c == 39 then 2 else 0) else 1

-- the sign of one byte
abbrev pub short_sign : ℕ → Option Sign
short_sign b =
    if b == 40 then Some Open
    else if b == 41 then Some Close
    else if b == 46 then Some Dot
    else if b == 58 then Some Colon
    else if b == 43 then Some Plus
    else if b == 45 then Some Minus
    else if b == 61 then Some (Compare Eq)
    else if b == 60 then Some (Compare Lt)
    else if b == 62 then Some (Compare Gt)
    else None

-- the sign of two bytes
abbrev pub long_sign : ℕ → ℕ → Option Sign
long_sign b c =
    if b == 60 && c == 62 then Some (Compare Ne)
    else if b == 60 && c == 61 then Some (Compare Le)
    else if b == 62 && c == 61 then Some (Compare Ge)
    else None

-- the greatest number of a token
abbrev pub most : ℕ
most = 2 ^ 63 - 1

-- a token from here on, that many bytes long
abbrev pub token : Kind → ℕ → ℕ → Token
token kind place len = record { kind = kind; place = place; end = place + len }

-- the word at the front
abbrev pub word_token : ℕ → List ℕ → Result Token LexFault
word_token place text = let n = run is_of_word text in Ok (token (Word (str_to_ascii_lowercase (take n text))) place n)

-- the number at the front, or that it is too great
abbrev pub number_token : ℕ → List ℕ → Result Token LexFault
number_token place text =
    let n = run is_digit text in
    let value = digits_value 10 (take n text) in
    if nat_lt most value then Err (BigNumber place) else Ok (token (Number (pos value)) place n)

-- the text at the front, or that it has no end
abbrev pub text_token : ℕ → Option (List ℕ × ℕ) → Result Token LexFault
text_token place None = Err (OpenString place)
text_token place (Some x) = Ok (token (Str x.0) place (1 + x.1))

-- the sign of one byte, or that no token begins here
abbrev pub short_token : ℕ → Option Sign → Result Token LexFault
short_token place None = Err (BadByte place)
short_token place (Some sign) = Ok (token (Mark sign) place 1)

-- the sign of two bytes if there is one, and else that of one byte
abbrev pub sign_token : ℕ → Option Sign → Option Sign → Result Token LexFault
sign_token place None short = short_token place short
sign_token place (Some sign) short = Ok (token (Mark sign) place 2)

-- the longest token at the front of the text, which begins with no blank, or what is wrong there
abbrev pub token_at : ℕ → List ℕ → Result Token LexFault
token_at place text =
    let b = get_or text 0 0 in
    if begins_word b then word_token place text
    else if is_digit b then number_token place text
    else if b == 39 then text_token place (quoted (drop 1 text))
    else sign_token place (long_sign b (get_or text 1 0)) (short_sign b)

-- tokens before others
abbrev pub with_front : List Token → Result (List Token) LexFault → Result (List Token) LexFault
with_front front (Ok tokens) = Ok (front ++ tokens)
with_front front (Err fault) = Err fault

-- a token, and then the tokens behind it, which its end gives
abbrev pub onto : Result Token LexFault → (ℕ → Result (List Token) LexFault) → Result (List Token) LexFault
onto (Err fault) others = Err fault
onto (Ok t) others = with_front (t ∷ []) (others t.end)

-- the tokens of the text from a place on, of which that many bytes belong to the token before
abbrev pub tokens_from : ℕ → ℕ → List ℕ → Result (List Token) LexFault
tokens_from inside place [] = Ok []
tokens_from (suc inside) place (b ∷ rest) = tokens_from inside (place + 1) rest
tokens_from zero place (b ∷ rest) =
    if is_between_tokens b then tokens_from zero (place + 1) rest
    else onto (token_at place (b ∷ rest)) (λ end. tokens_from (end - (place + 1)) (place + 1) rest)

-- the tokens of a text, or its first fault
abbrev pub lexed : List ℕ → Result (List Token) LexFault
lexed text = if nat_lt 4096 (length text) then Err (TooLong (length text)) else tokens_from 0 0 text

-- a text from this place on ends at a place of 32 bits
abbrev pub EndFits : ℕ → List ℕ → Type 0
EndFits place text = place + length text < 2 ^ 32
