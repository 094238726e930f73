-- What a token is to the grammar.
use Rattle.std.specs.Prelude.{int_lt, ℕ, ℤ, pos, List, [], ◌∷◌, codes, Bool, true, false, Option, Some, None, if◌then◌else◌}
use Rattle.std.specs.Str.{bytes_eq}
use Rattle.tql_lex.specs.declared.sign.Sign.TheVariants as S
use Rattle.tql_lex.specs.declared.kind.Kind.{Kind}
use Rattle.tql_lex.specs.declared.kind.Kind.TheVariants as K
use Rattle.tql_tree.specs.declared.shift.Unit.TheVariants.{Seconds, Minutes, Hours, Days}
use Rattle.tql_lex.specs.declared.token.Token.{Token}
use Rattle.tql_parse.specs.declared.key.Opening.{Opening}
use Rattle.tql_parse.specs.declared.key.Opening.TheVariants as O
use Rattle.tql_parse.specs.declared.key.Key.{Key}
use Rattle.tql_parse.specs.declared.key.Key.TheVariants.{And, Or, Not, Exists, Where, Has, Doc, Note, Now, Time, Today, True, False}
use Rattle.tql_parse.specs.declared.key.Key.TheVariants.{Unit, Name, Number, Below, Str, Mark}
use Rattle.tql_parse.specs.contracts.key.KeyPartialEq.TheImpl as same_key

-- the words of conditions
abbrev pub condition_word : List ℕ → Option Key
condition_word w =
    if bytes_eq w (codes "and") then Some And
    else if bytes_eq w (codes "or") then Some Or
    else if bytes_eq w (codes "not") then Some Not
    else if bytes_eq w (codes "exists") then Some Exists
    else if bytes_eq w (codes "where") then Some Where
    else if bytes_eq w (codes "has") then Some Has
    else None

-- the words of tables, times and truths
abbrev pub value_word : List ℕ → Option Key
value_word w =
    if bytes_eq w (codes "doc") then Some Doc
    else if bytes_eq w (codes "note") then Some Note
    else if bytes_eq w (codes "now") then Some Now
    else if bytes_eq w (codes "time") then Some Time
    else if bytes_eq w (codes "today") then Some Today
    else if bytes_eq w (codes "true") then Some True
    else if bytes_eq w (codes "false") then Some False
    else None

-- the words of units
abbrev pub unit_word : List ℕ → Option Key
unit_word w =
    if bytes_eq w (codes "second") then Some (Unit Seconds)
    else if bytes_eq w (codes "seconds") then Some (Unit Seconds)
    else if bytes_eq w (codes "minute") then Some (Unit Minutes)
    else if bytes_eq w (codes "minutes") then Some (Unit Minutes)
    else if bytes_eq w (codes "hour") then Some (Unit Hours)
    else if bytes_eq w (codes "hours") then Some (Unit Hours)
    else if bytes_eq w (codes "day") then Some (Unit Days)
    else if bytes_eq w (codes "days") then Some (Unit Days)
    else None

-- the first of the three that is there, and else a name
abbrev pub first_key : Option Key → Option Key → Option Key → Key
first_key (Some k) b c = k
first_key None (Some k) c = k
first_key None None (Some k) = k
first_key None None None = Name

-- a reserved word, or a name
abbrev pub word_key : List ℕ → Key
word_key w = first_key (condition_word w) (value_word w) (unit_word w)

-- what a token is to the grammar
abbrev pub key : Kind → Key
key (K.Word w) = word_key w
key (K.Number n) = if int_lt n (pos 0) then Below else Number
key (K.Str w) = Str
key (K.Mark sign) = Mark sign

-- the number of a number
abbrev pub number_of_kind : Kind → ℤ
number_of_kind (K.Number n) = n
number_of_kind _ = pos 0

-- the bytes of a word or a text
abbrev pub bytes : Kind → List ℕ
bytes (K.Word w) = w
bytes (K.Str w) = w
bytes _ = []

-- is the token a word, reserved or not?
abbrev pub is_word : Kind → Bool
is_word (K.Word w) = true
is_word _ = false

-- is the token a number from 0 on?
abbrev pub is_number : Key → Bool
is_number Number = true
is_number _ = false

-- is the token this one?
abbrev pub is_key : Key → Key → Bool
is_key wanted k = same_key.ghosts.eq k wanted

abbrev pub is_text : Key → Bool
is_text k = is_key Str k

abbrev pub is_name_key : Key → Bool
is_name_key k = is_key Name k

abbrev pub is_and : Key → Bool
is_and k = is_key And k

abbrev pub is_or : Key → Bool
is_or k = is_key Or k

abbrev pub is_where : Key → Bool
is_where k = is_key Where k

abbrev pub is_open : Key → Bool
is_open k = is_key (Mark S.Open) k

abbrev pub is_close : Key → Bool
is_close k = is_key (Mark S.Close) k

abbrev pub is_dot : Key → Bool
is_dot k = is_key (Mark S.Dot) k

abbrev pub is_colon : Key → Bool
is_colon k = is_key (Mark S.Colon) k

-- what a unit with this token at its front is
abbrev pub opening : Key → Opening
opening True = O.Truth
opening False = O.Falsity
opening Not = O.Negation
opening (Mark S.Open) = O.Group
opening Exists = O.Quantifier
opening _ = O.Comparison

-- what the unit at the front begins with
abbrev pub opening_of : List Token → Opening
opening_of [] = O.End
opening_of (t ∷ rest) = opening (key t.kind)

-- does a shift begin with it?
abbrev pub is_shift_sign : Key → Bool
is_shift_sign (Mark S.Plus) = true
is_shift_sign (Mark S.Minus) = true
is_shift_sign _ = false
