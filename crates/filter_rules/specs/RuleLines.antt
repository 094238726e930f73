-- The rule of one line: WHEN, a condition, PRIORITY and a number, CLASS and a text; or the place of the line's first fault.
use Rattle.std.specs.Prelude.{ℕ, ℤ, pos, nat_abs, ◌-◌, ◌⊎◌, ◌≡◌, List, [], ◌∷◌, length, take, drop, Bool, true, false, ◌&&◌}
use Rattle.std.specs.Prelude.{◌||◌, nat_lt, int_le, Option, Some, None, Result, Ok, Err, codes, if◌then◌else◌}
use Rattle.std.specs.Str.{bytes_eq}
use Rattle.tap_base.specs.Names.{is_name}
use Rattle.tql_lex.specs.declared.kind.Kind.{Kind}
use Rattle.tql_lex.specs.declared.kind.Kind.TheVariants.{Word, Number, Str, Mark}
use Rattle.tql_lex.specs.declared.token.Token.{Token}
use Rattle.tql_lex.specs.declared.fault.LexFault.{LexFault}
use Rattle.tql_lex.specs.declared.fault.LexFault.TheVariants.{BadByte, OpenString, BigNumber, TooLong, Memory as LexMemory}
use Rattle.tql_lex.specs.Tokens.{lexed}
use Rattle.tql_parse.specs.declared.fault.ParseFault.{ParseFault}
use Rattle.tql_parse.specs.declared.fault.ParseFault.TheVariants.{Unexpected, Ended, Deep, Memory as ParseMemory}
use Rattle.tql_parse.specs.Reading.{query_at}
use Rattle.tql_core.specs.Condition.{Condition}
use Rattle.tql_types.specs.declared.fault.TypeFault.{TypeFault}
use Rattle.tql_types.specs.declared.fault.TypeFault.TheVariants.{NoVar, NoField, Clash, Shadow, BadTime, BigSpan, ManyVars, ManyNodes}
use Rattle.tql_types.specs.declared.fault.TypeFault.TheVariants.{Memory as TypeMemory}
use Rattle.tql_text.specs.declared.fault.TextFault.{TextFault}
use Rattle.tql_text.specs.declared.fault.TextFault.TheVariants.{Lex, Parse, Types, Memory}
use Rattle.tql_text.specs.Texts.{of_tree}
use Rattle.filter_rules.specs.declared.rule.KeptRule.{KeptRule}
use Rattle.filter_rules.specs.declared.line_fault.LineFault.{LineFault}
use Rattle.filter_rules.specs.declared.line_fault.LineFault.TheVariants.{At, Memory as NoMemory}
use Rattle.filter_rules.specs.Rules.{Rule, rule_view}

-- the place of a fault of tokens; a line that is too long has its fault at its end
abbrev pub lex_place : LexFault → ℕ
lex_place (BadByte place) = place
lex_place (OpenString place) = place
lex_place (BigNumber place) = place
lex_place (TooLong len) = 4096
lex_place LexMemory = 0

-- the place of a fault of syntax, where PRIORITY stands at `ends`
abbrev pub parse_place : ℕ → ParseFault → ℕ
parse_place ends (Unexpected place) = place
parse_place ends (Deep place) = place
parse_place ends Ended = ends
parse_place ends ParseMemory = 0

-- the place of a fault of types, where WHEN stands at `begins`
abbrev pub type_place : ℕ → TypeFault → ℕ
type_place begins (NoVar place) = place
type_place begins (NoField place) = place
type_place begins (Clash place) = place
type_place begins (Shadow place) = place
type_place begins (BadTime place) = place
type_place begins (BigSpan place) = place
type_place begins (ManyVars place) = place
type_place begins ManyNodes = begins
type_place begins TypeMemory = 0

-- the place of a fault of a condition between WHEN and PRIORITY
abbrev pub fault_place : ℕ → ℕ → TextFault → ℕ
fault_place begins ends (Lex fault) = lex_place fault
fault_place begins ends (Parse fault) = parse_place ends fault
fault_place begins ends (Types fault) = type_place begins fault
fault_place begins ends Memory = 0

-- is the token this word?
abbrev pub is_this_word : List ℕ → Kind → Bool
is_this_word name (Word w) = bytes_eq w name
is_this_word name (Number n) = false
is_this_word name (Str text) = false
is_this_word name (Mark sign) = false

-- the number of a token, if it is one
abbrev pub number_in_token : Kind → Option ℤ
number_in_token (Number n) = Some n
number_in_token (Word w) = None
number_in_token (Str text) = None
number_in_token (Mark sign) = None

-- the bytes of a text, if the token is one
abbrev pub text_in_token : Kind → Option (List ℕ)
text_in_token (Str text) = Some text
text_in_token (Word w) = None
text_in_token (Number n) = None
text_in_token (Mark sign) = None

-- is the token a word that names now or other rows?
abbrev pub is_of_now : Kind → Bool
is_of_now kind = is_this_word (codes "now") kind || is_this_word (codes "today") kind || is_this_word (codes "exists") kind

-- the place of the first such word
abbrev pub place_of_now : List Token → Option ℕ
place_of_now [] = None
place_of_now (token ∷ tokens) = if is_of_now token.kind then Some token.place else place_of_now tokens

-- a priority is at most 1,000
abbrev pub is_priority : ℤ → Bool
is_priority n = int_le (pos 0) n && int_le n (pos 1000)

-- the rule, if its priority and its class may stand in one
abbrev pub rated : Condition → ℤ → ℕ → List ℕ → ℕ → Result Rule ℕ
rated c priority priority_place class class_place =
    if is_priority priority
    then (if is_name class then Ok (record { condition = c; priority = nat_abs priority; class = class }) else Err class_place)
    else Err priority_place

-- the rule, if its condition names neither now nor other rows: `Some` is the place of the first word that does
abbrev pub timeless_rule : Option ℕ → Condition → ℤ → ℕ → List ℕ → ℕ → Result Rule ℕ
timeless_rule (Some place) c priority priority_place class class_place = Err place
timeless_rule None c priority priority_place class class_place = rated c priority priority_place class class_place

-- the rule of a reading of its condition
abbrev pub rule_with : Result Condition TextFault → ℕ → ℕ → List Token → ℤ → ℕ → List ℕ → ℕ → Result Rule ℕ
rule_with (Err fault) begins ends middle priority priority_place class class_place = Err (fault_place begins ends fault)
rule_with (Ok c) begins ends middle priority priority_place class class_place =
    timeless_rule (place_of_now middle) c priority priority_place class class_place

-- the rule of the tokens of a condition and of PRIORITY, its number, CLASS and its text; the line has this length
abbrev pub shaped : ℕ → ℕ → List Token → Token → Option ℤ → ℕ → Bool → Option (List ℕ) → ℕ → Result Rule ℕ
shaped len begins middle priority (Some n) n_place true (Some class) class_place =
    if is_this_word (codes "priority") priority.kind
    then rule_with (of_tree (query_at 32 middle)) begins priority.place middle n n_place class class_place
    else Err len
shaped len begins middle priority (Some n) n_place true None class_place = Err len
shaped len begins middle priority (Some n) n_place false class class_place = Err len
shaped len begins middle priority None n_place is_class class class_place = Err len

-- the rule of the tokens after WHEN, the last four apart
abbrev pub rule_at : ℕ → ℕ → List Token → List Token → Result Rule ℕ
rule_at len begins middle (p ∷ n ∷ c ∷ t ∷ []) =
    shaped len begins middle p (number_in_token n.kind) n.place (is_this_word (codes "class") c.kind) (text_in_token t.kind) t.place
rule_at len begins middle [] = Err len
rule_at len begins middle (p ∷ []) = Err len
rule_at len begins middle (p ∷ n ∷ []) = Err len
rule_at len begins middle (p ∷ n ∷ c ∷ []) = Err len
rule_at len begins middle (p ∷ n ∷ c ∷ t ∷ u ∷ more) = Err len

-- the rule of a line's tokens
abbrev pub rule_of_tokens : ℕ → List Token → Result Rule ℕ
rule_of_tokens len [] = Err 0
rule_of_tokens len (first ∷ rest) =
    if is_this_word (codes "when") first.kind then rule_at len first.place (take (length rest - 4) rest) (drop (length rest - 4) rest)
    else Err first.place

-- the rule of a reading of a line's tokens
abbrev pub rule_of_reading : ℕ → Result (List Token) LexFault → Result Rule ℕ
rule_of_reading len (Err fault) = Err (lex_place fault)
rule_of_reading len (Ok tokens) = rule_of_tokens len tokens

-- the rule of a line, or the place of its first fault
unfoldable pub rule_of : List ℕ → Result Rule ℕ
rule_of line = rule_of_reading (length line) (lexed line)

-- the result is what the definition gives, or out of memory
abbrev pub ReadsRule : Result Rule ℕ → Result KeptRule LineFault → Type 0
ReadsRule expected (Ok rule) = expected ≡ Ok (rule_view rule)
ReadsRule expected (Err (At place)) = expected ≡ Err place
ReadsRule expected (Err NoMemory) = Unit {0}
