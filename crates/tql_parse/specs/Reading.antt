-- Reading from left to right, with the first fault that is met.
use Rattle.std.specs.Prelude.{◌≡◌, ℕ, zero, suc, pos, ◌-ℤ◌, List, [], ◌∷◌, length, Bool, true, false, Option, Some}
use Rattle.std.specs.Prelude.{None, Result, Ok, Err, if◌then◌else◌}
use Rattle.tql_lex.specs.declared.sign.Sign.TheVariants as S
use Rattle.tql_lex.specs.declared.kind.Kind.{Kind}
use Rattle.tql_lex.specs.declared.token.Token.{Token}
use Rattle.tql_tree.specs.declared.shift.Unit.{Unit as TimeUnit}
use Rattle.tql_tree.specs.declared.table.Table.{Table}
use Rattle.tql_tree.specs.declared.table.Table.TheVariants.{Docs, Notes}
use Rattle.tql_tree.specs.declared.shift.Shift.{Shift}
use Rattle.tql_tree.specs.declared.expr.Expr.{Expr}
use Rattle.tql_tree.specs.declared.expr.Expr.TheVariants as E
use Rattle.tql_tree.specs.Syntax.{Syntax, True, False, Or, And, Not, Exists, Compare, Has}
use Rattle.tql_parse.specs.declared.key.Key.{Key}
use Rattle.tql_parse.specs.declared.key.Key.TheVariants as K
use Rattle.tql_parse.specs.declared.fault.ParseFault.{ParseFault}
use Rattle.tql_parse.specs.declared.fault.ParseFault.TheVariants.{Unexpected, Ended, Deep, Memory}
use Rattle.tql_parse.specs.Keys.{key, number_of_kind, bytes, is_word, is_number, is_text, is_name_key, is_and, is_or, is_where, is_open}
use Rattle.tql_parse.specs.Keys.{is_close, is_dot, is_colon}
use Rattle.tql_tree.specs.Proper.{is_plain}

-- what was read and the tokens behind it, or the first fault
abbrev pub Read : Type 0 → Type 0
Read A = Result (A × List Token) ParseFault

-- goes on with what was read, unless there is a fault
infixl 10 ◌>>=◌
abbrev pub ◌>>=◌ : {A B : Type 0} → Result A ParseFault → (A → Result B ParseFault) → Result B ParseFault
(Ok x) >>= f = f x
(Err e) >>= f = Err e

-- the fault is that of reading, unless memory ran out
abbrev pub ParseFails : {Y : Type 0} → ParseFault → Result Y ParseFault → Type 0
ParseFails Memory read = Unit {0}
ParseFails (Unexpected place) read = read ≡ Err (Unexpected place)
ParseFails Ended read = read ≡ Err Ended
ParseFails (Deep place) read = read ≡ Err (Deep place)

-- the result is what reading gives, unless memory ran out
abbrev pub ParseGives : {X Y : Type 0} → (X → Y) → Result X ParseFault → Result Y ParseFault → Type 0
ParseGives view (Ok x) read = read ≡ Ok (view x)
ParseGives view (Err fault) read = ParseFails fault read

-- the next token passes the test
abbrev pub one : (Kind → Bool) → List Token → Read Token
one test [] = Err Ended
one test (t ∷ rest) = if test t.kind then Ok (t, rest) else Err (Unexpected t.place)

-- the unit of time that a key is
abbrev pub unit_by : Key → Token → List Token → Read TimeUnit
unit_by (K.Unit u) t rest = Ok (u, rest)
unit_by _ t rest = Err (Unexpected t.place)

-- the unit of time at the front
abbrev pub unit_name : List Token → Read TimeUnit
unit_name [] = Err Ended
unit_name (t ∷ rest) = unit_by (key t.kind) t rest

-- the table that a key is
abbrev pub table_by : Key → Token → List Token → Read Table
table_by K.Doc t rest = Ok (Docs, rest)
table_by K.Note t rest = Ok (Notes, rest)
table_by _ t rest = Err (Unexpected t.place)

-- the table at the front
abbrev pub table_at : List Token → Read Table
table_at [] = Err Ended
table_at (t ∷ rest) = table_by (key t.kind) t rest

-- a shift, from behind its sign on
abbrev pub shift_after : ℕ → Bool → List Token → Read (Option Shift)
shift_after place back ts =
    one (λ k. is_number (key k)) ts >>= λ count.
    unit_name count.1 >>= λ unit.
    Ok (
      Some (record { place = place; back = back; count_place = count.0.place; count = number_of_kind count.0.kind; unit = unit.0 }),
      unit.1,
    )

-- the shift that begins with this key, if one does
abbrev pub shift_by : Key → Token → List Token → Read (Option Shift)
shift_by (K.Mark S.Plus) t rest = shift_after t.place false rest
shift_by (K.Mark S.Minus) t rest = shift_after t.place true rest
shift_by _ t rest = Ok (None, t ∷ rest)

-- the shift at the front, if there is one
abbrev pub shift_at : List Token → Read (Option Shift)
shift_at [] = Ok (None, [])
shift_at (t ∷ rest) = shift_by (key t.kind) t rest

-- a number below 0, from behind its `-` on
abbrev pub negative_at : ℕ → List Token → Read Expr
negative_at place ts = one (λ k. is_number (key k)) ts >>= λ t. Ok (E.Number place (pos 0 -ℤ number_of_kind t.0.kind), t.1)

-- NOW, from its shift on
abbrev pub now_at : ℕ → List Token → Read Expr
now_at place ts = shift_at ts >>= λ s. Ok (E.Now place s.0, s.1)

-- TODAY, from its shift on
abbrev pub today_at : ℕ → List Token → Read Expr
today_at place ts = shift_at ts >>= λ s. Ok (E.Today place s.0, s.1)

-- a moment, from behind TIME on
abbrev pub moment_at : List Token → Read Expr
moment_at ts = one (λ k. is_text (key k)) ts >>= λ t. shift_at t.1 >>= λ s. Ok (E.Moment t.0.place (bytes t.0.kind) s.0, s.1)

-- a field of the variable, from its `.` on
abbrev pub field_at : Token → List Token → Read Expr
field_at var ts =
    one (λ k. is_dot (key k)) ts >>= λ dot.
    one is_word dot.1 >>= λ name.
    shift_at name.1 >>= λ s.
    Ok (E.Field (bytes var.kind) var.place (bytes name.0.kind) name.0.place s.0, s.1)

-- the expression that begins with this key
abbrev pub expr_by : Key → Token → List Token → Read Expr
expr_by K.Number t rest = Ok (E.Number t.place (number_of_kind t.kind), rest)
expr_by (K.Mark S.Minus) t rest = negative_at t.place rest
expr_by K.Str t rest = Ok (E.Str t.place (bytes t.kind), rest)
expr_by K.Now t rest = now_at t.place rest
expr_by K.Today t rest = today_at t.place rest
expr_by K.Time t rest = moment_at rest
expr_by K.Name t rest = field_at t rest
expr_by _ t rest = Err (Unexpected t.place)

-- the expression at the front
abbrev pub expr_at : List Token → Read Expr
expr_at [] = Err Ended
expr_at (t ∷ rest) = expr_by (key t.kind) t rest

-- HAS, if its left side is a field without a shift
abbrev pub has_at : Bool → Expr → Token → List Token → Read Syntax
has_at true left t rest = expr_at rest >>= λ right. Ok (Has left t.place right.0, right.1)
has_at false left t rest = Err (Unexpected t.place)

-- the comparison with this left side and this key behind it
abbrev pub right_by : Expr → Key → Token → List Token → Read Syntax
right_by left (K.Mark (S.Compare op)) t rest = expr_at rest >>= λ right. Ok (Compare left op t.place right.0, right.1)
right_by left K.Has t rest = has_at (is_plain left) left t rest
right_by left _ t rest = Err (Unexpected t.place)

-- the comparison, from behind its left side on
abbrev pub right_at : Expr → List Token → Read Syntax
right_at left [] = Err Ended
right_at left (t ∷ rest) = right_by left (key t.kind) t rest

-- the comparison at the front
abbrev pub compare_at : List Token → Read Syntax
compare_at ts = expr_at ts >>= λ left. right_at left.0 left.1

-- does the next token pass the test?
abbrev pub next_is : (Key → Bool) → List Token → Bool
next_is test [] = false
next_is test (t ∷ ts) = test (key t.kind)

-- more parts behind the first one, each after a separator
abbrev pub chain : (Key → Bool) → (Syntax → Syntax → Syntax) → (List Token → Read Syntax) → ℕ → Syntax → List Token → Read Syntax
chain sep join part zero x ts = Ok (x, ts)
chain sep join part (suc k) x [] = Ok (x, [])
chain sep join part (suc k) x (t ∷ ts) =
    if sep (key t.kind) then (part ts >>= λ r. chain sep join part k (join x r.0) r.1) else Ok (x, t ∷ ts)

-- each part has a token, so there are no more parts than tokens
abbrev pub chained : (Key → Bool) → (Syntax → Syntax → Syntax) → (List Token → Read Syntax) → Syntax → List Token → Read Syntax
chained sep join part x ts = chain sep join part (length ts) x ts

-- units joined by AND
abbrev pub conj_with : (List Token → Read Syntax) → List Token → Read Syntax
conj_with unit ts = unit ts >>= λ x. chained is_and And unit x.0 x.1

-- conjunctions joined by OR
abbrev pub cond_with : (List Token → Read Syntax) → List Token → Read Syntax
cond_with unit ts = conj_with unit ts >>= λ x. chained is_or Or (conj_with unit) x.0 x.1

-- a group, from behind its `(` on
abbrev pub group_with : (List Token → Read Syntax) → List Token → Read Syntax
group_with unit ts = cond_with unit ts >>= λ x. one (λ k. is_close (key k)) x.1 >>= λ close. Ok (x.0, close.1)

-- the variable and the table of an EXISTS, from its `(` to its WHERE
abbrev pub head_at : List Token → Read (Token × Table)
head_at ts =
    one (λ k. is_open (key k)) ts >>= λ opening.
    one (λ k. is_name_key (key k)) opening.1 >>= λ var.
    one (λ k. is_colon (key k)) var.1 >>= λ colon.
    table_at colon.1 >>= λ table.
    one (λ k. is_where (key k)) table.1 >>= λ w.
    Ok ((var.0, table.0), w.1)

-- an EXISTS, from its `(` on
abbrev pub exists_with : (List Token → Read Syntax) → List Token → Read Syntax
exists_with unit ts = head_at ts >>= λ h. group_with unit h.1 >>= λ x. Ok (Exists (bytes h.0.0.kind) h.0.0.place h.0.1 x.0, x.1)

-- a NOT, from its unit on
abbrev pub not_with : (List Token → Read Syntax) → List Token → Read Syntax
not_with unit ts = unit ts >>= λ x. Ok (Not x.0, x.1)

-- a unit with units one level below
abbrev pub deeper : (List Token → Read Syntax) → Key → Token → List Token → Read Syntax
deeper unit K.Not t rest = not_with unit rest
deeper unit (K.Mark S.Open) t rest = group_with unit rest
deeper unit K.Exists t rest = exists_with unit rest
deeper unit K.True t rest = Ok (True, rest)
deeper unit K.False t rest = Ok (False, rest)
deeper unit _ t rest = compare_at (t ∷ rest)

-- the next token opens too many levels
abbrev pub deep_at : List Token → ParseFault
deep_at [] = Ended
deep_at (t ∷ rest) = Deep t.place

-- a unit that opens no level
abbrev pub flat : Key → Token → List Token → Read Syntax
flat K.Not t rest = Err (Deep t.place)
flat (K.Mark S.Open) t rest = Err (Deep t.place)
flat K.Exists t rest = Err (Deep t.place)
flat K.True t rest = Ok (True, rest)
flat K.False t rest = Ok (False, rest)
flat _ t rest = compare_at (t ∷ rest)

-- the unit at the front, with that many levels left
unfoldable pub unit_at : ℕ → List Token → Read Syntax
unit_at n [] = Err Ended
unit_at zero (t ∷ rest) = flat (key t.kind) t rest
unit_at (suc n) (t ∷ rest) = deeper (unit_at n) (key t.kind) t rest

-- the conjunction at the front
abbrev pub conj_at : ℕ → List Token → Read Syntax
conj_at n ts = conj_with (unit_at n) ts

-- the condition at the front
abbrev pub cond_at : ℕ → List Token → Read Syntax
cond_at n ts = cond_with (unit_at n) ts

-- the tree, if no token is left
abbrev pub end_of : Syntax × List Token → Result Syntax ParseFault
end_of (x, []) = Ok x
end_of (x, t ∷ rest) = Err (Unexpected t.place)

-- the query that all tokens are, or the first fault
abbrev pub query_at : ℕ → List Token → Result Syntax ParseFault
query_at n ts = cond_at n ts >>= end_of
