-- The grammar: which tokens, up to which rest, are which part of a query.
use Rattle.std.specs.Prelude.{◌≡◌, ℕ, suc, pos, ◌-ℤ◌, List, [], ◌∷◌, ◌++◌, Bool, true, false, Option, Some, None}
use Rattle.tap_base.specs.declared.numbers.Op.{Op}
use Rattle.tql_lex.specs.declared.sign.Sign.TheVariants as S
use Rattle.tql_lex.specs.declared.token.Token.{Token}
use Rattle.tql_tree.specs.declared.shift.Unit.{Unit as TimeUnit}
use Rattle.tql_tree.specs.declared.table.Table.{Table}
use Rattle.tql_tree.specs.declared.table.Table.TheVariants.{Docs, Notes}
use Rattle.tql_tree.specs.declared.shift.Shift.{Shift}
use Rattle.tql_tree.specs.declared.expr.Expr.{Expr}
use Rattle.tql_tree.specs.declared.expr.Expr.TheVariants as E
use Rattle.tql_tree.specs.Syntax.{Syntax, True, False, Or, And, Not, Exists, Compare, Has}
use Rattle.tql_parse.specs.declared.key.Key.{Key}
use Rattle.tql_parse.specs.declared.key.Key.TheVariants as K
use Rattle.tql_parse.specs.Keys.{key, number_of_kind, bytes, is_word, is_number, is_text, is_name_key, is_and, is_or, is_where, is_open}
use Rattle.tql_parse.specs.Keys.{is_close, is_dot, is_colon}
use Rattle.tql_tree.specs.Proper.{is_plain}

-- the token's key passes the test
abbrev pub is : (Key → Bool) → Token → Type 0
is test t = test (key t.kind) ≡ true

-- shift = ( "+" | "-" ) number unitword
pub data IsShift : List Token → Shift → List Token → Type 0 where
  forward : (sign count unit : Token) (u : TimeUnit) (rest : List Token)
      → key sign.kind ≡ K.Mark S.Plus → is is_number count → key unit.kind ≡ K.Unit u
      → IsShift
      (sign ∷ count ∷ unit ∷ rest)
      (record { place = sign.place; back = false; count_place = count.place; count = number_of_kind count.kind; unit = u })
      rest
  back : (sign count unit : Token) (u : TimeUnit) (rest : List Token)
      → key sign.kind ≡ K.Mark S.Minus → is is_number count → key unit.kind ≡ K.Unit u
      → IsShift
      (sign ∷ count ∷ unit ∷ rest)
      (record { place = sign.place; back = true; count_place = count.place; count = number_of_kind count.kind; unit = u })
      rest

-- [ shift ]
pub data MayShift : List Token → Option Shift → List Token → Type 0 where
  none : (rest : List Token) → MayShift rest None rest
  some : (ts : List Token) (s : Shift) (rest : List Token) → IsShift ts s rest → MayShift ts (Some s) rest

-- expr = number | "-" number | text | NOW [ shift ] | TODAY [ shift ] | TIME text [ shift ] | var "." field [ shift ]
pub data IsExpr : List Token → Expr → List Token → Type 0 where
  number_is : (t : Token) (rest : List Token) → key t.kind ≡ K.Number → IsExpr (t ∷ rest) (E.Number t.place (number_of_kind t.kind)) rest
  negative : (minus t : Token) (rest : List Token)
      → key minus.kind ≡ K.Mark S.Minus → is is_number t
      → IsExpr (minus ∷ t ∷ rest) (E.Number minus.place (pos 0 -ℤ number_of_kind t.kind)) rest
  text_is : (t : Token) (rest : List Token) → key t.kind ≡ K.Str → IsExpr (t ∷ rest) (E.Str t.place (bytes t.kind)) rest
  now : (t : Token) (ts : List Token) (s : Option Shift) (rest : List Token)
      → key t.kind ≡ K.Now → MayShift ts s rest → IsExpr (t ∷ ts) (E.Now t.place s) rest
  today : (t : Token) (ts : List Token) (s : Option Shift) (rest : List Token)
      → key t.kind ≡ K.Today → MayShift ts s rest → IsExpr (t ∷ ts) (E.Today t.place s) rest
  moment : (t text : Token) (ts : List Token) (s : Option Shift) (rest : List Token)
      → key t.kind ≡ K.Time → is is_text text → MayShift ts s rest
      → IsExpr (t ∷ text ∷ ts) (E.Moment text.place (bytes text.kind) s) rest
  field : (var dot name : Token) (ts : List Token) (s : Option Shift) (rest : List Token)
      → key var.kind ≡ K.Name → is is_dot dot → is_word name.kind ≡ true → MayShift ts s rest
      → IsExpr (var ∷ dot ∷ name ∷ ts) (E.Field (bytes var.kind) var.place (bytes name.kind) name.place s) rest

-- table = DOC | NOTE
pub data IsTable : Token → Table → Type 0 where
  docs : (t : Token) → key t.kind ≡ K.Doc → IsTable t Docs
  notes : (t : Token) → key t.kind ≡ K.Note → IsTable t Notes

-- compare = expr op expr | var "." field HAS expr
pub data IsCompare : List Token → Syntax → List Token → Type 0 where
  compare : (ts : List Token) (left : Expr) (o : Token) (op : Op) (mid : List Token) (right : Expr) (rest : List Token)
      → IsExpr ts left (o ∷ mid) → key o.kind ≡ K.Mark (S.Compare op) → IsExpr mid right rest
      → IsCompare ts (Compare left op o.place right) rest
  has : (ts : List Token) (left : Expr) (h : Token) (mid : List Token) (right : Expr) (rest : List Token)
      → IsExpr ts left (h ∷ mid) → is_plain left ≡ true → key h.kind ≡ K.Has → IsExpr mid right rest
      → IsCompare ts (Has left h.place right) rest

-- the parts that go down levels
pub data GrammarPart : Type 0 where
  Cond : GrammarPart
  Conj : GrammarPart
  One : GrammarPart

-- The tokens up to the rest are this part, with at most that many levels open at a place, counted from here on.
-- NOT, the `(` of a group and EXISTS each open a level.
-- cond = conj { OR conj }, conj = unit { AND unit }, both left-nested
-- unit = NOT unit | "(" cond ")" | TRUE | FALSE | EXISTS "(" var ":" table WHERE cond ")" | compare
pub data Reads : GrammarPart → ℕ → List Token → Syntax → List Token → Type 0 where
  conj_alone : (n : ℕ) (ts : List Token) (x : Syntax) (rest : List Token) → Reads Conj n ts x rest → Reads Cond n ts x rest
  or_conj : (n : ℕ) (ts : List Token) (l : Syntax) (o : Token) (mid : List Token) (r : Syntax) (rest : List Token)
      → Reads Cond n ts l (o ∷ mid) → is is_or o → Reads Conj n mid r rest
      → Reads Cond n ts (Or l r) rest
  unit_alone : (n : ℕ) (ts : List Token) (x : Syntax) (rest : List Token) → Reads One n ts x rest → Reads Conj n ts x rest
  and_unit : (n : ℕ) (ts : List Token) (l : Syntax) (a : Token) (mid : List Token) (r : Syntax) (rest : List Token)
      → Reads Conj n ts l (a ∷ mid) → is is_and a → Reads One n mid r rest
      → Reads Conj n ts (And l r) rest
  not_unit : (n : ℕ) (t : Token) (ts : List Token) (x : Syntax) (rest : List Token)
      → key t.kind ≡ K.Not → Reads One n ts x rest → Reads One (suc n) (t ∷ ts) (Not x) rest
  group : (n : ℕ) (t : Token) (ts : List Token) (x : Syntax) (close : Token) (rest : List Token)
      → key t.kind ≡ K.Mark S.Open → Reads Cond n ts x (close ∷ rest) → is is_close close
      → Reads One (suc n) (t ∷ ts) x rest
  true_is : (n : ℕ) (t : Token) (rest : List Token) → key t.kind ≡ K.True → Reads One n (t ∷ rest) True rest
  false_is : (n : ℕ) (t : Token) (rest : List Token) → key t.kind ≡ K.False → Reads One n (t ∷ rest) False rest
  exists_is : (n : ℕ) (t opening var colon table where_is : Token) (which : Table) (ts : List Token) (x : Syntax) (close : Token)
      (rest : List Token)
      → key t.kind ≡ K.Exists → is is_open opening → is is_name_key var → is is_colon colon
      → IsTable table which → is is_where where_is
      → Reads Cond n ts x (close ∷ rest) → is is_close close
      → Reads One (suc n) (t ∷ opening ∷ var ∷ colon ∷ table ∷ where_is ∷ ts) (Exists (bytes var.kind) var.place which x) rest
  compare_is : (n : ℕ) (ts : List Token) (x : Syntax) (rest : List Token) → IsCompare ts x rest → Reads One n ts x rest

-- these tokens read as this tree, with at most `n` levels open
abbrev pub AreQueryTokens : ℕ → List Token → Syntax → Type 0
AreQueryTokens n ts x = Reads Cond n ts x []

-- the tokens begin a query of at most that many levels
pub record Begins (n : ℕ) (ts : List Token) : Type 0 where
  pub more : List Token
  pub tree : Syntax
  pub is_query : AreQueryTokens n (ts ++ more) tree

-- The tokens before this one begin a query, and with it they begin one only if more levels are allowed.
pub record DeepAt (n : ℕ) (ts : List Token) (place : ℕ) : Type 0 where
  pub before : List Token
  pub at : Token
  pub behind : List Token
  pub tokens : ts ≡ before ++ at ∷ behind
  pub place_is : place ≡ at.place
  pub begins : Begins n before
  pub stops : Begins n (before ++ at ∷ []) → ⊥
  pub levels : ℕ
  pub begins_deeper : Begins levels (before ++ at ∷ [])

-- The tokens before this one begin a query, and with it they begin none, however many levels are allowed.
pub record UnexpectedAt (n : ℕ) (ts : List Token) (place : ℕ) : Type 0 where
  pub before : List Token
  pub at : Token
  pub behind : List Token
  pub tokens : ts ≡ before ++ at ∷ behind
  pub place_is : place ≡ at.place
  pub begins : Begins n before
  pub stops : (m : ℕ) → Begins m (before ++ at ∷ []) → ⊥

-- The tokens begin a query, but aren't one themselves.
pub record EndsEarly (n : ℕ) (ts : List Token) : Type 0 where
  pub begins : Begins n ts
  pub is_none : (x : Syntax) → AreQueryTokens n ts x → ⊥
