-- Parts without levels are never too deep.
use Rattle.std.proofs.Common.{◌≡◌, ◌∙◌, ap, refl, ℕ, List, [], ◌∷◌, Bool, true, false, Ok, Err, Option, if◌then◌else◌}
use Rattle.tql_lex.specs.declared.sign.Sign.TheVariants as S
use Rattle.tql_lex.specs.declared.kind.Kind.{Kind}
use Rattle.tql_lex.specs.declared.token.Token.{Token}
use Rattle.tql_tree.specs.declared.shift.Unit.{Unit as TimeUnit}
use Rattle.tql_tree.specs.declared.table.Table.{Table}
use Rattle.tql_tree.specs.declared.shift.Shift.{Shift}
use Rattle.tql_tree.specs.declared.expr.Expr.{Expr}
use Rattle.tql_tree.specs.Syntax.{Syntax}
use Rattle.tql_parse.specs.declared.key.Key.{Key}
use Rattle.tql_parse.specs.declared.key.Key.TheVariants as K
use Rattle.tql_parse.specs.declared.fault.ParseFault.{ParseFault}
use Rattle.tql_parse.specs.declared.fault.ParseFault.TheVariants.{Unexpected, Deep}
use Rattle.tql_parse.specs.Keys.{key, is_word, is_number, is_text, is_name_key, is_where, is_open, is_dot, is_colon}
use Rattle.tql_tree.specs.Proper.{is_plain}
use Rattle.tql_parse.specs.Reading.{Read, ◌>>=◌, one, unit_by, unit_name, table_by, table_at, shift_after, shift_by, shift_at, negative_at}
use Rattle.tql_parse.specs.Reading.{now_at, today_at, moment_at, field_at, expr_by, expr_at, has_at, right_by, right_at, compare_at}
use Rattle.tql_parse.specs.Reading.{head_at}

-- no level is missed
abbrev pub Shallow : (A : Type 0) → (List Token → Read A) → Type 0
Shallow A f = (ts : List Token) (p : ℕ) → f ts ≡ Err (Deep p) → ⊥

pub shallow_ok : (A : Type 0) (a : A) → Shallow A (λ ts. Ok (a, ts))
shallow_ok A a ts p e = cc

module _ (A B : Type 0) (g : List Token → Read A) (h : A × List Token → Read B) (sg : Shallow A g)
    (sh : (a : A) → Shallow B (λ ts. h (a, ts))) where
  bind_by : (ts : List Token) (p : ℕ) (r : Read A) → g ts ≡ r → (r >>= h) ≡ Err (Deep p) → ⊥
  bind_by ts p (Ok x) e k = sh x.0 x.1 p k
  bind_by ts p (Err d) e k = let q : d ≡ Deep p = cc in sg ts p (e ∙ ap (λ (d : ParseFault). Err d) q)

  pub shallow_bind : Shallow B (λ ts. g ts >>= h)
  shallow_bind ts p e = bind_by ts p (g ts) refl e

pub shallow_one : (test : Kind → Bool) → Shallow Token (one test)
shallow_one test [] p e = cc
shallow_one test (t ∷ rest) p e = go (test t.kind) e
  where
    go : (b : Bool) → ◌≡◌ {A = Read Token} (if b then Ok (t, rest) else Err (Unexpected t.place)) (Err (Deep p)) → ⊥
    go true e = cc
    go false e = cc

unit_key : (k : Key) (t : Token) (rest : List Token) (p : ℕ) → unit_by k t rest ≡ Err (Deep p) → ⊥
unit_key (K.Unit u) t rest p e = cc
unit_key _ t rest p e = cc

shallow_unit : Shallow TimeUnit unit_name
shallow_unit [] p e = cc
shallow_unit (t ∷ rest) p e = unit_key (key t.kind) t rest p e

table_key : (k : Key) (t : Token) (rest : List Token) (p : ℕ) → table_by k t rest ≡ Err (Deep p) → ⊥
table_key K.Doc t rest p e = cc
table_key K.Note t rest p e = cc
table_key _ t rest p e = cc

shallow_table : Shallow Table table_at
shallow_table [] p e = cc
shallow_table (t ∷ rest) p e = table_key (key t.kind) t rest p e

shallow_shift_after : (place : ℕ) (back : Bool) → Shallow (Option Shift) (shift_after place back)
shallow_shift_after place back = shallow_bind Token (Option Shift) (one (λ k. is_number (key k))) _ (shallow_one (λ k. is_number (key k)))
    (λ count. shallow_bind TimeUnit (Option Shift) unit_name _ shallow_unit (λ u. shallow_ok (Option Shift) _))

shift_key : (k : Key) (t : Token) (rest : List Token) (p : ℕ) → shift_by k t rest ≡ Err (Deep p) → ⊥
shift_key (K.Mark S.Plus) t rest p e = shallow_shift_after t.place false rest p e
shift_key (K.Mark S.Minus) t rest p e = shallow_shift_after t.place true rest p e
shift_key _ t rest p e = cc

shallow_shift : Shallow (Option Shift) shift_at
shallow_shift [] p e = cc
shallow_shift (t ∷ rest) p e = shift_key (key t.kind) t rest p e

shallow_negative : (place : ℕ) → Shallow Expr (negative_at place)
shallow_negative place =
    shallow_bind Token Expr (one (λ k. is_number (key k))) _ (shallow_one (λ k. is_number (key k))) (λ n. shallow_ok Expr _)

shallow_now : (place : ℕ) → Shallow Expr (now_at place)
shallow_now place = shallow_bind (Option Shift) Expr shift_at _ shallow_shift (λ s. shallow_ok Expr _)

shallow_today : (place : ℕ) → Shallow Expr (today_at place)
shallow_today place = shallow_bind (Option Shift) Expr shift_at _ shallow_shift (λ s. shallow_ok Expr _)

shallow_moment : Shallow Expr moment_at
shallow_moment = shallow_bind Token Expr (one (λ k. is_text (key k))) _ (shallow_one (λ k. is_text (key k))) (λ x.
    shallow_bind (Option Shift) Expr shift_at _ shallow_shift (λ s. shallow_ok Expr _))

shallow_field : (var : Token) → Shallow Expr (field_at var)
shallow_field var = shallow_bind Token Expr (one (λ k. is_dot (key k))) _ (shallow_one (λ k. is_dot (key k))) (λ d. shallow_bind Token Expr
    (one is_word) _ (shallow_one is_word) (λ n. shallow_bind (Option Shift) Expr shift_at _ shallow_shift (λ s. shallow_ok Expr _)))

expr_key : (k : Key) (t : Token) (rest : List Token) (p : ℕ) → expr_by k t rest ≡ Err (Deep p) → ⊥
expr_key K.Number t rest p e = cc
expr_key (K.Mark S.Minus) t rest p e = shallow_negative t.place rest p e
expr_key K.Str t rest p e = cc
expr_key K.Now t rest p e = shallow_now t.place rest p e
expr_key K.Today t rest p e = shallow_today t.place rest p e
expr_key K.Time t rest p e = shallow_moment rest p e
expr_key K.Name t rest p e = shallow_field t rest p e
expr_key _ t rest p e = cc

shallow_expr : Shallow Expr expr_at
shallow_expr [] p e = cc
shallow_expr (t ∷ rest) p e = expr_key (key t.kind) t rest p e

has_key : (b : Bool) (left : Expr) (t : Token) (rest : List Token) (p : ℕ) → has_at b left t rest ≡ Err (Deep p) → ⊥
has_key true left t rest p e = shallow_bind Expr Syntax expr_at _ shallow_expr (λ right. shallow_ok Syntax _) rest p e
has_key false left t rest p e = cc

right_key : (k : Key) (left : Expr) (t : Token) (rest : List Token) (p : ℕ) → right_by left k t rest ≡ Err (Deep p) → ⊥
right_key (K.Mark (S.Compare op)) left t rest p e = shallow_bind Expr Syntax expr_at _ shallow_expr (λ right. shallow_ok Syntax _) rest p e
right_key K.Has left t rest p e = has_key (is_plain left) left t rest p e
right_key _ left t rest p e = cc

shallow_right : (left : Expr) → Shallow Syntax (right_at left)
shallow_right left [] p e = cc
shallow_right left (t ∷ rest) p e = right_key (key t.kind) left t rest p e

pub shallow_compare : Shallow Syntax compare_at
shallow_compare = shallow_bind Expr Syntax expr_at _ shallow_expr (λ left. shallow_right left)

pub shallow_head : Shallow (Token × Table) head_at
shallow_head = shallow_bind Token (Token × Table) (one (λ k. is_open (key k))) _ (shallow_one (λ k. is_open (key k))) (λ o.
    shallow_bind Token (Token × Table) (one (λ k. is_name_key (key k))) _ (shallow_one (λ k. is_name_key (key k))) (λ v.
    shallow_bind Token (Token × Table) (one (λ k. is_colon (key k))) _ (shallow_one (λ k. is_colon (key k))) (λ c.
    shallow_bind Table (Token × Table) table_at _ shallow_table (λ w. shallow_bind Token (Token × Table) (one (λ k. is_where (key k))) _
    (shallow_one (λ k. is_where (key k))) (λ z. shallow_ok (Token × Table) _)))))
