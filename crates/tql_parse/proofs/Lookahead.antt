-- Reading looks at one token after another: what stands behind the first token at which it stops doesn't matter.
use Rattle.std.proofs.Common.{◌≡◌, sym, refl, subst, arith, ℕ, zero, suc, ◌+◌, List, [], ◌∷◌, length, Bool, true, false, Ok, Err, Option}
use Rattle.std.proofs.Common.{None}
use Rattle.tql_lex.specs.declared.sign.Sign.TheVariants as S
use Rattle.tql_lex.specs.declared.kind.Kind.{Kind}
use Rattle.tql_lex.specs.declared.token.Token.{Token}
use Rattle.tql_tree.specs.declared.shift.Unit.{Unit as TimeUnit}
use Rattle.tql_tree.specs.declared.table.Table.{Table}
use Rattle.tql_tree.specs.declared.table.Table.TheVariants.{Docs, Notes}
use Rattle.tql_tree.specs.declared.shift.Shift.{Shift}
use Rattle.tql_tree.specs.declared.expr.Expr.{Expr}
use Rattle.tql_tree.specs.declared.expr.Expr.TheVariants as E
use Rattle.tql_tree.specs.Syntax.{Syntax, True, False, Or, And, Compare, Has}
use Rattle.tql_parse.specs.declared.key.Key.{Key}
use Rattle.tql_parse.specs.declared.key.Key.TheVariants as K
use Rattle.tql_parse.specs.declared.key.Opening.{Opening}
use Rattle.tql_parse.specs.declared.key.Opening.TheVariants as O
use Rattle.tql_parse.specs.declared.fault.ParseFault.{ParseFault}
use Rattle.tql_parse.specs.declared.fault.ParseFault.TheVariants.{Unexpected, Ended, Deep, Memory}
use Rattle.tql_parse.specs.Keys.{key, number_of_kind, bytes, is_word, is_number, is_text, is_name_key, is_and, is_or, is_where, is_open}
use Rattle.tql_parse.specs.Keys.{is_close, is_dot, is_colon, opening}
use Rattle.tql_tree.specs.Proper.{is_plain}
use Rattle.tql_parse.specs.Reading.{Read, ◌>>=◌, one, unit_name, table_at, shift_after, shift_at, negative_at, now_at, today_at, moment_at}
use Rattle.tql_parse.specs.Reading.{field_at, expr_at, right_at, compare_at, chain, chained, conj_with, cond_with, group_with, head_at}
use Rattle.tql_parse.specs.Reading.{exists_with, not_with, unit_at, cond_at}
use Rattle.tql_parse.proofs.Chains.{Shrinks, same}
use Rattle.tql_parse.proofs.Lengths.{unit_shrinks, conj_shrinks}
use Rattle.tql_parse.proofs.Units.{at_zero, at_suc, unit_end}

-- the tokens before one, those up to it, and those with more behind it
pub data Sim : Token → List Token → List Token → List Token → Type 0 where
  here : (t : Token) (m : List Token) → Sim t [] (t ∷ []) (t ∷ m)
  there : (t x : Token) (b r s : List Token) → Sim t b r s → Sim t (x ∷ b) (x ∷ r) (x ∷ s)

-- all tokens are read, or more are wanted
abbrev pub Spent : {A : Type 0} → Read A → Type 0
Spent (Ok x) = x.1 ≡ []
Spent (Err e) = e ≡ Ended

abbrev pub NotEnd : ParseFault → Type 0
NotEnd Ended = ⊥
NotEnd Memory = Unit {0}
NotEnd _ = Unit {0}

-- a fault at this token
abbrev pub IsAt : Token → ParseFault → Type 0
IsAt t (Unexpected p) = p ≡ t.place
IsAt t (Deep p) = p ≡ t.place
IsAt t _ = ⊥

pub at_not_end : (t : Token) (e : ParseFault) → IsAt t e → NotEnd e
at_not_end t (Unexpected p) h = tt
at_not_end t (Deep p) h = tt
at_not_end t Ended h = h
at_not_end t Memory h = absurd h

-- what reading the three comes to
pub data Out (A : Type 0) (t : Token) : Read A → Read A → Read A → Type 0 where
  go : (a : A) (b r s : List Token) → Sim t b r s → Out A t (Ok (a, b)) (Ok (a, r)) (Ok (a, s))
  spent : (x y z : Read A) → Spent y → Out A t x y z
  early : (e : ParseFault) → NotEnd e → Out A t (Err e) (Err e) (Err e)
  stuck : (x : Read A) (e : ParseFault) → IsAt t e → Out A t x (Err e) (Err e)

pub spent_bind : (A B : Type 0) (y : Read A) (h : A × List Token → Read B) → Spent y → ((a : A) → Spent (h (a, []))) → Spent (y >>= h)
spent_bind A B (Ok x) h q k = subst (λ (rest : List Token). Spent (h (x.0, rest))) (sym q) (k x.0)
spent_bind A B (Err e) h q k = q

out_bind : (A B : Type 0) (t : Token) (h : A × List Token → Read B) (x y z : Read A) → Out A t x y z
    → ((a : A) (b r s : List Token) → Sim t b r s → Out B t (h (a, b)) (h (a, r)) (h (a, s))) → ((a : A) → Spent (h (a, [])))
    → Out B t (x >>= h) (y >>= h) (z >>= h)
out_bind A B t h x y z (go a b r s m) f k = f a b r s m
out_bind A B t h x y z (spent u v w q) f k = spent (u >>= h) (v >>= h) (w >>= h) (spent_bind A B v h q k)
out_bind A B t h x y z (early e n) f k = early e n
out_bind A B t h x y z (stuck u e i) f k = stuck (u >>= h) e i

-- reading so looks at one token after another
pub record Lookahead (A : Type 0) (f : List Token → Read A) : Type 0 where
  pub spent : Spent (f [])
  pub out : (t : Token) (b r s : List Token) → Sim t b r s → Out A t (f b) (f r) (f s)

pub tame_ok : (A : Type 0) (a : A) → Lookahead A (λ ts. Ok (a, ts))
tame_ok A a = record { spent = refl; out = λ t b r s m. go a b r s m }

pub tame_bind : (A B : Type 0) (g : List Token → Read A) (h : A × List Token → Read B) → Lookahead A g
    → ((a : A) → Lookahead B (λ ts. h (a, ts))) → Lookahead B (λ ts. g ts >>= h)
tame_bind A B g h tg k = record {
  spent = spent_bind A B (g []) h tg.spent (λ a. (k a).spent);
  out = λ t b r s m. out_bind A B t h (g b) (g r) (g s) (tg.out t b r s m) (λ a b' r' s' n. (k a).out t b' r' s' n) (λ a. (k a).spent);
}

-- what is done at a token: it is taken, refused, or left to another reading
data Choice (A : Type 0) (f : List Token → Read A) (t : Token) : Type 0 where
  taken : (g : List Token → Read A) → Lookahead A g → ((rest : List Token) → f (t ∷ rest) ≡ g rest) → Choice A f t
  refused : (e : ParseFault) → IsAt t e → ((rest : List Token) → f (t ∷ rest) ≡ Err e) → Choice A f t
  kept : (h : List Token → Read A) → Lookahead A h → f [] ≡ h [] → ((rest : List Token) → f (t ∷ rest) ≡ h (t ∷ rest)) → Choice A f t

module _ (A : Type 0) (f : List Token → Read A) where
  three : (t : Token) (x y z x' y' z' : Read A) → x ≡ x' → y ≡ y' → z ≡ z' → Out A t x' y' z' → Out A t x y z
  three t x y z x' y' z' p q r h = rw (p, q, r) h

  out_here : (t : Token) (m : List Token) → Choice A f t → Out A t (f []) (f (t ∷ [])) (f (t ∷ m))
  out_here t m (taken g tg e) = spent (f []) (f (t ∷ [])) (f (t ∷ m)) (subst (λ (r : Read A). Spent r) (sym (e [])) tg.spent)
  out_here t m (refused e i q) = three t _ _ _ (f []) (Err e) (Err e) refl (q []) (q m) (stuck (f []) e i)
  out_here t m (kept h th z q) = three t _ _ _ _ _ _ z (q []) (q m) (th.out t [] (t ∷ []) (t ∷ m) (here t m))

  out_there : (t x : Token) (b r s : List Token) → Sim t b r s → Choice A f x → Out A t (f (x ∷ b)) (f (x ∷ r)) (f (x ∷ s))
  out_there t x b r s m (taken g tg e) = three t _ _ _ _ _ _ (e b) (e r) (e s) (tg.out t b r s m)
  out_there t x b r s m (refused e i q) = three t _ _ _ _ _ _ (q b) (q r) (q s) (early e (at_not_end x e i))
  out_there t x b r s m (kept h th z q) = three t _ _ _ _ _ _ (q b) (q r) (q s) (th.out t (x ∷ b) (x ∷ r) (x ∷ s) (there t x b r s m))

  out_of : ((t : Token) → Choice A f t) → (t : Token) (b r s : List Token) → Sim t b r s → Out A t (f b) (f r) (f s)
  out_of c t b r s (here u m) = out_here u m (c u)
  out_of c t b r s (there u x b' r' s' m) = out_there u x b' r' s' m (c x)

  tame_choice : Spent (f []) → ((t : Token) → Choice A f t) → Lookahead A f
  tame_choice q c = record { spent = q; out = out_of c }

pub tame_one : (test : Kind → Bool) → Lookahead Token (one test)
tame_one test = tame_choice Token (one test) refl (λ t.
    elim (test t.kind) as (λ b. test t.kind ≡ b → Choice Token (one test) t) [
      | true ↦ λ e. taken (λ rest. Ok (t, rest)) (tame_ok Token t) (λ rest. rw e refl)
      | false ↦ λ e. refused (Unexpected t.place) refl (λ rest. rw e refl)
    ] refl)

unit_choice : (k : Key) (t : Token) → key t.kind ≡ k → Choice TimeUnit unit_name t
unit_choice (K.Unit u) t e = taken (λ rest. Ok (u, rest)) (tame_ok TimeUnit u) (λ rest. rw e refl)
unit_choice _ t e = refused (Unexpected t.place) refl (λ rest. rw e refl)

tame_unit_name : Lookahead TimeUnit unit_name
tame_unit_name = tame_choice TimeUnit unit_name refl (λ t. unit_choice (key t.kind) t refl)

table_choice : (k : Key) (t : Token) → key t.kind ≡ k → Choice Table table_at t
table_choice K.Doc t e = taken (λ rest. Ok (Docs, rest)) (tame_ok Table Docs) (λ rest. rw e refl)
table_choice K.Note t e = taken (λ rest. Ok (Notes, rest)) (tame_ok Table Notes) (λ rest. rw e refl)
table_choice _ t e = refused (Unexpected t.place) refl (λ rest. rw e refl)

tame_table : Lookahead Table table_at
tame_table = tame_choice Table table_at refl (λ t. table_choice (key t.kind) t refl)

tame_shift_after : (place : ℕ) (back : Bool) → Lookahead (Option Shift) (shift_after place back)
tame_shift_after place back = tame_bind Token (Option Shift) (one (λ k. is_number (key k))) _ (tame_one (λ k. is_number (key k))) (λ count.
    tame_bind TimeUnit (Option Shift) unit_name _ tame_unit_name (λ u. tame_ok (Option Shift) _))

shift_choice : (k : Key) (t : Token) → key t.kind ≡ k → Choice (Option Shift) shift_at t
shift_choice (K.Mark S.Plus) t e = taken (shift_after t.place false) (tame_shift_after t.place false) (λ rest. rw e refl)
shift_choice (K.Mark S.Minus) t e = taken (shift_after t.place true) (tame_shift_after t.place true) (λ rest. rw e refl)
shift_choice _ t e = kept (λ ts. Ok (None, ts)) (tame_ok (Option Shift) None) refl (λ rest. rw e refl)

tame_shift : Lookahead (Option Shift) shift_at
tame_shift = tame_choice (Option Shift) shift_at refl (λ t. shift_choice (key t.kind) t refl)

tame_negative : (place : ℕ) → Lookahead Expr (negative_at place)
tame_negative place = tame_bind Token Expr (one (λ k. is_number (key k))) _ (tame_one (λ k. is_number (key k))) (λ n. tame_ok Expr _)

tame_now : (place : ℕ) → Lookahead Expr (now_at place)
tame_now place = tame_bind (Option Shift) Expr shift_at _ tame_shift (λ s. tame_ok Expr _)

tame_today : (place : ℕ) → Lookahead Expr (today_at place)
tame_today place = tame_bind (Option Shift) Expr shift_at _ tame_shift (λ s. tame_ok Expr _)

tame_moment : Lookahead Expr moment_at
tame_moment = tame_bind Token Expr (one (λ k. is_text (key k))) _ (tame_one (λ k. is_text (key k))) (λ x.
    tame_bind (Option Shift) Expr shift_at _ tame_shift (λ s. tame_ok Expr _))

tame_field : (var : Token) → Lookahead Expr (field_at var)
tame_field var = tame_bind Token Expr (one (λ k. is_dot (key k))) _ (tame_one (λ k. is_dot (key k))) (λ d. tame_bind Token Expr
    (one is_word) _ (tame_one is_word) (λ n. tame_bind (Option Shift) Expr shift_at _ tame_shift (λ s. tame_ok Expr _)))

expr_choice : (k : Key) (t : Token) → key t.kind ≡ k → Choice Expr expr_at t
expr_choice K.Number t e = taken (λ rest. Ok (E.Number t.place (number_of_kind t.kind), rest)) (tame_ok Expr _) (λ rest. rw e refl)
expr_choice (K.Mark S.Minus) t e = taken (negative_at t.place) (tame_negative t.place) (λ rest. rw e refl)
expr_choice K.Str t e = taken (λ rest. Ok (E.Str t.place (bytes t.kind), rest)) (tame_ok Expr _) (λ rest. rw e refl)
expr_choice K.Now t e = taken (now_at t.place) (tame_now t.place) (λ rest. rw e refl)
expr_choice K.Today t e = taken (today_at t.place) (tame_today t.place) (λ rest. rw e refl)
expr_choice K.Time t e = taken moment_at tame_moment (λ rest. rw e refl)
expr_choice K.Name t e = taken (field_at t) (tame_field t) (λ rest. rw e refl)
expr_choice _ t e = refused (Unexpected t.place) refl (λ rest. rw e refl)

tame_expr : Lookahead Expr expr_at
tame_expr = tame_choice Expr expr_at refl (λ t. expr_choice (key t.kind) t refl)

has_choice : (b : Bool) (left : Expr) (t : Token) → is_plain left ≡ b → key t.kind ≡ K.Has → Choice Syntax (right_at left) t
has_choice true left t p e = taken (λ rest. expr_at rest >>= λ right. Ok (Has left t.place right.0, right.1))
    (tame_bind Expr Syntax expr_at _ tame_expr (λ right. tame_ok Syntax _)) (λ rest. rw (e, p) refl)
has_choice false left t p e = refused (Unexpected t.place) refl (λ rest. rw (e, p) refl)

right_choice : (k : Key) (left : Expr) (t : Token) → key t.kind ≡ k → Choice Syntax (right_at left) t
right_choice (K.Mark (S.Compare op)) left t e = taken (λ rest. expr_at rest >>= λ right. Ok (Compare left op t.place right.0, right.1))
    (tame_bind Expr Syntax expr_at _ tame_expr (λ right. tame_ok Syntax _)) (λ rest. rw e refl)
right_choice K.Has left t e = has_choice (is_plain left) left t refl e
right_choice _ left t e = refused (Unexpected t.place) refl (λ rest. rw e refl)

tame_right : (left : Expr) → Lookahead Syntax (right_at left)
tame_right left = tame_choice Syntax (right_at left) refl (λ t. right_choice (key t.kind) left t refl)

pub tame_compare : Lookahead Syntax compare_at
tame_compare = tame_bind Expr Syntax expr_at _ tame_expr (λ left. tame_right left)

module _ (sep : Key → Bool) (join : Syntax → Syntax → Syntax) (part : List Token → Read Syntax) (tame_part : Lookahead Syntax part) where
  tame_chain : (k : ℕ) (x : Syntax) → Lookahead Syntax (chain sep join part k x)
  tame_chain zero x = tame_ok Syntax x
  tame_chain (suc k) x = tame_choice Syntax (chain sep join part (suc k) x) refl (λ t.
      elim (sep (key t.kind)) as (λ b. sep (key t.kind) ≡ b → Choice Syntax (chain sep join part (suc k) x) t) [
        | true ↦ λ e. taken (λ rest. part rest >>= λ r. chain sep join part k (join x r.0) r.1)
            (tame_bind Syntax Syntax part _ tame_part (λ a. tame_chain k (join x a))) (λ rest. rw e refl)
        | false ↦ λ e. kept (λ ts. Ok (x, ts)) (tame_ok Syntax x) refl (λ rest. rw e refl)
      ] refl)

  tame_chained : Shrinks part → (x : Syntax) → Lookahead Syntax (chained sep join part x)
  tame_chained sh x = record {
    spent = refl;
    out = λ t b r s m.
        let k = length b + length r + length s in
        three Syntax part t _ _ _ (chain sep join part k x b) (chain sep join part k x r) (chain sep join part k x s)
        (same sep join part sh (length b) k x b (omega arith) (omega arith))
        (same sep join part sh (length r) k x r (omega arith) (omega arith))
        (same sep join part sh (length s) k x s (omega arith) (omega arith)) ((tame_chain k x).out t b r s m);
  }

module _ (n : ℕ) (tame_unit : Lookahead Syntax (unit_at n)) where
  tame_conj : Lookahead Syntax (conj_with (unit_at n))
  tame_conj = tame_bind Syntax Syntax (unit_at n) _ tame_unit (λ x. tame_chained is_and And (unit_at n) tame_unit (unit_shrinks n) x)

  tame_cond : Lookahead Syntax (cond_with (unit_at n))
  tame_cond = tame_bind Syntax Syntax (conj_with (unit_at n)) _ tame_conj (λ x.
      tame_chained is_or Or (conj_with (unit_at n)) tame_conj (conj_shrinks n) x)

  tame_group : Lookahead Syntax (group_with (unit_at n))
  tame_group = tame_bind Syntax Syntax (cond_with (unit_at n)) _ tame_cond (λ x.
      tame_bind Token Syntax (one (λ k. is_close (key k))) _ (tame_one (λ k. is_close (key k))) (λ c. tame_ok Syntax x))

  pub tame_head : Lookahead (Token × Table) head_at
  tame_head = tame_bind Token (Token × Table) (one (λ k. is_open (key k))) _ (tame_one (λ k. is_open (key k))) (λ o.
      tame_bind Token (Token × Table) (one (λ k. is_name_key (key k))) _ (tame_one (λ k. is_name_key (key k))) (λ v.
      tame_bind Token (Token × Table) (one (λ k. is_colon (key k))) _ (tame_one (λ k. is_colon (key k))) (λ c.
      tame_bind Table (Token × Table) table_at _ tame_table (λ w. tame_bind Token (Token × Table) (one (λ k. is_where (key k))) _
      (tame_one (λ k. is_where (key k))) (λ z. tame_ok (Token × Table) _)))))

  tame_exists : Lookahead Syntax (exists_with (unit_at n))
  tame_exists = tame_bind (Token × Table) Syntax head_at _ tame_head (λ h.
      tame_bind Syntax Syntax (group_with (unit_at n)) _ tame_group (λ x. tame_ok Syntax _))

  tame_not : Lookahead Syntax (not_with (unit_at n))
  tame_not = tame_bind Syntax Syntax (unit_at n) _ tame_unit (λ x. tame_ok Syntax _)

  suc_choice : (o : Opening) (t : Token) → opening (key t.kind) ≡ o → Choice Syntax (unit_at (suc n)) t
  suc_choice O.Negation t e = taken (not_with (unit_at n)) tame_not (λ rest. at_suc n t rest O.Negation e)
  suc_choice O.Group t e = taken (group_with (unit_at n)) tame_group (λ rest. at_suc n t rest O.Group e)
  suc_choice O.Quantifier t e = taken (exists_with (unit_at n)) tame_exists (λ rest. at_suc n t rest O.Quantifier e)
  suc_choice O.Truth t e = taken (λ rest. Ok (True, rest)) (tame_ok Syntax True) (λ rest. at_suc n t rest O.Truth e)
  suc_choice O.Falsity t e = taken (λ rest. Ok (False, rest)) (tame_ok Syntax False) (λ rest. at_suc n t rest O.Falsity e)
  suc_choice O.End t e = kept compare_at tame_compare (unit_end (suc n) [] refl) (λ rest. at_suc n t rest O.End e)
  suc_choice O.Comparison t e = kept compare_at tame_compare (unit_end (suc n) [] refl) (λ rest. at_suc n t rest O.Comparison e)

zero_choice : (o : Opening) (t : Token) → opening (key t.kind) ≡ o → Choice Syntax (unit_at 0) t
zero_choice O.Negation t e = refused (Deep t.place) refl (λ rest. at_zero t rest O.Negation e)
zero_choice O.Group t e = refused (Deep t.place) refl (λ rest. at_zero t rest O.Group e)
zero_choice O.Quantifier t e = refused (Deep t.place) refl (λ rest. at_zero t rest O.Quantifier e)
zero_choice O.Truth t e = taken (λ rest. Ok (True, rest)) (tame_ok Syntax True) (λ rest. at_zero t rest O.Truth e)
zero_choice O.Falsity t e = taken (λ rest. Ok (False, rest)) (tame_ok Syntax False) (λ rest. at_zero t rest O.Falsity e)
zero_choice O.End t e = kept compare_at tame_compare (unit_end 0 [] refl) (λ rest. at_zero t rest O.End e)
zero_choice O.Comparison t e = kept compare_at tame_compare (unit_end 0 [] refl) (λ rest. at_zero t rest O.Comparison e)

unit_spent : (n : ℕ) → Spent (unit_at n [])
unit_spent n = let e : unit_at n [] ≡ Err Ended = unit_end n [] refl in subst (λ (r : Read Syntax). Spent r) (sym e) refl

pub tame_unit_at : (n : ℕ) → Lookahead Syntax (unit_at n)
tame_unit_at zero = tame_choice Syntax (unit_at 0) (unit_spent 0) (λ t. zero_choice (opening (key t.kind)) t refl)
tame_unit_at (suc n) =
    tame_choice Syntax (unit_at (suc n)) (unit_spent (suc n)) (λ t. suc_choice n (tame_unit_at n) (opening (key t.kind)) t refl)

pub tame_cond_at : (n : ℕ) → Lookahead Syntax (cond_at n)
tame_cond_at n = tame_cond n (tame_unit_at n)
