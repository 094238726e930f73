-- The canonical text of a query reads back.
use Rattle.std.proofs.Common.{◌≡◌, ◌∙◌, ap, refl, subst, arith, ℕ, zero, suc, List, [], ◌∷◌, ◌++◌, ◌≤◌, length, codes, Bool, true, false}
use Rattle.std.proofs.Common.{Ok, if◌then◌else◌}
use Rattle.std.specs.Prelude.{nat_lt, nat_le}
use Rattle.std.proofs.lemmas.List.{append-nil}
use Rattle.std.proofs.lemmas.Bool.Decides.{nat_tests}
use Rattle.tap_base.specs.declared.numbers.Op.{Op}
use Rattle.tap_base.specs.declared.numbers.Op.TheVariants as P
use Rattle.tql_lex.specs.declared.sign.Sign.TheVariants as S
use Rattle.tql_lex.specs.declared.kind.Kind.TheVariants as W
use Rattle.tql_lex.specs.declared.token.Token.{Token}
use Rattle.tql_lex.specs.Tokens.{lexed}
use Rattle.tql_lex.specs.Spelling.{Spells, word_is, short_is, long_is, AreTokens, none as no_token}
use Rattle.tql_lex.proofs.Spelled.{are_lexed}
use Rattle.tql_lex.proofs.Spelling.{lexed_are}
use Rattle.tql_tree.specs.declared.table.Table.{Table}
use Rattle.tql_tree.specs.declared.table.Table.TheVariants.{Docs, Notes}
use Rattle.tql_tree.specs.declared.expr.Expr.{Expr}
use Rattle.tql_tree.specs.Syntax.{Syntax, True, False, Or, And, Not, Exists, Compare, Has}
use Rattle.tql_tree.specs.Canonical.{text_of_table, text_of_op, text_of_expr, strength, parenthesized, canonical}
use Rattle.tql_tree.specs.Places.{plain_expr, plain}
use Rattle.tql_parse.specs.declared.key.Key.TheVariants as K
use Rattle.tql_parse.specs.Keys.{word_key, bytes, is_name_key, is_and, is_or, is_where, is_open, is_close, is_colon}
use Rattle.tql_tree.specs.Proper.{is_plain}
use Rattle.tql_parse.specs.Grammar.{IsExpr, IsTable, docs, notes, IsCompare, compare, has, GrammarPart, Cond, Conj, One, Reads, conj_alone}
use Rattle.tql_parse.specs.Grammar.{or_conj, unit_alone, and_unit, not_unit, group, true_is, false_is, exists_is, compare_is}
use Rattle.tql_parse.specs.Grammar.{AreQueryTokens}
use Rattle.tql_parse.specs.RoundTrip.{ReadsAs}
use Rattle.tql_parse.proofs.TokenBounds.{IsVar, GoodExpr, TokenBounds, are_of_text, reads_good}
use Rattle.tql_parse.proofs.ExprRoundTrip.{Lexes, Next, next, ExprRoundTrip, put, skip, turn, nest, closes, closes_ends, open_ends, is_key}
use Rattle.tql_parse.proofs.ExprRoundTrip.{ExprBack, expr_back, name_key}

-- the part of the grammar that a query is without parentheses
abbrev part_of : Syntax → GrammarPart
part_of (Or l r) = Cond
part_of (And l r) = Conj
part_of _ = One

abbrev rank : GrammarPart → ℕ
rank Cond = 0
rank Conj = 1
rank One = 2

-- does it stand in parentheses as this part?
abbrev weaker : Syntax → ℕ → Bool
weaker x k = nat_lt (strength x) k

-- parentheses open a level
abbrev wrapped : Bool → ℕ → ℕ
wrapped true n = suc n
wrapped false n = n

abbrev most_of : ℕ → ℕ → ℕ
most_of a b = if nat_le a b then b else a

-- the levels of the canonical text
abbrev levels : Syntax → ℕ
levels True = 0
levels False = 0
levels (Or l r) = most_of (levels l) (wrapped (weaker r 1) (levels r))
levels (And l r) = most_of (wrapped (weaker l 1) (levels l)) (wrapped (weaker r 2) (levels r))
levels (Not x) = suc (wrapped (weaker x 2) (levels x))
levels (Exists var place table body) = suc (levels body)
levels (Compare left op place right) = 0
levels (Has left place right) = 0

most_fits : (a b n : ℕ) → a ≤ n → b ≤ n → most_of a b ≤ n
most_fits a b n p q = grind (arith, nat_tests)

left_fits : (a b n : ℕ) → most_of a b ≤ n → a ≤ n
left_fits a b n p = grind (arith, nat_tests)

right_fits : (a b n : ℕ) → most_of a b ≤ n → b ≤ n
right_fits a b n p = grind (arith, nat_tests)

-- what stands in parentheses as a weaker part does so as a stronger one
less_wrapped : (s k m l n : ℕ) → k ≤ m → wrapped (nat_lt s m) l ≤ n → wrapped (nat_lt s k) l ≤ n
less_wrapped s k m l n le h = go (nat_lt s k) (nat_lt s m) refl refl h
  where
    go : (a b : Bool) → nat_lt s k ≡ a → nat_lt s m ≡ b → wrapped b l ≤ n → wrapped a l ≤ n
    go true true e f h = h
    go true false e f h = absurd (grind (arith, nat_tests))
    go false true e f h = omega (arith, h)
    go false false e f h = h

any_wrapped : (b : Bool) (l n : ℕ) → l ≤ n → wrapped b l ≤ suc n
any_wrapped true l n h = omega arith
any_wrapped false l n h = omega arith

none_weaker : (x : Syntax) (l n : ℕ) → wrapped (nat_lt (strength x) 0) l ≤ n → l ≤ n
none_weaker True l n h = h
none_weaker False l n h = h
none_weaker (Or a b) l n h = h
none_weaker (And a b) l n h = h
none_weaker (Not a) l n h = h
none_weaker (Exists v p t a) l n h = h
none_weaker (Compare a o p b) l n h = h
none_weaker (Has a p b) l n h = h

from_none : (x : Syntax) (l n : ℕ) → l ≤ n → wrapped (nat_lt (strength x) 0) l ≤ n
from_none True l n h = h
from_none False l n h = h
from_none (Or a b) l n h = h
from_none (And a b) l n h = h
from_none (Not a) l n h = h
from_none (Exists v p t a) l n h = h
from_none (Compare a o p b) l n h = h
from_none (Has a p b) l n h = h

compare_levels : (ts : List Token) (x : Syntax) (rest : List Token) → IsCompare ts x rest → (n : ℕ) → wrapped (weaker x 2) (levels x) ≤ n
compare_levels ts x rest (compare us l o op mid r after a b c) n = omega arith
compare_levels ts x rest (has us l o mid r after a p b c) n = omega arith

-- the canonical text has no more levels than were read
read_levels : (p : GrammarPart) (n : ℕ) (ts : List Token) (x : Syntax) (rest : List Token) → Reads p n ts x rest
    → wrapped (weaker x (rank p)) (levels x) ≤ n
read_levels p n ts x rest (conj_alone m us y r h) = less_wrapped (strength y) 0 1 (levels y) m (omega arith) (read_levels Conj m us y r h)
read_levels p n ts x rest (or_conj m us l o mid y r a b c) = most_fits (levels l) (wrapped (weaker y 1) (levels y)) m
    (none_weaker l (levels l) m (read_levels Cond m us l (o ∷ mid) a)) (read_levels Conj m mid y r c)
read_levels p n ts x rest (unit_alone m us y r h) = less_wrapped (strength y) 1 2 (levels y) m (omega arith) (read_levels One m us y r h)
read_levels p n ts x rest (and_unit m us l o mid y r a b c) = most_fits (wrapped (weaker l 1) (levels l)) (wrapped (weaker y 2) (levels y))
    m (read_levels Conj m us l (o ∷ mid) a) (read_levels One m mid y r c)
read_levels p n ts x rest (not_unit m t us y r k h) = let i = read_levels One m us y r h in omega (arith, i)
read_levels p n ts x rest (group m t us y close r k h c) =
    any_wrapped (weaker y 2) (levels y) m (none_weaker y (levels y) m (read_levels Cond m us y (close ∷ r) h))
read_levels p n ts x rest (true_is m t r k) = omega arith
read_levels p n ts x rest (false_is m t r k) = omega arith
read_levels p n ts x rest (exists_is m t o v co ta wh which us y close r a b c d e f g h) =
    let i = none_weaker y (levels y) m (read_levels Cond m us y (close ∷ r) g) in
    omega (arith, i)
read_levels p n ts x rest (compare_is m us y r h) = compare_levels us y r h m

-- a query is read back as this part
abbrev TreeBack : GrammarPart → ℕ → Syntax → (List Token → Type 0) → List Token → Type 0
TreeBack p n x Q ts = ExprRoundTrip Syntax (Reads p n) (λ y. plain y ≡ plain x) Q ts

abbrev Reader : GrammarPart → ℕ → Syntax → List ℕ → Type 1
Reader p n x text = (rest : List ℕ) (Q : List Token → Type 0) → closes rest ≡ true → Lexes rest Q → Lexes (text ++ rest) (TreeBack p n x Q)

module _ (n : ℕ) (x : Syntax) (Q : List Token → Type 0) where
  as_conj : (ts : List Token) → TreeBack One n x Q ts → TreeBack Conj n x Q ts
  as_conj ts b = record { value = b.value; rest = b.rest; reads = unit_alone n ts b.value b.rest b.reads; same = b.same; after = b.after }

  as_cond : (ts : List Token) → TreeBack Conj n x Q ts → TreeBack Cond n x Q ts
  as_cond ts b = record { value = b.value; rest = b.rest; reads = conj_alone n ts b.value b.rest b.reads; same = b.same; after = b.after }

  grouped : (t : Token) (us : List Token) (y : Syntax) (r : List Token) → t.kind ≡ W.Mark S.Open → Reads Cond n us y r → plain y ≡ plain x
      → Next (W.Mark S.Close) Q r → TreeBack One (suc n) x Q (t ∷ us)
  grouped t us y r e h s (next close vs f q) =
      record {
        value = y;
        rest = vs;
        reads = group n t us y close vs (is_key t (W.Mark S.Open) (K.Mark S.Open) e refl) h
            (ap is_close (is_key close (W.Mark S.Close) (K.Mark S.Close) f refl));
        same = s;
        after = q;
      }

  made_group : (ts : List Token) → Next (W.Mark S.Open) (TreeBack Cond n x (Next (W.Mark S.Close) Q)) ts → TreeBack One (suc n) x Q ts
  made_group ts (next t us e b) = grouped t us b.value b.rest e b.reads b.same b.after

-- a part is also each weaker one
lifted : (p q : GrammarPart) (n : ℕ) (x : Syntax) (text : List ℕ) → rank q ≤ rank p → Reader p n x text → Reader q n x text
lifted Cond Cond n x text le h = h
lifted Cond Conj n x text le h = absurd (omega arith)
lifted Cond One n x text le h = absurd (omega arith)
lifted Conj Cond n x text le h = λ rest Q c l. turn _ _ _ (as_cond n x Q) (h rest Q c l)
lifted Conj Conj n x text le h = h
lifted Conj One n x text le h = absurd (omega arith)
lifted One Cond n x text le h = λ rest Q c l. turn _ _ _ (as_cond n x Q) (turn _ _ _ (as_conj n x Q) (h rest Q c l))
lifted One Conj n x text le h = λ rest Q c l. turn _ _ _ (as_conj n x Q) (h rest Q c l)
lifted One One n x text le h = h

in_parentheses : (n : ℕ) (x : Syntax) (text : List ℕ) → Reader Cond n x text → Reader One (suc n) x (parenthesized true text)
in_parentheses n x text h = λ rest Q c l.
    nest (40 ∷ text) (41 ∷ []) rest _
    (turn _ _ _ (made_group n x Q) (put (40 ∷ []) (text ++ (41 ∷ rest)) (W.Mark S.Open) (TreeBack Cond n x (Next (W.Mark S.Close) Q))
    (short_is 40 S.Open refl) (open_ends (text ++ (41 ∷ rest))) (h (41 ∷ rest) (Next (W.Mark S.Close) Q) refl
    (put (41 ∷ []) rest (W.Mark S.Close) Q (short_is 41 S.Close refl) (closes_ends (W.Mark S.Close) rest c) l))))

strength_is : (x : Syntax) → strength x ≡ rank (part_of x)
strength_is True = refl
strength_is False = refl
strength_is (Or a b) = refl
strength_is (And a b) = refl
strength_is (Not a) = refl
strength_is (Exists v p t a) = refl
strength_is (Compare a o p b) = refl
strength_is (Has a p b) = refl

cond_least : (p : GrammarPart) → 0 ≤ rank p
cond_least p = omega arith

one_most : (p : GrammarPart) → rank p ≤ 2
one_most Cond = omega arith
one_most Conj = omega arith
one_most One = omega arith

-- in parentheses if it must be
wrap_reader : (x : Syntax) (p : GrammarPart) (n : ℕ) → ((m : ℕ) → levels x ≤ m → Reader (part_of x) m x (canonical x))
    → wrapped (weaker x (rank p)) (levels x) ≤ n → Reader p n x (parenthesized (weaker x (rank p)) (canonical x))
wrap_reader x p n h fits = go (weaker x (rank p)) refl n fits
  where
    go : (b : Bool) → weaker x (rank p) ≡ b → (n : ℕ) → wrapped b (levels x) ≤ n → Reader p n x (parenthesized b (canonical x))
    go true e zero fits = absurd (omega (arith, fits))
    go true e (suc n) fits = lifted One p (suc n) x (parenthesized true (canonical x)) (one_most p)
        (in_parentheses n x (canonical x) (lifted (part_of x) Cond n x (canonical x) (cond_least (part_of x)) (h n (omega (arith, fits)))))
    go false e n fits = let s = strength_is x in lifted (part_of x) p n x (canonical x) (grind (arith, nat_tests)) (h n fits)

module _ (n : ℕ) (Q : List Token → Type 0) where
  made_true : (ts : List Token) → Next (W.Word (codes "true")) Q ts → TreeBack One n True Q ts
  made_true ts (next t us e q) =
      record { value = True; rest = us; reads = true_is n t us (is_key t (W.Word (codes "true")) K.True e refl); same = refl; after = q }

  made_false : (ts : List Token) → Next (W.Word (codes "false")) Q ts → TreeBack One n False Q ts
  made_false ts (next t us e q) = record {
    value = False;
    rest = us;
    reads = false_is n t us (is_key t (W.Word (codes "false")) K.False e refl);
    same = refl;
    after = q;
  }

  made_not : (x : Syntax) (ts : List Token) → Next (W.Word (codes "not")) (TreeBack One n x Q) ts → TreeBack One (suc n) (Not x) Q ts
  made_not x ts (next t us e b) = record {
    value = Not b.value;
    rest = b.rest;
    reads =
        not_unit n t us b.value b.rest (is_key t (W.Word (codes "not")) K.Not e refl) b.reads;
    same = ap Not b.same;
    after = b.after;
  }

  or_by : (l r : Syntax) (ts : List Token) (y : Syntax) (us : List Token) → Reads Cond n ts y us → plain y ≡ plain l
      → Next (W.Word (codes "or")) (TreeBack Conj n r Q) us → TreeBack Cond n (Or l r) Q ts
  or_by l r ts y us h s (next o vs e b) = record {
    value = Or y b.value;
    rest = b.rest;
    reads = or_conj n ts y o vs b.value b.rest h
        (ap is_or (is_key o (W.Word (codes "or")) K.Or e refl)) b.reads;
    same = rw (s, b.same) refl;
    after = b.after;
  }

  made_or : (l r : Syntax) (ts : List Token) → TreeBack Cond n l (Next (W.Word (codes "or")) (TreeBack Conj n r Q)) ts
      → TreeBack Cond n (Or l r) Q ts
  made_or l r ts b = or_by l r ts b.value b.rest b.reads b.same b.after

  and_by : (l r : Syntax) (ts : List Token) (y : Syntax) (us : List Token) → Reads Conj n ts y us → plain y ≡ plain l
      → Next (W.Word (codes "and")) (TreeBack One n r Q) us → TreeBack Conj n (And l r) Q ts
  and_by l r ts y us h s (next o vs e b) = record {
    value = And y b.value;
    rest = b.rest;
    reads = and_unit n ts y o vs b.value b.rest h
        (ap is_and (is_key o (W.Word (codes "and")) K.And e refl)) b.reads;
    same = rw (s, b.same) refl;
    after = b.after;
  }

  made_and : (l r : Syntax) (ts : List Token) → TreeBack Conj n l (Next (W.Word (codes "and")) (TreeBack One n r Q)) ts
      → TreeBack Conj n (And l r) Q ts
  made_and l r ts b = and_by l r ts b.value b.rest b.reads b.same b.after

  compare_by : (l r : Expr) (op : Op) (p : ℕ) (ts : List Token) (e : Expr) (us : List Token) → IsExpr ts e us → plain_expr e ≡ plain_expr l
      → Next (W.Mark (S.Compare op)) (ExprBack r Q) us → TreeBack One n (Compare l op p r) Q ts
  compare_by l r op p ts e us h s (next o vs f b) =
      record {
        value = Compare e op o.place b.value;
        rest = b.rest;
        reads = compare_is n ts (Compare e op o.place b.value)
            b.rest (compare ts e o op vs b.value b.rest h (is_key o (W.Mark (S.Compare op)) (K.Mark (S.Compare op)) f refl) b.reads);
        same = rw (s, b.same.0) refl;
        after = b.after;
      }

  made_compare : (l r : Expr) (op : Op) (p : ℕ) (ts : List Token) → ExprBack l (Next (W.Mark (S.Compare op)) (ExprBack r Q)) ts
      → TreeBack One n (Compare l op p r) Q ts
  made_compare l r op p ts b = compare_by l r op p ts b.value b.rest b.reads b.same.0 b.after

  has_by : (l r : Expr) (p : ℕ) (ts : List Token) (e : Expr) (us : List Token) → IsExpr ts e us → plain_expr e ≡ plain_expr l
      → is_plain e ≡ true → Next (W.Word (codes "has")) (ExprBack r Q) us → TreeBack One n (Has l p r) Q ts
  has_by l r p ts e us h s i (next o vs f b) = record {
    value = Has e o.place b.value;
    rest = b.rest;
    reads = compare_is n ts
        (Has e o.place b.value) b.rest (has ts e o vs b.value b.rest h i (is_key o (W.Word (codes "has")) K.Has f refl) b.reads);
    same = rw (s, b.same.0) refl;
    after = b.after;
  }

  made_has : (l r : Expr) (p : ℕ) → is_plain l ≡ true → (ts : List Token) → ExprBack l (Next (W.Word (codes "has")) (ExprBack r Q)) ts
      → TreeBack One n (Has l p r) Q ts
  made_has l r p i ts b = has_by l r p ts b.value b.rest b.reads b.same.0 (b.same.1 ∙ i) b.after

op_spelled : (op : Op) → Spells (text_of_op op) (W.Mark (S.Compare op))
op_spelled P.Eq = short_is 61 (S.Compare P.Eq) refl
op_spelled P.Ne = long_is 60 62 (S.Compare P.Ne) refl
op_spelled P.Lt = short_is 60 (S.Compare P.Lt) refl
op_spelled P.Le = long_is 60 61 (S.Compare P.Le) refl
op_spelled P.Gt = short_is 62 (S.Compare P.Gt) refl
op_spelled P.Ge = long_is 62 61 (S.Compare P.Ge) refl

abbrev word_of_table : Table → List ℕ
word_of_table Docs = codes "doc"
word_of_table Notes = codes "note"

table_spelled : (t : Table) → Spells (text_of_table t) (W.Word (word_of_table t))
table_spelled Docs = word_is 68 (codes "OC") refl refl
table_spelled Notes = word_is 78 (codes "OTE") refl refl

table_of : (u : Token) (t : Table) → u.kind ≡ W.Word (word_of_table t) → IsTable u t
table_of u Docs e = docs u (is_key u (W.Word (codes "doc")) K.Doc e refl)
table_of u Notes e = notes u (is_key u (W.Word (codes "note")) K.Note e refl)

-- from EXISTS to its `)`
abbrev ExistsNext : ℕ → List ℕ → Table → Syntax → (List Token → Type 0) → List Token → Type 0
ExistsNext n var t x Q = Next (W.Word (codes "exists")) (Next (W.Mark S.Open) (Next (W.Word var) (Next (W.Mark S.Colon)
    (Next (W.Word (word_of_table t)) (Next (W.Word (codes "where")) (TreeBack Cond n x (Next (W.Mark S.Close) Q)))))))

module _ (n : ℕ) (var : List ℕ) (p : ℕ) (table : Table) (x : Syntax) (Q : List Token → Type 0) (k : word_key var ≡ K.Name) where
  exists_by : (t o v c u w : Token) (ts : List Token) (y : Syntax) (r : List Token) → t.kind ≡ W.Word (codes "exists")
      → o.kind ≡ W.Mark S.Open → v.kind ≡ W.Word var → c.kind ≡ W.Mark S.Colon → u.kind ≡ W.Word (word_of_table table)
      → w.kind ≡ W.Word (codes "where") → Reads Cond n ts y r → plain y ≡ plain x → Next (W.Mark S.Close) Q r
      → TreeBack One (suc n) (Exists var p table x) Q (t ∷ o ∷ v ∷ c ∷ u ∷ w ∷ ts)
  exists_by t o v c u w ts y r e1 e2 e3 e4 e5 e6 h s (next close vs f q) = record {
    value = Exists (bytes v.kind) v.place table y;
    rest = vs;
    reads = exists_is n t o v c u w table ts y close vs (is_key t (W.Word (codes "exists")) K.Exists e1 refl)
        (ap is_open (is_key o (W.Mark S.Open) (K.Mark S.Open) e2 refl)) (ap is_name_key (is_key v (W.Word var) K.Name e3 k))
        (ap is_colon (is_key c (W.Mark S.Colon) (K.Mark S.Colon) e4 refl)) (table_of u table e5)
        (ap is_where (is_key w (W.Word (codes "where")) K.Where e6 refl)) h
        (ap is_close (is_key close (W.Mark S.Close) (K.Mark S.Close) f refl));
    same = rw (e3, s) refl;
    after = q;
  }

  made_exists : (ts : List Token) → ExistsNext n var table x Q ts → TreeBack One (suc n) (Exists var p table x) Q ts
  made_exists ts (next t us e1 (next o vs e2 (next v ws e3 (next c xs e4 (next u ys e5 (next w zs e6 b)))))) =
      exists_by t o v c u w zs b.value b.rest e1 e2 e3 e4 e5 e6 b.reads b.same b.after

exists_reader : (n : ℕ) (var : List ℕ) (p : ℕ) (table : Table) (x : Syntax) → IsVar var → Reader Cond n x (canonical x)
    → Reader One (suc n) (Exists var p table x) (canonical (Exists var p table x))
exists_reader n var p table x g h rest Q c l =
    let b = canonical x in
    let t = text_of_table table in
    let where_is = codes " WHERE " in
    let tail = b ++ (41 ∷ rest) in
    let head = codes "EXISTS (" in
    let body : Lexes tail (TreeBack Cond n x (Next (W.Mark S.Close) Q)) = h (41 ∷ rest) (Next (W.Mark S.Close) Q) refl
    (put (41 ∷ []) rest (W.Mark S.Close) Q (short_is 41 S.Close refl) (closes_ends (W.Mark S.Close) rest c) l) in
    let after_table = skip 32 _ _ refl (put (codes "WHERE") (32 ∷ tail) (W.Word (codes "where")) _ (word_is 87 (codes "HERE") refl refl)
    refl (skip 32 tail _ refl body)) in
    let from_table = put t (where_is ++ tail) (W.Word (word_of_table table)) _ (table_spelled table) refl after_table in
    let from_colon =
    put (58 ∷ []) (32 ∷ (t ++ (where_is ++ tail))) (W.Mark S.Colon) _ (short_is 58 S.Colon refl) refl (skip 32 _ _ refl from_table) in
    let from_var = put var (58 ∷ 32 ∷ (t ++ (where_is ++ tail))) (W.Word var) _ g.0 refl from_colon in
    let from_open = put (40 ∷ []) (var ++ (58 ∷ 32 ∷ (t ++ (where_is ++ tail)))) (W.Mark S.Open) _ (short_is 40 S.Open refl)
    (open_ends (var ++ (58 ∷ 32 ∷ (t ++ (where_is ++ tail))))) from_var in
    let whole = put (codes "EXISTS") (32 ∷ 40 ∷ (var ++ (58 ∷ 32 ∷ (t ++ (where_is ++ tail))))) (W.Word (codes "exists")) _
    (word_is 69 (codes "XISTS") refl refl) refl (skip 32 _ _ refl from_open) in
    nest (((((head ++ var) ++ (58 ∷ 32 ∷ [])) ++ t) ++ where_is) ++ b) (41 ∷ []) rest _ (nest
    ((((head ++ var) ++ (58 ∷ 32 ∷ [])) ++ t) ++ where_is) b (41 ∷ rest) _ (nest (((head ++ var) ++ (58 ∷ 32 ∷ [])) ++ t) where_is tail
    _ (nest ((head ++ var) ++ (58 ∷ 32 ∷ [])) t (where_is ++ tail) _ (nest (head ++ var) (58 ∷ 32 ∷ []) (t ++ (where_is ++ tail)) _
    (turn _ _ _ (made_exists n var p table x Q (name_key (word_key var) g.1)) whole)))))

or_reader : (n : ℕ) (l r : Syntax) → Reader Cond n l (canonical l) → Reader Conj n r (parenthesized (weaker r 1) (canonical r))
    → Reader Cond n (Or l r) (canonical (Or l r))
or_reader n l r h k rest Q c a =
    let s = parenthesized (weaker r 1) (canonical r) in
    let right = k rest Q c a in
    let from_or = skip 32 _ _ refl (put (codes "OR") (32 ∷ (s ++ rest)) (W.Word (codes "or")) (TreeBack Conj n r Q)
    (word_is 79 (codes "R") refl refl) refl (skip 32 _ _ refl right)) in
    nest (canonical l ++ codes " OR ") s rest _ (nest (canonical l) (codes " OR ") (s ++ rest) _
    (turn _ _ _ (made_or n Q l r) (h (codes " OR " ++ (s ++ rest)) (Next (W.Word (codes "or")) (TreeBack Conj n r Q)) refl from_or)))

and_reader : (n : ℕ) (l r : Syntax) → Reader Conj n l (parenthesized (weaker l 1) (canonical l))
    → Reader One n r (parenthesized (weaker r 2) (canonical r)) → Reader Conj n (And l r) (canonical (And l r))
and_reader n l r h k rest Q c a =
    let f = parenthesized (weaker l 1) (canonical l) in
    let s = parenthesized (weaker r 2) (canonical r) in
    let right = k rest Q c a in
    let from_and = skip 32 _ _ refl (put (codes "AND") (32 ∷ (s ++ rest)) (W.Word (codes "and")) (TreeBack One n r Q)
    (word_is 65 (codes "ND") refl refl) refl (skip 32 _ _ refl right)) in
    nest (f ++ codes " AND ") s rest _ (nest f (codes " AND ") (s ++ rest) _
    (turn _ _ _ (made_and n Q l r) (h (codes " AND " ++ (s ++ rest)) (Next (W.Word (codes "and")) (TreeBack One n r Q)) refl from_and)))

compare_reader : (n : ℕ) (l r : Expr) (op : Op) (p : ℕ) → GoodExpr l → GoodExpr r
    → Reader One n (Compare l op p r) (canonical (Compare l op p r))
compare_reader n l r op p g h rest Q c a =
    let f = text_of_expr l in
    let o = text_of_op op in
    let s = text_of_expr r in
    let right = expr_back r h rest Q c a in
    let from_op = put o (32 ∷ (s ++ rest)) (W.Mark (S.Compare op)) (ExprBack r Q) (op_spelled op)
    (closes_ends (W.Mark (S.Compare op)) (32 ∷ (s ++ rest)) refl) (skip 32 _ _ refl right) in
    nest (((f ++ (32 ∷ [])) ++ o) ++ (32 ∷ [])) s rest _ (nest ((f ++ (32 ∷ [])) ++ o) (32 ∷ []) (s ++ rest) _
    (nest (f ++ (32 ∷ [])) o (32 ∷ (s ++ rest)) _ (nest f (32 ∷ []) (o ++ (32 ∷ (s ++ rest))) _
    (turn _ _ _ (made_compare n Q l r op p)
    (expr_back l g (32 ∷ (o ++ (32 ∷ (s ++ rest)))) (Next (W.Mark (S.Compare op)) (ExprBack r Q)) refl (skip 32 _ _ refl from_op))))))

has_reader : (n : ℕ) (l r : Expr) (p : ℕ) → GoodExpr l → is_plain l ≡ true → GoodExpr r → Reader One n (Has l p r) (canonical (Has l p r))
has_reader n l r p g i h rest Q c a =
    let f = text_of_expr l in
    let s = text_of_expr r in
    let right = expr_back r h rest Q c a in
    let from_has = skip 32 _ _ refl (put (codes "HAS") (32 ∷ (s ++ rest)) (W.Word (codes "has")) (ExprBack r Q)
    (word_is 72 (codes "AS") refl refl) refl (skip 32 _ _ refl right)) in
    nest (f ++ codes " HAS ") s rest _ (nest f (codes " HAS ") (s ++ rest) _ (turn _ _ _ (made_has n Q l r p i)
    (expr_back l g (codes " HAS " ++ (s ++ rest)) (Next (W.Word (codes "has")) (ExprBack r Q)) refl from_has)))

not_reader : (n : ℕ) (x : Syntax) → Reader One n x (parenthesized (weaker x 2) (canonical x))
    → Reader One (suc n) (Not x) (canonical (Not x))
not_reader n x h rest Q c l = turn _ _ _ (made_not n Q x) (put (codes "NOT") (32 ∷ (parenthesized (weaker x 2) (canonical x) ++ rest))
    (W.Word (codes "not")) (TreeBack One n x Q) (word_is 78 (codes "OT") refl refl) refl (skip 32 _ _ refl (h rest Q c l)))

true_reader : (n : ℕ) → Reader One n True (canonical True)
true_reader n rest Q c l = turn _ _ _ (made_true n Q)
    (put (codes "TRUE") rest (W.Word (codes "true")) Q (word_is 84 (codes "RUE") refl refl) (closes_ends (W.Word (codes "true")) rest c) l)

false_reader : (n : ℕ) → Reader One n False (canonical False)
false_reader n rest Q c l = turn _ _ _ (made_false n Q) (put (codes "FALSE") rest (W.Word (codes "false")) Q
    (word_is 70 (codes "ALSE") refl refl) (closes_ends (W.Word (codes "false")) rest c) l)

reader : (x : Syntax) → TokenBounds x → (n : ℕ) → levels x ≤ n → Reader (part_of x) n x (canonical x)
reader True g n le = true_reader n
reader False g n le = false_reader n
reader (Or l r) g n le = or_reader n l r (lifted (part_of l) Cond n l (canonical l) (cond_least (part_of l))
    (reader l g.0 n (left_fits (levels l) (wrapped (weaker r 1) (levels r)) n le)))
    (wrap_reader r Conj n (λ m h. reader r g.1 m h) (right_fits (levels l) (wrapped (weaker r 1) (levels r)) n le))
reader (And l r) g n le = and_reader n l r
    (wrap_reader l Conj n (λ m h. reader l g.0 m h) (left_fits (wrapped (weaker l 1) (levels l)) (wrapped (weaker r 2) (levels r)) n le))
    (wrap_reader r One n (λ m h. reader r g.1 m h) (right_fits (wrapped (weaker l 1) (levels l)) (wrapped (weaker r 2) (levels r)) n le))
reader (Not x) g zero le = absurd (omega (arith, le))
reader (Not x) g (suc n) le = not_reader n x (wrap_reader x One n (λ m h. reader x g m h) (omega (arith, le)))
reader (Exists var p table x) g zero le = absurd (omega (arith, le))
reader (Exists var p table x) g (suc n) le = exists_reader n var p table x
    g.0 (lifted (part_of x) Cond n x (canonical x) (cond_least (part_of x)) (reader x g.1 n (omega (arith, le))))
reader (Compare l op p r) g n le = compare_reader n l r op p g.0 g.1
reader (Has l p r) g n le = has_reader n l r p g.0 g.1 g.2

abbrev Over : List Token → Type 0
Over ts = ts ≡ []

over : Lexes [] Over
over place = ([], no_token place, refl)

-- a query of a text reads back from its canonical text
pub reads_back : (text : List ℕ) (tokens : List Token) (query : Syntax) → lexed text ≡ Ok tokens → AreQueryTokens 32 tokens query
    → length (canonical query) ≤ 4096 → ReadsAs (canonical query) query
reads_back text tokens query e h short =
    let good = (reads_good Cond 32 tokens query [] h (are_of_text 0 text tokens (lexed_are text tokens e))).0 in
    let few = none_weaker query (levels query) 32 (read_levels Cond 32 tokens query [] h) in
    let whole = lifted (part_of query) Cond 32 query (canonical query) (cond_least (part_of query)) (reader query good 32 few) [] Over refl
    over 0 in
    let F : List ℕ → Type 0 = λ text. AreTokens 0 text whole.0 in
    let b = whole.2 in
    let G : List Token → Type 0 = λ rest. Reads Cond 32 whole.0 b.value rest in
    record {
      tokens = whole.0;
      tree = b.value;
      lexes = are_lexed (canonical query) whole.0 short
          (subst F (append-nil (canonical query)) whole.1);
      is_query = subst G b.after b.reads;
      same = b.same;
    }
