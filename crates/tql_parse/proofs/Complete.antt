-- What is in the grammar is read.
use Rattle.std.proofs.Common.{◌≡◌, ◌∙◌, ap, refl, ℕ, List, [], ◌∷◌, true, false, Ok, Option, None}
use Rattle.tql_lex.specs.declared.sign.Sign.TheVariants as S
use Rattle.tql_lex.specs.declared.token.Token.{Token}
use Rattle.tql_tree.specs.declared.table.Table.{Table}
use Rattle.tql_tree.specs.declared.shift.Shift.{Shift}
use Rattle.tql_tree.specs.declared.expr.Expr.{Expr}
use Rattle.tql_tree.specs.Syntax.{Syntax, Or, And, Not}
use Rattle.tql_parse.specs.declared.key.Key.{Key}
use Rattle.tql_parse.specs.declared.key.Key.TheVariants as K
use Rattle.tql_parse.specs.declared.key.Opening.TheVariants as O
use Rattle.tql_parse.specs.Keys.{key, is_and, is_or, is_close, is_shift_sign, opening_of}
use Rattle.tql_parse.specs.Grammar.{forward, back, MayShift, none, some, IsExpr, number_is, negative, text_is, now, today, moment, field}
use Rattle.tql_parse.specs.Grammar.{IsTable, docs, notes, IsCompare, compare, has, GrammarPart, Cond, Conj, One, Reads, conj_alone, or_conj}
use Rattle.tql_parse.specs.Grammar.{unit_alone, and_unit, not_unit, group, true_is, false_is, exists_is, compare_is, AreQueryTokens}
use Rattle.tql_parse.specs.Reading.{Read, ◌>>=◌, one, table_at, shift_by, shift_at, expr_at, compare_at, chained, next_is, conj_with}
use Rattle.tql_parse.specs.Reading.{group_with, unit_at, conj_at, cond_at, query_at, end_of}
use Rattle.tql_parse.proofs.Chains.{chain_more, chain_ends}
use Rattle.tql_parse.proofs.Lengths.{unit_shrinks, conj_shrinks}
use Rattle.tql_parse.proofs.Units.{at_suc, unit_true, unit_false, unit_compare}

-- the next token is no sign of a shift
abbrev pub quiet : List Token → Type 0
quiet rest = next_is is_shift_sign rest ≡ false

pub no_shift : (k : Key) (t : Token) (rest : List Token) → is_shift_sign k ≡ false → shift_by k t rest ≡ Ok (None, t ∷ rest)
no_shift (K.Mark S.Plus) t rest e = absurd (cc)
no_shift (K.Mark S.Minus) t rest e = absurd (cc)
no_shift _ t rest e = refl

shift_is : (ts : List Token) (s : Option Shift) (rest : List Token) → MayShift ts s rest → quiet rest → shift_at ts ≡ Ok (s, rest)
shift_is ts s rest (none []) q = refl
shift_is ts s rest (none (t ∷ us)) q = no_shift (key t.kind) t us q
shift_is ts s rest (some us x r (forward sign count unit u after a b c)) q = rw (a, b, c) refl
shift_is ts s rest (some us x r (back sign count unit u after a b c)) q = rw (a, b, c) refl

expr_is : (ts : List Token) (e : Expr) (rest : List Token) → IsExpr ts e rest → quiet rest → expr_at ts ≡ Ok (e, rest)
expr_is ts e rest (number_is t r k) q = rw k refl
expr_is ts e rest (negative m t r a b) q = rw (a, b) refl
expr_is ts e rest (text_is t r k) q = rw k refl
expr_is ts e rest (now t us s r k h) q = rw (k, shift_is us s r h q) refl
expr_is ts e rest (today t us s r k h) q = rw (k, shift_is us s r h q) refl
expr_is ts e rest (moment t x us s r k w h) q = rw (k, w, shift_is us s r h q) refl
expr_is ts e rest (field v d f us s r k a b h) q = rw (k, a, b, shift_is us s r h q) refl

expr_first : (ts : List Token) (e : Expr) (rest : List Token) → IsExpr ts e rest → opening_of ts ≡ O.Comparison
expr_first ts e rest (number_is t r k) = rw k refl
expr_first ts e rest (negative m t r a b) = rw a refl
expr_first ts e rest (text_is t r k) = rw k refl
expr_first ts e rest (now t us s r k h) = rw k refl
expr_first ts e rest (today t us s r k h) = rw k refl
expr_first ts e rest (moment t x us s r k w h) = rw k refl
expr_first ts e rest (field v d f us s r k a b h) = rw k refl

compare_first : (ts : List Token) (x : Syntax) (rest : List Token) → IsCompare ts x rest → opening_of ts ≡ O.Comparison
compare_first ts x rest (compare us l o op mid r after a b c) = expr_first us l (o ∷ mid) a
compare_first ts x rest (has us l o mid r after a p b c) = expr_first us l (o ∷ mid) a

compare_is_read : (ts : List Token) (x : Syntax) (rest : List Token) → IsCompare ts x rest → quiet rest → compare_at ts ≡ Ok (x, rest)
compare_is_read ts x rest (compare us l o op mid r after a b c) q =
    let calm : quiet (o ∷ mid) = rw b refl in
    rw (expr_is us l (o ∷ mid) a calm, b, expr_is mid r after c q) refl
compare_is_read ts x rest (has us l o mid r after a p b c) q =
    let calm : quiet (o ∷ mid) = rw b refl in
    rw (expr_is us l (o ∷ mid) a calm, b, p, expr_is mid r after c q) refl

-- AND, OR and `)` begin no shift, and `)` joins nothing
pub or_quiet : (k : Key) → is_or k ≡ true → (is_shift_sign k ≡ false) × (is_and k ≡ false)
or_quiet K.Or e = (refl, refl)
or_quiet _ e = absurd (cc)

pub and_quiet : (k : Key) → is_and k ≡ true → is_shift_sign k ≡ false
and_quiet K.And e = refl
and_quiet _ e = absurd (cc)

pub close_quiet : (k : Key) → is_close k ≡ true → (is_shift_sign k ≡ false) × (is_and k ≡ false) × (is_or k ≡ false)
close_quiet (K.Mark S.Close) e = (refl, refl, refl)
close_quiet _ e = absurd (cc)

abbrev Claim : GrammarPart → ℕ → List Token → Syntax → List Token → Type 0
Claim One n ts x rest = quiet rest → unit_at n ts ≡ Ok (x, rest)
Claim Conj n ts x rest = quiet rest → conj_at n ts ≡ chained is_and And (unit_at n) x rest
Claim Cond n ts x rest = quiet rest → next_is is_and rest ≡ false → cond_at n ts ≡ chained is_or Or (conj_with (unit_at n)) x rest

conj_is : (n : ℕ) (ts : List Token) (x : Syntax) (rest : List Token) → Claim Conj n ts x rest → quiet rest → next_is is_and rest ≡ false
    → conj_at n ts ≡ Ok (x, rest)
conj_is n ts x rest h q a = chain_ends is_and And (unit_at n) x rest (conj_at n ts) a (h q)

cond_is : (n : ℕ) (ts : List Token) (x : Syntax) (rest : List Token) → Claim Cond n ts x rest → quiet rest → next_is is_and rest ≡ false
    → next_is is_or rest ≡ false → cond_at n ts ≡ Ok (x, rest)
cond_is n ts x rest h q a o = chain_ends is_or Or (conj_with (unit_at n)) x rest (cond_at n ts) o (h q a)

group_is : (n : ℕ) (ts : List Token) (x : Syntax) (close : Token) (rest : List Token) → Claim Cond n ts x (close ∷ rest)
    → is_close (key close.kind) ≡ true → group_with (unit_at n) ts ≡ Ok (x, rest)
group_is n ts x close rest h c =
    let k = close_quiet (key close.kind) c in
    ap (λ (r : Read Syntax). r >>= λ x. one (λ k. is_close (key k)) x.1 >>= λ close. Ok (x.0, close.1))
    (cond_is n ts x (close ∷ rest) h k.0 k.1 k.2) ∙ rw c refl

table_is : (t : Token) (which : Table) (rest : List Token) → IsTable t which → table_at (t ∷ rest) ≡ Ok (which, rest)
table_is t which rest (docs u k) = rw k refl
table_is t which rest (notes u k) = rw k refl

pub complete : (p : GrammarPart) (n : ℕ) (ts : List Token) (x : Syntax) (rest : List Token) → Reads p n ts x rest → Claim p n ts x rest
complete p n ts x rest (conj_alone m us y r h) = λ q a.
    ap (λ (r : Read Syntax). r >>= λ x. chained is_or Or (conj_with (unit_at m)) x.0 x.1) (conj_is m us y r (complete Conj m us y r h) q a)
complete p n ts x rest (or_conj m us l o mid y r a b c) = λ q e.
    let k = or_quiet (key o.kind) b in
    chain_more is_or Or (conj_with (unit_at m)) (conj_shrinks m) l y (o ∷ mid) r (cond_at m us) b (complete Cond m us l (o ∷ mid) a k.0 k.1)
    (conj_is m mid y r (complete Conj m mid y r c) q e)
complete p n ts x rest (unit_alone m us y r h) =
    λ q. ap (λ (r : Read Syntax). r >>= λ x. chained is_and And (unit_at m) x.0 x.1) (complete One m us y r h q)
complete p n ts x rest (and_unit m us l o mid y r a b c) = λ q.
    chain_more is_and And (unit_at m) (unit_shrinks m) l y (o ∷ mid) r (conj_at m us) b
    (complete Conj m us l (o ∷ mid) a (and_quiet (key o.kind) b)) (complete One m mid y r c q)
complete p n ts x rest (not_unit m t us y r k h) = λ q. at_suc m t us O.Negation (rw k refl)
    ∙ ap (λ (r : Read Syntax). r >>= λ x. Ok (Not x.0, x.1)) (complete One m us y r h q)
complete p n ts x rest (group m t us y close r k h c) = λ q. at_suc m t us O.Group (rw k refl)
    ∙ group_is m us y close r (complete Cond m us y (close ∷ r) h) c
complete p n ts x rest (true_is m t r k) = λ q. unit_true m (t ∷ r) (rw k refl)
complete p n ts x rest (false_is m t r k) = λ q. unit_false m (t ∷ r) (rw k refl)
complete p n ts x rest (exists_is m t o v co ta wh which us y close r a b c d e f g h) =
    λ q. at_suc m t (o ∷ v ∷ co ∷ ta ∷ wh ∷ us) O.Quantifier (rw a refl)
    ∙ rw (b, c, d, table_is ta which (wh ∷ us) e, f, group_is m us y close r (complete Cond m us y (close ∷ r) g) h) refl
complete p n ts x rest (compare_is m us y r h) = λ q. unit_compare m us (compare_first us y r h) ∙ compare_is_read us y r h q

-- a query is read
pub query_is : (n : ℕ) (ts : List Token) (x : Syntax) → AreQueryTokens n ts x → query_at n ts ≡ Ok x
query_is n ts x h = ap (λ (r : Read Syntax). r >>= end_of) (cond_is n ts x [] (complete Cond n ts x [] h) refl refl refl)
