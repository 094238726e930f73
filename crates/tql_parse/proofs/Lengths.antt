-- Each part has a token.
use Rattle.std.proofs.Common.{arith, ℕ, List, ◌∷◌, length, Option, ◌<◌, ◌≤◌}
use Rattle.tql_lex.specs.declared.token.Token.{Token}
use Rattle.tql_tree.specs.declared.shift.Shift.{Shift}
use Rattle.tql_tree.specs.declared.expr.Expr.{Expr}
use Rattle.tql_tree.specs.Syntax.{Syntax}
use Rattle.tql_parse.specs.Grammar.{IsShift, forward, back, MayShift, none, some, IsExpr, number_is, negative, text_is, now, today, moment}
use Rattle.tql_parse.specs.Grammar.{field, IsCompare, compare, has, GrammarPart, Cond, Conj, One, Reads, conj_alone, or_conj, unit_alone}
use Rattle.tql_parse.specs.Grammar.{and_unit, not_unit, group, true_is, false_is, exists_is, compare_is}
use Rattle.tql_parse.specs.Reading.{conj_with, unit_at}
use Rattle.tql_parse.proofs.Steps.{on_ok}
use Rattle.tql_parse.proofs.Soundness.{on_unit_at, on_conj}
use Rattle.tql_parse.proofs.Chains.{Shrinks}

shift_less : (ts : List Token) (s : Shift) (rest : List Token) → IsShift ts s rest → length rest ≤ length ts
shift_less ts s rest (forward sign count unit u r a b c) = omega arith
shift_less ts s rest (back sign count unit u r a b c) = omega arith

may_less : (ts : List Token) (s : Option Shift) (rest : List Token) → MayShift ts s rest → length rest ≤ length ts
may_less ts s rest (none r) = omega arith
may_less ts s rest (some us x r h) = shift_less us x r h

expr_less : (ts : List Token) (e : Expr) (rest : List Token) → IsExpr ts e rest → length rest < length ts
expr_less ts e rest (number_is t r k) = omega arith
expr_less ts e rest (negative m t r a b) = omega arith
expr_less ts e rest (text_is t r k) = omega arith
expr_less ts e rest (now t us s r k h) = let l = may_less us s r h in omega arith
expr_less ts e rest (today t us s r k h) = let l = may_less us s r h in omega arith
expr_less ts e rest (moment t x us s r k w h) = let l = may_less us s r h in omega arith
expr_less ts e rest (field v d f us s r k a b h) = let l = may_less us s r h in omega arith

compare_less : (ts : List Token) (x : Syntax) (rest : List Token) → IsCompare ts x rest → length rest < length ts
compare_less ts x rest (compare us l o op mid r after a b c) =
    let p = expr_less us l (o ∷ mid) a in
    let q = expr_less mid r after c in
    omega arith
compare_less ts x rest (has us l o mid r after a p b c) =
    let p = expr_less us l (o ∷ mid) a in
    let q = expr_less mid r after c in
    omega arith

pub less : (p : GrammarPart) (n : ℕ) (ts : List Token) (x : Syntax) (rest : List Token) → Reads p n ts x rest → length rest < length ts
less p n ts x rest (conj_alone m us y r h) = less Conj m us y r h
less p n ts x rest (or_conj m us l o mid y r a b c) = let i = less Cond m us l (o ∷ mid) a in let j = less Conj m mid y r c in omega arith
less p n ts x rest (unit_alone m us y r h) = less One m us y r h
less p n ts x rest (and_unit m us l o mid y r a b c) = let i = less Conj m us l (o ∷ mid) a in let j = less One m mid y r c in omega arith
less p n ts x rest (not_unit m t us y r k h) = let i = less One m us y r h in omega arith
less p n ts x rest (group m t us y close r k h c) = let i = less Cond m us y (close ∷ r) h in omega arith
less p n ts x rest (true_is m t r k) = omega arith
less p n ts x rest (false_is m t r k) = omega arith
less p n ts x rest (exists_is m t o v co ta wh which us y close r a b c d e f g h) = let i = less Cond m us y (close ∷ r) g in omega arith
less p n ts x rest (compare_is m us y r h) = compare_less us y r h

pub unit_shrinks : (n : ℕ) → Shrinks (unit_at n)
unit_shrinks n ts x e = less One n ts x.0 x.1 (on_ok (Reads One n ts) (unit_at n ts) x (on_unit_at n ts) e)

pub conj_shrinks : (n : ℕ) → Shrinks (conj_with (unit_at n))
conj_shrinks n ts x e =
    less Conj n ts x.0 x.1 (on_ok (Reads Conj n ts) (conj_with (unit_at n) ts) x (on_conj n (unit_at n) (on_unit_at n) ts) e)
