-- Trees of the grammar have what each call that takes a tree needs.
use Rattle.std.proofs.Common.{◌≡◌, refl, arith, ℕ, pos, List, [], ◌∷◌, ◌≤ℤ◌, Bool, true, false, Option, Result, Ok, Err, if◌then◌else◌}
use Rattle.std.specs.Prelude.{IfOk, int_lt}
use Rattle.std.proofs.lemmas.Int.{ints}
use Rattle.tql_lex.specs.declared.kind.Kind.{Kind}
use Rattle.tql_lex.specs.declared.kind.Kind.TheVariants as W
use Rattle.tql_lex.specs.declared.token.Token.{Token}
use Rattle.tql_tree.specs.declared.shift.Shift.{Shift}
use Rattle.tql_tree.specs.declared.expr.Expr.{Expr}
use Rattle.tql_tree.specs.Syntax.{Syntax}
use Rattle.tql_tree.specs.Proper.{IsCounted, IsProperExpr, IsProper}
use Rattle.tql_parse.specs.declared.fault.ParseFault.{ParseFault}
use Rattle.tql_parse.specs.declared.key.Key.TheVariants as K
use Rattle.tql_parse.specs.Keys.{key, number_of_kind, is_number}
use Rattle.tql_parse.specs.Grammar.{IsShift, forward, back, MayShift, none, some, IsExpr, number_is, negative, text_is, now, today, moment}
use Rattle.tql_parse.specs.Grammar.{field, IsCompare, compare, has, GrammarPart, Cond, Conj, One, Reads, conj_alone, or_conj, unit_alone}
use Rattle.tql_parse.specs.Grammar.{and_unit, not_unit, group, true_is, false_is, exists_is, compare_is, AreQueryTokens}

count_at_least : (k : Kind) → is_number (key k) ≡ true → pos 0 ≤ℤ number_of_kind k
count_at_least (W.Word w) e = omega (arith, ints)
count_at_least (W.Str w) e = omega (arith, ints)
count_at_least (W.Mark m) e = omega (arith, ints)
count_at_least (W.Number n) e = go (int_lt n (pos 0)) refl e
  where
    go : (b : Bool) → int_lt n (pos 0) ≡ b → is_number (if b then K.Below else K.Number) ≡ true → pos 0 ≤ℤ n
    go true q e = absurd (cc)
    go false q e = grind (arith, ints)

shift_counted : (ts : List Token) (s : Shift) (rest : List Token) → IsShift ts s rest → pos 0 ≤ℤ s.count
shift_counted ts s rest (forward sign count unit u r a b c) = count_at_least count.kind b
shift_counted ts s rest (back sign count unit u r a b c) = count_at_least count.kind b

may_counted : (ts : List Token) (s : Option Shift) (rest : List Token) → MayShift ts s rest → IsCounted s
may_counted ts s rest (none r) = tt
may_counted ts s rest (some us x r h) = shift_counted us x r h

expr_proper : (ts : List Token) (e : Expr) (rest : List Token) → IsExpr ts e rest → IsProperExpr e
expr_proper ts e rest (number_is t r k) = tt
expr_proper ts e rest (negative m t r a b) = tt
expr_proper ts e rest (text_is t r k) = tt
expr_proper ts e rest (now t us s r k h) = may_counted us s r h
expr_proper ts e rest (today t us s r k h) = may_counted us s r h
expr_proper ts e rest (moment t x us s r k w h) = may_counted us s r h
expr_proper ts e rest (field v d f us s r k a b h) = may_counted us s r h

compare_proper : (ts : List Token) (x : Syntax) (rest : List Token) → IsCompare ts x rest → IsProper x
compare_proper ts x rest (compare us l o op mid r after a b c) = (expr_proper us l (o ∷ mid) a, expr_proper mid r after c)
compare_proper ts x rest (has us l o mid r after a p b c) = (p, expr_proper mid r after c)

reads_proper : (p : GrammarPart) (n : ℕ) (ts : List Token) (x : Syntax) (rest : List Token) → Reads p n ts x rest → IsProper x
reads_proper p n ts x rest (conj_alone m us y r h) = reads_proper Conj m us y r h
reads_proper p n ts x rest (or_conj m us l o mid y r a b c) = (reads_proper Cond m us l (o ∷ mid) a, reads_proper Conj m mid y r c)
reads_proper p n ts x rest (unit_alone m us y r h) = reads_proper One m us y r h
reads_proper p n ts x rest (and_unit m us l o mid y r a b c) = (reads_proper Conj m us l (o ∷ mid) a, reads_proper One m mid y r c)
reads_proper p n ts x rest (not_unit m t us y r k h) = reads_proper One m us y r h
reads_proper p n ts x rest (group m t us y close r k h c) = reads_proper Cond m us y (close ∷ r) h
reads_proper p n ts x rest (true_is m t r k) = tt
reads_proper p n ts x rest (false_is m t r k) = tt
reads_proper p n ts x rest (exists_is m t o v co ta wh which us y close r a b c d e f g h) = reads_proper Cond m us y (close ∷ r) g
reads_proper p n ts x rest (compare_is m us y r h) = compare_proper us y r h

pub found_proper : {X : Type 0} (n : ℕ) (ts : List Token) (view : X → Syntax) (r : Result X ParseFault)
    → IfOk r (λ x. AreQueryTokens n ts (view x)) → IfOk r (λ x. IsProper (view x))
found_proper n ts view (Ok x) h = reads_proper Cond n ts (view x) [] h
found_proper n ts view (Err f) h = tt
