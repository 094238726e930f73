-- What a tree holds whose tokens are those of a text.
use Rattle.std.proofs.Common.{◌≡◌, ap, refl, subst, arith, ℕ, zero, suc, ℤ, pos, negsuc, List, [], ◌∷◌, ◌+◌, ◌≤◌, ◌-ℤ◌, Bool, true, false}
use Rattle.std.proofs.Common.{Option, Some, None, if◌then◌else◌}
use Rattle.std.specs.Prelude.{int_lt}
use Rattle.std.specs.List.{list_all}
use Rattle.std.specs.Str.{str_to_ascii_lowercase}
use Rattle.std.specs.Char.{to_ascii_lowercase}
use Rattle.std.proofs.lemmas.Bool.{false≢true, and_parts}
use Rattle.std.proofs.lemmas.Int.{ints}
use Rattle.std.proofs.lemmas.Bool.Decides.{nat_tests}
use Rattle.std.proofs.lemmas.Str.Ascii.{lowercase-lowercase}
use Rattle.tql_lex.specs.declared.kind.Kind.{Kind}
use Rattle.tql_lex.specs.declared.kind.Kind.TheVariants as W
use Rattle.tql_lex.specs.declared.token.Token.{Token}
use Rattle.tql_lex.specs.Tokens.{begins_word, is_of_word, most}
use Rattle.tql_lex.specs.Spelling.{Spells, word_is, number_is, text_is, short_is, long_is, AreTokens, none as no_token, blank, one}
use Rattle.tql_tree.specs.declared.shift.Shift.{Shift}
use Rattle.tql_tree.specs.declared.expr.Expr.{Expr}
use Rattle.tql_tree.specs.declared.expr.Expr.TheVariants as E
use Rattle.tql_tree.specs.Syntax.{Syntax, True, False, Or, And, Not, Exists, Compare, Has}
use Rattle.tql_parse.specs.declared.key.Key.{Key}
use Rattle.tql_parse.specs.declared.key.Key.TheVariants as K
use Rattle.tql_parse.specs.Keys.{key, word_key, number_of_kind, bytes, is_word, is_name_key}
use Rattle.tql_tree.specs.Proper.{is_plain}
use Rattle.tql_parse.specs.Grammar.{IsShift, forward, back, MayShift, none, some, IsExpr, number_is as the_number, negative}
use Rattle.tql_parse.specs.Grammar.{text_is as the_text, now, today, moment, field, IsCompare, compare, has, GrammarPart, Cond, Conj, One}
use Rattle.tql_parse.specs.Grammar.{Reads, conj_alone, or_conj, unit_alone, and_unit, not_unit, group, true_is, false_is, exists_is}
use Rattle.tql_parse.specs.Grammar.{compare_is}

-- a word that is lowered
abbrev pub IsWord : List ℕ → Type 0
IsWord w = Spells w (W.Word w)

-- a number of a token
abbrev pub IsCount : ℤ → Type 0
IsCount (pos m) = m ≤ most
IsCount (negsuc m) = ⊥

-- such a number, or one below 0
abbrev pub IsLiteral : ℤ → Type 0
IsLiteral (pos m) = m ≤ most
IsLiteral (negsuc m) = suc m ≤ most

-- a word that is not reserved
abbrev pub IsVar : List ℕ → Type 0
IsVar w = IsWord w × (is_name_key (word_key w) ≡ true)

abbrev pub GoodShift : Option Shift → Type 0
GoodShift None = Unit {0}
GoodShift (Some s) = IsCount s.count

abbrev pub GoodExpr : Expr → Type 0
GoodExpr (E.Number place value) = IsLiteral value
GoodExpr (E.Str place content) = Unit {0}
GoodExpr (E.Now place s) = GoodShift s
GoodExpr (E.Today place s) = GoodShift s
GoodExpr (E.Moment place text s) = GoodShift s
GoodExpr (E.Field var var_place name name_place s) = IsVar var × IsWord name × GoodShift s

abbrev pub TokenBounds : Syntax → Type 0
TokenBounds True = Unit {0}
TokenBounds False = Unit {0}
TokenBounds (Or l r) = TokenBounds l × TokenBounds r
TokenBounds (And l r) = TokenBounds l × TokenBounds r
TokenBounds (Not x) = TokenBounds x
TokenBounds (Exists var place table body) = IsVar var × TokenBounds body
TokenBounds (Compare left op place right) = GoodExpr left × GoodExpr right
TokenBounds (Has left place right) = GoodExpr left × (is_plain left ≡ true) × GoodExpr right

-- what a token of a text holds
abbrev pub OfText : Kind → Type 0
OfText (W.Word w) = IsWord w
OfText (W.Number n) = IsCount n
OfText kind = Unit {0}

pub data AllOfText : List Token → Type 0 where
  nil : AllOfText []
  cons : (t : Token) (ts : List Token) → OfText t.kind → AllOfText ts → AllOfText (t ∷ ts)

lower_begins : (b : ℕ) → begins_word b ≡ true → begins_word (to_ascii_lowercase b) ≡ true
lower_begins b e = grind (arith, nat_tests)

lower_goes_on : (b : ℕ) → is_of_word b ≡ true → is_of_word (to_ascii_lowercase b) ≡ true
lower_goes_on b e = grind (arith, nat_tests)

lower_all : (s : List ℕ) → list_all is_of_word s ≡ true → list_all is_of_word (str_to_ascii_lowercase s) ≡ true
lower_all [] e = refl
lower_all (b ∷ s) e = let p = and_parts (is_of_word b) (list_all is_of_word s) e in rw (lower_goes_on b p.0) (lower_all s p.1)

lower_twice : (s : List ℕ) → str_to_ascii_lowercase (str_to_ascii_lowercase s) ≡ str_to_ascii_lowercase s
lower_twice [] = refl
lower_twice (b ∷ s) = rw (lowercase-lowercase b, lower_twice s) refl

spelled_of_text : (s : List ℕ) (kind : Kind) → Spells s kind → OfText kind
spelled_of_text s kind (word_is b r e all) =
    let w = str_to_ascii_lowercase (b ∷ r) in
    let F : List ℕ → Type 0 = λ v. Spells w (W.Word v) in
    subst F (lower_twice (b ∷ r)) (word_is (to_ascii_lowercase b) (str_to_ascii_lowercase r) (lower_begins b e) (lower_all r all))
spelled_of_text s kind (number_is b r e all fits) = fits
spelled_of_text s kind (text_is content) = tt
spelled_of_text s kind (short_is b sign e) = tt
spelled_of_text s kind (long_is b c sign e) = tt

pub are_of_text : (place : ℕ) (text : List ℕ) (tokens : List Token) → AreTokens place text tokens → AllOfText tokens
are_of_text place text tokens (no_token p) = nil
are_of_text place text tokens (blank p b rest ts e h) = are_of_text (p + 1) rest ts h
are_of_text place text tokens (one p s rest kind ts h n more) = cons _ ts (spelled_of_text s kind h) (are_of_text _ rest ts more)

count_of_text : (k : Kind) → OfText k → IsCount (number_of_kind k)
count_of_text (W.Word w) h = omega arith
count_of_text (W.Number n) h = h
count_of_text (W.Str w) h = omega arith
count_of_text (W.Mark m) h = omega arith

no_name : (b : Bool) → (if b then K.Below else K.Number) ≡ K.Name → ⊥
no_name true e = cc
no_name false e = cc

name_of_text : (k : Kind) → OfText k → key k ≡ K.Name → IsVar (bytes k)
name_of_text (W.Word w) h e = (h, ap is_name_key e)
name_of_text (W.Number n) h e = absurd (no_name (int_lt n (pos 0)) e)
name_of_text (W.Str w) h e = absurd (cc)
name_of_text (W.Mark m) h e = absurd (cc)

plain_name : (k : Key) → is_name_key k ≡ true → k ≡ K.Name
plain_name K.Name e = refl
plain_name _ e = absurd (false≢true e)

word_of_text : (k : Kind) → OfText k → is_word k ≡ true → IsWord (bytes k)
word_of_text (W.Word w) h e = h
word_of_text (W.Number n) h e = absurd (false≢true e)
word_of_text (W.Str w) h e = absurd (false≢true e)
word_of_text (W.Mark m) h e = absurd (false≢true e)

literal : (n : ℤ) → IsCount n → IsLiteral n
literal (pos m) h = h
literal (negsuc m) h = absurd h

pub minus_is : (m : ℕ) → pos 0 -ℤ pos (suc m) ≡ negsuc m
minus_is m = omega (arith, ints)

negated : (n : ℤ) → IsCount n → IsLiteral (pos 0 -ℤ n)
negated (pos zero) h = h
negated (pos (suc m)) h = rw (minus_is m) h
negated (negsuc m) h = absurd h

shift_good : (ts : List Token) (s : Shift) (rest : List Token) → IsShift ts s rest → AllOfText ts → IsCount s.count × AllOfText rest
shift_good ts s rest (forward sign count unit u r a b c) (cons t us h (cons v vs i (cons w ws j more))) = (count_of_text count.kind i, more)
shift_good ts s rest (back sign count unit u r a b c) (cons t us h (cons v vs i (cons w ws j more))) = (count_of_text count.kind i, more)

may_good : (ts : List Token) (s : Option Shift) (rest : List Token) → MayShift ts s rest → AllOfText ts → GoodShift s × AllOfText rest
may_good ts s rest (none r) all = (tt, all)
may_good ts s rest (some us x r h) all = shift_good us x r h all

expr_good : (ts : List Token) (e : Expr) (rest : List Token) → IsExpr ts e rest → AllOfText ts → GoodExpr e × AllOfText rest
expr_good ts e rest (the_number t r k) (cons u us h more) = (literal (number_of_kind t.kind) (count_of_text t.kind h), more)
expr_good ts e rest (negative m t r a b) (cons u us h (cons v vs i more)) = (negated (number_of_kind t.kind) (count_of_text t.kind i), more)
expr_good ts e rest (the_text t r k) (cons u us h more) = (tt, more)
expr_good ts e rest (now t us s r k h) (cons u vs i more) = may_good us s r h more
expr_good ts e rest (today t us s r k h) (cons u vs i more) = may_good us s r h more
expr_good ts e rest (moment t x us s r k w h) (cons u vs i (cons v ws j more)) = may_good us s r h more
expr_good ts e rest (field v d f us s r k a b h) (cons t1 us1 h1 (cons t2 us2 h2 (cons t3 us3 h3 more))) =
    let m = may_good us s r h more in
    ((name_of_text v.kind h1 k, word_of_text f.kind h3 b, m.0), m.1)

compare_good : (ts : List Token) (x : Syntax) (rest : List Token) → IsCompare ts x rest → AllOfText ts → TokenBounds x × AllOfText rest
compare_good ts x rest (compare us l o op mid r after a b c) all = go (expr_good us l (o ∷ mid) a all)
  where
    go : GoodExpr l × AllOfText (o ∷ mid) → (GoodExpr l × GoodExpr r) × AllOfText after
    go (g, cons t vs h more) = let q = expr_good mid r after c more in ((g, q.0), q.1)
compare_good ts x rest (has us l o mid r after a p b c) all = go (expr_good us l (o ∷ mid) a all)
  where
    go : GoodExpr l × AllOfText (o ∷ mid) → (GoodExpr l × (is_plain l ≡ true) × GoodExpr r) × AllOfText after
    go (g, cons t vs h more) = let q = expr_good mid r after c more in ((g, p, q.0), q.1)

behind_one : (X : Type 0) (t : Token) (ts : List Token) → X × AllOfText (t ∷ ts) → X × AllOfText ts
behind_one X t ts (x, cons u us h more) = (x, more)

pub reads_good : (p : GrammarPart) (n : ℕ) (ts : List Token) (x : Syntax) (rest : List Token) → Reads p n ts x rest → AllOfText ts
    → TokenBounds x × AllOfText rest
reads_good p n ts x rest (conj_alone m us y r h) all = reads_good Conj m us y r h all
reads_good p n ts x rest (or_conj m us l o mid y r a b c) all =
    let i = behind_one (TokenBounds l) o mid (reads_good Cond m us l (o ∷ mid) a all) in
    let j = reads_good Conj m mid y r c i.1 in
    ((i.0, j.0), j.1)
reads_good p n ts x rest (unit_alone m us y r h) all = reads_good One m us y r h all
reads_good p n ts x rest (and_unit m us l o mid y r a b c) all =
    let i = behind_one (TokenBounds l) o mid (reads_good Conj m us l (o ∷ mid) a all) in
    let j = reads_good One m mid y r c i.1 in
    ((i.0, j.0), j.1)
reads_good p n ts x rest (not_unit m t us y r k h) (cons u vs i more) = reads_good One m us y r h more
reads_good p n ts x rest (group m t us y close r k h c) (cons u vs i more) =
    behind_one (TokenBounds y) close r (reads_good Cond m us y (close ∷ r) h more)
reads_good p n ts x rest (true_is m t r k) (cons u vs i more) = (tt, more)
reads_good p n ts x rest (false_is m t r k) (cons u vs i more) = (tt, more)
reads_good p n ts x rest (exists_is m t o v co ta wh which us y close r a b c d e f g h)
    (cons t1 u1 h1 (cons t2 u2 h2 (cons t3 u3 h3 (cons t4 u4 h4 (cons t5 u5 h5 (cons t6 u6 h6 more)))))) =
    let i = behind_one (TokenBounds y) close r (reads_good Cond m us y (close ∷ r) g more) in
    ((name_of_text v.kind h3 (plain_name (key v.kind) c), i.0), i.1)
reads_good p n ts x rest (compare_is m us y r h) all = compare_good us y r h all
