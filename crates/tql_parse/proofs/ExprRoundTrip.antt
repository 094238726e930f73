-- The canonical text of an expression reads back.
use Rattle.std.proofs.Common.{◌≡◌, ◌∙◌, ap, refl, subst, arith, ℕ, suc, ℤ, pos, negsuc, List, [], ◌∷◌, ◌++◌, ◌+◌, ◌≤◌, ◌<◌, ◌-ℤ◌, ◌^◌, ◌%◌}
use Rattle.std.proofs.Common.{length, codes, append_assoc, Bool, true, false, Option, Some, None}
use Rattle.std.specs.Prelude.{int_lt, ◌||◌, ◌==◌}
use Rattle.std.specs.List.{list_all}
use Rattle.std.specs.Fmt.{decimal, signed_decimal}
use Rattle.std.specs.Str.Parse.{digits_value}
use Rattle.std.proofs.lemmas.Fmt.{decimal_by_steps, decimal_is_IsNumeral, decimal_nonempty}
use Rattle.std.proofs.lemmas.Int.{ints}
use Rattle.std.proofs.lemmas.Bool.{false≢true, and_parts}
use Rattle.std.proofs.lemmas.Bool.Decides.{nat_tests}
use Rattle.tql_lex.specs.declared.sign.Sign.TheVariants as S
use Rattle.tql_lex.specs.declared.kind.Kind.{Kind}
use Rattle.tql_lex.specs.declared.kind.Kind.TheVariants as W
use Rattle.tql_lex.specs.declared.token.Token.{Token}
use Rattle.tap_base.specs.declared.numbers.Op.TheVariants as P
use Rattle.tql_lex.specs.Tokens.{is_between_tokens, is_digit, is_of_word, most, token}
use Rattle.tql_lex.specs.Spelling.{Spells, word_is, number_is, text_is, short_is, ends_before, AreTokens, blank, one}
use Rattle.tql_tree.specs.declared.shift.Unit.{Unit as TimeUnit}
use Rattle.tql_tree.specs.declared.shift.Unit.TheVariants.{Seconds, Minutes, Hours, Days}
use Rattle.tql_tree.specs.declared.shift.Shift.{Shift}
use Rattle.tql_tree.specs.declared.expr.Expr.{Expr}
use Rattle.tql_tree.specs.declared.expr.Expr.TheVariants as E
use Rattle.tql_tree.specs.Canonical.{text_of_bytes, text_of_unit, text_of_direction, text_of_shift, text_of_expr}
use Rattle.tql_tree.specs.Places.{plain_shift, plain_expr}
use Rattle.tql_parse.specs.declared.key.Key.{Key}
use Rattle.tql_parse.specs.declared.key.Key.TheVariants as K
use Rattle.tql_parse.specs.Keys.{key, word_key, number_of_kind, bytes, is_word, is_name_key, is_number, is_text, is_dot}
use Rattle.tql_tree.specs.Proper.{is_plain}
use Rattle.tql_parse.specs.Grammar.{forward, back, MayShift, none, some, IsExpr, number_is as the_number, negative, text_is as the_text}
use Rattle.tql_parse.specs.Grammar.{now, today, moment, field}
use Rattle.tql_parse.proofs.TokenBounds.{IsCount, GoodShift, GoodExpr, minus_is}

-- wherever the text stands, it has tokens with this property
abbrev pub Lexes : List ℕ → (List Token → Type 0) → Type 0
Lexes text Q = (place : ℕ) → (ts : List Token) × AreTokens place text ts × Q ts

-- a token of this kind, and then others
pub data Next (k : Kind) (Q : List Token → Type 0) : List Token → Type 0 where
  next : (t : Token) (us : List Token) → t.kind ≡ k → Q us → Next k Q (t ∷ us)

-- a part of the tokens is read back, and then others are left
pub record ExprRoundTrip (A : Type 0) (R : List Token → A → List Token → Type 0) (S : A → Type 0) (Q : List Token → Type 0)
    (ts : List Token) : Type 0 where
  pub value : A
  pub rest : List Token
  pub reads : R ts value rest
  pub same : S value
  pub after : Q rest

pub put : (s rest : List ℕ) (k : Kind) (Q : List Token → Type 0) → Spells s k → ends_before k rest ≡ true → Lexes rest Q
    → Lexes (s ++ rest) (Next k Q)
put s rest k Q h n l = λ place. let r = l (place + length s) in
    (token k place (length s) ∷ r.0, one place s rest k r.0 h n r.1, next (token k place (length s)) r.0 refl r.2)

pub skip : (b : ℕ) (rest : List ℕ) (Q : List Token → Type 0) → is_between_tokens b ≡ true → Lexes rest Q → Lexes (b ∷ rest) Q
skip b rest Q e l = λ place. let r = l (place + 1) in (r.0, blank place b rest r.0 e r.1, r.2)

pub turn : (text : List ℕ) (P Q : List Token → Type 0) → ((ts : List Token) → P ts → Q ts) → Lexes text P → Lexes text Q
turn text P Q f l = λ place. let r = l place in (r.0, r.1, f r.0 r.2)

pub same_text : (s t : List ℕ) (Q : List Token → Type 0) → s ≡ t → Lexes t Q → Lexes s Q
same_text s t Q e l = rw e l

-- texts one behind another
pub nest : (a b rest : List ℕ) (Q : List Token → Type 0) → Lexes (a ++ (b ++ rest)) Q → Lexes ((a ++ b) ++ rest) Q
nest a b rest Q l = same_text ((a ++ b) ++ rest) (a ++ (b ++ rest)) Q (append_assoc a b rest) l

-- what may stand behind any token: a blank, `.`, `:` or `)`
abbrev pub closes : List ℕ → Bool
closes [] = true
closes (b ∷ rest) = b == 32 || b == 46 || b == 58 || b == 41

no_word : (b : ℕ) → (b == 32 || b == 46 || b == 58 || b == 41) ≡ true
    → (is_of_word b ≡ false) × (is_digit b ≡ false) × ((b == 39) ≡ false) × ((b == 62 || b == 61) ≡ false) × ((b == 61) ≡ false)
no_word b e = grind (arith, nat_tests)

pub closes_ends : (k : Kind) (rest : List ℕ) → closes rest ≡ true → ends_before k rest ≡ true
closes_ends k [] e = refl
closes_ends (W.Word w) (b ∷ rest) e = rw (no_word b e).0 refl
closes_ends (W.Number n) (b ∷ rest) e = rw (no_word b e).1 refl
closes_ends (W.Str w) (b ∷ rest) e = rw (no_word b e).2 refl
closes_ends (W.Mark S.Open) (b ∷ rest) e = refl
closes_ends (W.Mark S.Close) (b ∷ rest) e = refl
closes_ends (W.Mark S.Dot) (b ∷ rest) e = refl
closes_ends (W.Mark S.Colon) (b ∷ rest) e = refl
closes_ends (W.Mark S.Plus) (b ∷ rest) e = refl
closes_ends (W.Mark S.Minus) (b ∷ rest) e = refl
closes_ends (W.Mark (S.Compare P.Eq)) (b ∷ rest) e = refl
closes_ends (W.Mark (S.Compare P.Ne)) (b ∷ rest) e = refl
closes_ends (W.Mark (S.Compare P.Lt)) (b ∷ rest) e = rw (no_word b e).3 refl
closes_ends (W.Mark (S.Compare P.Le)) (b ∷ rest) e = refl
closes_ends (W.Mark (S.Compare P.Gt)) (b ∷ rest) e = rw (no_word b e).4 refl
closes_ends (W.Mark (S.Compare P.Ge)) (b ∷ rest) e = refl

-- nothing goes on with these signs
pub minus_ends : (rest : List ℕ) → ends_before (W.Mark S.Minus) rest ≡ true
minus_ends [] = refl
minus_ends (b ∷ rest) = refl

pub dot_ends : (rest : List ℕ) → ends_before (W.Mark S.Dot) rest ≡ true
dot_ends [] = refl
dot_ends (b ∷ rest) = refl

pub open_ends : (rest : List ℕ) → ends_before (W.Mark S.Open) rest ≡ true
open_ends [] = refl
open_ends (b ∷ rest) = refl

all_append : (s t : List ℕ) → list_all is_digit s ≡ true → list_all is_digit t ≡ true → list_all is_digit (s ++ t) ≡ true
all_append [] t a b = b
all_append (c ∷ s) t a b = let p = and_parts (is_digit c) (list_all is_digit s) a in rw p.0 (all_append s t p.1 b)

a_digit : (n : ℕ) → n < 10 → list_all is_digit ((48 + n) ∷ []) ≡ true
a_digit n lt = let e : is_digit (48 + n) ≡ true = grind (arith, nat_tests) in rw e refl

last_digit : (n : ℕ) → n % 10 < 10
last_digit n = omega arith

digits_of_decimal : (n : ℕ) → n < 2 ^ 64 → list_all is_digit (decimal n) ≡ true
digits_of_decimal n lt = decimal_by_steps (λ n ds. list_all is_digit ds ≡ true) (λ n h. a_digit n h)
    (λ n ds h p. all_append ds ((48 + n % 10) ∷ []) p (a_digit (n % 10) (last_digit n))) n lt

number_spelled : (ds : List ℕ) (m : ℕ) → 0 < length ds → list_all is_digit ds ≡ true → digits_value 10 ds ≡ m → m ≤ most
    → Spells ds (W.Number (pos m))
number_spelled [] m lt all v fits = absurd (omega arith)
number_spelled (b ∷ r) m lt all v fits =
    let p = and_parts (is_digit b) (list_all is_digit r) all in
    let F : ℕ → Type 0 = λ m. Spells (b ∷ r) (W.Number (pos m)) in
    subst F v (number_is b r p.0 p.1 (rw v fits))

pub decimal_spelled : (m : ℕ) → m ≤ most → Spells (decimal m) (W.Number (pos m))
decimal_spelled m fits =
    let lt : m < 2 ^ 64 = omega arith in
    number_spelled (decimal m) m (decimal_nonempty m lt) (digits_of_decimal m lt) (decimal_is_IsNumeral m lt).1 fits

number_key : (m : ℕ) → key (W.Number (pos m)) ≡ K.Number
number_key m = let e : int_lt (pos m) (pos 0) ≡ false = grind (arith, ints) in rw e refl

pub is_key : (t : Token) (k : Kind) (u : Key) → t.kind ≡ k → key k ≡ u → key t.kind ≡ u
is_key t k u e f = ap key e ∙ f

abbrev word_of_unit : TimeUnit → List ℕ
word_of_unit Seconds = codes "seconds"
word_of_unit Minutes = codes "minutes"
word_of_unit Hours = codes "hours"
word_of_unit Days = codes "days"

unit_spelled : (u : TimeUnit) → Spells (text_of_unit u) (W.Word (word_of_unit u))
unit_spelled Seconds = word_is 83 (codes "ECONDS") refl refl
unit_spelled Minutes = word_is 77 (codes "INUTES") refl refl
unit_spelled Hours = word_is 72 (codes "OURS") refl refl
unit_spelled Days = word_is 68 (codes "AYS") refl refl

unit_key : (u : TimeUnit) → key (W.Word (word_of_unit u)) ≡ K.Unit u
unit_key Seconds = refl
unit_key Minutes = refl
unit_key Hours = refl
unit_key Days = refl

-- a shift
abbrev pub ShiftBack : Option Shift → (List Token → Type 0) → List Token → Type 0
ShiftBack s Q ts = ExprRoundTrip (Option Shift) MayShift (λ v. plain_shift v ≡ plain_shift s) Q ts

module _ (Q : List Token → Type 0) (s : Shift) (m : ℕ) (is : s.count ≡ pos m) where
  made_forward : s.back ≡ false → (ts : List Token)
      → Next (W.Mark S.Plus) (Next (W.Number (pos m)) (Next (W.Word (word_of_unit s.unit)) Q)) ts → ShiftBack (Some s) Q ts
  made_forward b ts (next sign us e (next count vs f (next unit ws g q))) =
      let k : key count.kind ≡ K.Number = is_key count (W.Number (pos m)) K.Number f (number_key m) in
      record {
        value =
            Some (record { place = sign.place; back = false; count_place = count.place; count = number_of_kind count.kind; unit = s.unit });
        rest = ws;
        reads = some (sign ∷ count ∷ unit ∷ ws) _ ws (forward sign count unit s.unit ws (is_key sign (W.Mark S.Plus) (K.Mark S.Plus) e refl)
            (ap is_number k) (is_key unit (W.Word (word_of_unit s.unit)) (K.Unit s.unit) g (unit_key s.unit)));
        same = rw (b, is, f) refl;
        after = q;
      }

  made_back : s.back ≡ true → (ts : List Token) → Next (W.Mark S.Minus) (Next (W.Number (pos m)) (Next (W.Word (word_of_unit s.unit)) Q)) ts
      → ShiftBack (Some s) Q ts
  made_back b ts (next sign us e (next count vs f (next unit ws g q))) =
      let k : key count.kind ≡ K.Number = is_key count (W.Number (pos m)) K.Number f (number_key m) in
      record {
        value =
            Some (record { place = sign.place; back = true; count_place = count.place; count = number_of_kind count.kind; unit = s.unit });
        rest = ws;
        reads = some (sign ∷ count ∷ unit ∷ ws) _ ws (back sign count unit s.unit ws (is_key sign (W.Mark S.Minus) (K.Mark S.Minus) e refl)
            (ap is_number k) (is_key unit (W.Word (word_of_unit s.unit)) (K.Unit s.unit) g (unit_key s.unit)));
        same = rw (b, is, f) refl;
        after = q;
      }

  module _ (rest : List ℕ) (c : closes rest ≡ true) (l : Lexes rest Q) (fits : m ≤ most) where
    unit_put : Lexes (32 ∷ (text_of_unit s.unit ++ rest)) (Next (W.Word (word_of_unit s.unit)) Q)
    unit_put = skip 32 _ _ refl (put (text_of_unit s.unit) rest (W.Word (word_of_unit s.unit)) Q (unit_spelled s.unit)
        (closes_ends (W.Word (word_of_unit s.unit)) rest c) l)

    count_put :
        Lexes (32 ∷ (decimal m ++ (32 ∷ (text_of_unit s.unit ++ rest)))) (Next (W.Number (pos m)) (Next (W.Word (word_of_unit s.unit)) Q))
    count_put =
        skip 32 _ _ refl (put (decimal m) (32 ∷ (text_of_unit s.unit ++ rest)) (W.Number (pos m)) _ (decimal_spelled m fits) refl unit_put)

    shift_by : (b : Bool) → s.back ≡ b
        → Lexes (text_of_direction b ++ (decimal m ++ (32 ∷ (text_of_unit s.unit ++ rest)))) (ShiftBack (Some s) Q)
    shift_by true e =
        turn _ _ _ (made_back e) (skip 32 _ _ refl (put (45 ∷ []) _ (W.Mark S.Minus) _ (short_is 45 S.Minus refl) refl count_put))
    shift_by false e =
        turn _ _ _ (made_forward e) (skip 32 _ _ refl (put (43 ∷ []) _ (W.Mark S.Plus) _ (short_is 43 S.Plus refl) refl count_put))

    shift_whole : Lexes (text_of_shift (Some s) ++ rest) (ShiftBack (Some s) Q)
    shift_whole =
        let d = text_of_direction s.back in
        let n = signed_decimal s.count in
        let u = text_of_unit s.unit in
        let e : n ≡ decimal m = ap signed_decimal is in
        nest ((d ++ n) ++ (32 ∷ [])) u rest _ (nest (d ++ n) (32 ∷ []) (u ++ rest) _ (nest d n (32 ∷ (u ++ rest)) _
        (same_text _ (d ++ (decimal m ++ (32 ∷ (u ++ rest)))) _ (ap (λ x. d ++ (x ++ (32 ∷ (u ++ rest)))) e) (shift_by s.back refl))))

counted : (s : Shift) (n : ℤ) → s.count ≡ n → IsCount n → (m : ℕ) × (s.count ≡ pos m) × (m ≤ most)
counted s (pos m) e h = (m, e, h)
counted s (negsuc m) e h = absurd h

pub shift_back : (s : Option Shift) → GoodShift s → (rest : List ℕ) (Q : List Token → Type 0) → closes rest ≡ true → Lexes rest Q
    → Lexes (text_of_shift s ++ rest) (ShiftBack s Q)
shift_back None g rest Q c l =
    turn rest Q (ShiftBack None Q) (λ ts q. record { value = None; rest = ts; reads = none ts; same = refl; after = q }) l
shift_back (Some s) g rest Q c l = let m = counted s s.count refl g in shift_whole Q s m.0 m.1 rest c l m.2

direction_closes : (b : Bool) (x y z rest : List ℕ) → closes ((((text_of_direction b ++ x) ++ y) ++ z) ++ rest) ≡ true
direction_closes true x y z rest = refl
direction_closes false x y z rest = refl

shift_closes : (s : Option Shift) (rest : List ℕ) → closes rest ≡ true → closes (text_of_shift s ++ rest) ≡ true
shift_closes None rest c = c
shift_closes (Some s) rest c = direction_closes s.back (signed_decimal s.count) (32 ∷ []) (text_of_unit s.unit) rest

-- an expression
abbrev pub ExprBack : Expr → (List Token → Type 0) → List Token → Type 0
ExprBack e Q ts = ExprRoundTrip Expr IsExpr (λ v. (plain_expr v ≡ plain_expr e) × (is_plain v ≡ is_plain e)) Q ts

same_plain : (a b : Option Shift) → plain_shift a ≡ plain_shift b
    → (v : List ℕ) (p : ℕ) (f : List ℕ) (q : ℕ) (w : List ℕ) (r : ℕ) (g : List ℕ) (t : ℕ)
    → is_plain (E.Field v p f q a) ≡ is_plain (E.Field w r g t b)
same_plain None None e v p f q w r g t = refl
same_plain None (Some b) e v p f q w r g t = absurd (cc)
same_plain (Some a) None e v p f q w r g t = absurd (cc)
same_plain (Some a) (Some b) e v p f q w r g t = refl

module _ (Q : List Token → Type 0) where
  made_number : (p m : ℕ) (ts : List Token) → Next (W.Number (pos m)) Q ts → ExprBack (E.Number p (pos m)) Q ts
  made_number p m ts (next t us e q) = record {
    value = E.Number t.place (number_of_kind t.kind);
    rest = us;
    reads = the_number t us (is_key t (W.Number (pos m)) K.Number e (number_key m));
    same = (rw e refl, refl);
    after = q;
  }

  made_negative : (p m : ℕ) (ts : List Token) → Next (W.Mark S.Minus) (Next (W.Number (pos (suc m))) Q) ts
      → ExprBack (E.Number p (negsuc m)) Q ts
  made_negative p m ts (next sign vs f (next t us e q)) = record {
    value = E.Number sign.place (pos 0 -ℤ number_of_kind t.kind);
    rest = us;
    reads = negative sign t us (is_key sign (W.Mark S.Minus) (K.Mark S.Minus) f refl) (ap is_number
        (is_key t (W.Number (pos (suc m))) K.Number e (number_key (suc m))));
    same = (rw (e, minus_is m) refl, refl);
    after = q;
  }

  made_text : (p : ℕ) (content : List ℕ) (ts : List Token) → Next (W.Str content) Q ts → ExprBack (E.Str p content) Q ts
  made_text p content ts (next t us e q) = record {
    value = E.Str t.place (bytes t.kind);
    rest = us;
    reads = the_text t us (is_key t (W.Str content) K.Str e refl);
    same = (rw e refl, refl);
    after = q;
  }

  made_now : (p : ℕ) (s : Option Shift) (ts : List Token) → Next (W.Word (codes "now")) (ShiftBack s Q) ts → ExprBack (E.Now p s) Q ts
  made_now p s ts (next t us e b) = record {
    value = E.Now t.place b.value;
    rest = b.rest;
    reads = now t us
        b.value b.rest (is_key t (W.Word (codes "now")) K.Now e refl) b.reads;
    same = (ap (E.Now 0) b.same, refl);
    after = b.after;
  }

  made_today : (p : ℕ) (s : Option Shift) (ts : List Token) → Next (W.Word (codes "today")) (ShiftBack s Q) ts → ExprBack (E.Today p s) Q ts
  made_today p s ts (next t us e b) = record {
    value = E.Today t.place b.value;
    rest = b.rest;
    reads = today t us
        b.value b.rest (is_key t (W.Word (codes "today")) K.Today e refl) b.reads;
    same = (ap (E.Today 0) b.same, refl);
    after = b.after;
  }

  made_moment : (p : ℕ) (content : List ℕ) (s : Option Shift) (ts : List Token)
      → Next (W.Word (codes "time")) (Next (W.Str content) (ShiftBack s Q)) ts → ExprBack (E.Moment p content s) Q ts
  made_moment p content s ts (next t vs e (next x us f b)) = record {
    value = E.Moment x.place (bytes x.kind) b.value;
    rest = b.rest;
    reads = moment t x us b.value b.rest (is_key t (W.Word (codes "time")) K.Time e refl)
        (ap is_text (is_key x (W.Str content) K.Str f refl)) b.reads;
    same = (rw (f, b.same) refl, refl);
    after = b.after;
  }

  made_field : (var : List ℕ) (p : ℕ) (name : List ℕ) (q : ℕ) (s : Option Shift) → word_key var ≡ K.Name → (ts : List Token)
      → Next (W.Word var) (Next (W.Mark S.Dot) (Next (W.Word name) (ShiftBack s Q))) ts → ExprBack (E.Field var p name q s) Q ts
  made_field var p name q s k ts (next v us e (next d vs f (next n ws g b))) = record {
    value = E.Field (bytes v.kind) v.place (bytes n.kind) n.place b.value;
    rest = b.rest;
    reads = field v d n ws b.value b.rest (is_key v (W.Word var) K.Name e k) (ap is_dot (is_key d (W.Mark S.Dot) (K.Mark S.Dot) f refl))
        (ap is_word g) b.reads;
    same = (rw (e, g, b.same) refl, same_plain b.value s b.same (bytes v.kind) v.place (bytes n.kind) n.place var p name q);
    after = b.after;
  }

pub name_key : (k : Key) → is_name_key k ≡ true → k ≡ K.Name
name_key K.Name e = refl
name_key _ e = absurd (false≢true e)

-- texts are spelled in quotes
text_spelled : (content : List ℕ) → Spells (text_of_bytes content) (W.Str content)
text_spelled content = text_is content

pub expr_back : (e : Expr) → GoodExpr e → (rest : List ℕ) (Q : List Token → Type 0) → closes rest ≡ true → Lexes rest Q
    → Lexes (text_of_expr e ++ rest) (ExprBack e Q)
expr_back (E.Number p (pos m)) g rest Q c l = turn _ _ _ (made_number Q p m)
    (put (decimal m) rest (W.Number (pos m)) Q (decimal_spelled m g) (closes_ends (W.Number (pos m)) rest c) l)
expr_back (E.Number p (negsuc m)) g rest Q c l = turn _ _ _ (made_negative Q p m)
    (put (45 ∷ []) (decimal (suc m) ++ rest) (W.Mark S.Minus) (Next (W.Number (pos (suc m))) Q) (short_is 45 S.Minus refl) (minus_ends _)
    (put (decimal (suc m)) rest (W.Number (pos (suc m))) Q (decimal_spelled (suc m) g) (closes_ends (W.Number (pos (suc m))) rest c) l))
expr_back (E.Str p content) g rest Q c l = turn _ _ _ (made_text Q p content)
    (put (text_of_bytes content) rest (W.Str content) Q (text_spelled content) (closes_ends (W.Str content) rest c) l)
expr_back (E.Now p s) g rest Q c l = turn _ _ _ (made_now Q p s)
    (put (codes "NOW") (text_of_shift s ++ rest) (W.Word (codes "now")) (ShiftBack s Q) (word_is 78 (codes "OW") refl refl)
    (closes_ends (W.Word (codes "now")) (text_of_shift s ++ rest) (shift_closes s rest c)) (shift_back s g rest Q c l))
expr_back (E.Today p s) g rest Q c l = turn _ _ _ (made_today Q p s)
    (put (codes "TODAY") (text_of_shift s ++ rest) (W.Word (codes "today")) (ShiftBack s Q) (word_is 84 (codes "ODAY") refl refl)
    (closes_ends (W.Word (codes "today")) (text_of_shift s ++ rest) (shift_closes s rest c)) (shift_back s g rest Q c l))
expr_back (E.Moment p content s) g rest Q c l =
    same_text _ (codes "TIME " ++ (text_of_bytes content ++ (text_of_shift s ++ rest))) _
    (ap (λ x. codes "TIME " ++ x) (append_assoc (text_of_bytes content) (text_of_shift s) rest))
    (turn _ _ _ (made_moment Q p content s) (put (codes "TIME") (32 ∷ (text_of_bytes content ++ (text_of_shift s ++ rest)))
    (W.Word (codes "time")) (Next (W.Str content) (ShiftBack s Q)) (word_is 84 (codes "IME") refl refl) refl
    (skip 32 _ _ refl (put (text_of_bytes content) (text_of_shift s ++ rest) (W.Str content) (ShiftBack s Q) (text_spelled content)
    (closes_ends (W.Str content) (text_of_shift s ++ rest) (shift_closes s rest c)) (shift_back s g rest Q c l)))))
expr_back (E.Field var p name q s) g rest Q c l =
    let x = text_of_shift s ++ rest in
    nest ((var ++ (46 ∷ [])) ++ name) (text_of_shift s) rest _ (nest (var ++ (46 ∷ [])) name x _ (nest var (46 ∷ []) (name ++ x) _
    (turn _ _ _ (made_field Q var p name q s (name_key (word_key var) g.0.1))
    (put var (46 ∷ (name ++ x)) (W.Word var) (Next (W.Mark S.Dot) (Next (W.Word name) (ShiftBack s Q))) g.0.0 refl
    (put (46 ∷ []) (name ++ x) (W.Mark S.Dot) (Next (W.Word name) (ShiftBack s Q)) (short_is 46 S.Dot refl) (dot_ends _)
    (put name x (W.Word name) (ShiftBack s Q) g.1 (closes_ends (W.Word name) (text_of_shift s ++ rest) (shift_closes s rest c))
    (shift_back s g.2 rest Q c l)))))))
