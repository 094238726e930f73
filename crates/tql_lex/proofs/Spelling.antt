-- Each token that is read has a spelling.
use Rattle.std.proofs.Common.{◌≡◌, ◌∙◌, sym, ap, refl, subst, arith, ℕ, zero, suc, ℤ, pos, List, [], ◌∷◌, ◌++◌, ◌+◌, ◌-◌, ◌≤◌, ◌<◌, take}
use Rattle.std.proofs.Common.{drop, length, get_or, Bool, true, false, if◌then◌else◌, Option, Some, None, Result, Ok, Err}
use Rattle.std.specs.Prelude.{cond, not, ◌||◌, ◌==◌, nat_lt}
use Rattle.std.specs.Str.{str_to_ascii_lowercase}
use Rattle.std.specs.Str.Parse.{digits_value}
use Rattle.std.proofs.lemmas.Bool.Decides.{nat_tests}
use Rattle.std.proofs.lemmas.Bool.{ltb-false}
use Rattle.std.proofs.lemmas.List.{take-append-drop, length-take-le}
use Rattle.tap_base.specs.declared.numbers.Op.TheVariants as P
use Rattle.tql_lex.specs.declared.sign.Sign.{Sign}
use Rattle.tql_lex.specs.declared.sign.Sign.TheVariants as S
use Rattle.tql_lex.specs.declared.kind.Kind.TheVariants.{Word, Number, Str, Mark}
use Rattle.tql_lex.specs.declared.token.Token.{Token}
use Rattle.tql_lex.specs.declared.fault.LexFault.{LexFault}
use Rattle.tql_lex.specs.declared.fault.LexFault.TheVariants as F
use Rattle.tql_lex.specs.Tokens.{is_between_tokens, begins_word, is_digit, is_of_word, run, quoted, with_content, short_sign, long_sign}
use Rattle.tql_lex.specs.Tokens.{most, token, word_token, number_token, text_token, short_token, sign_token, token_at, tokens_from, onto}
use Rattle.tql_lex.specs.Tokens.{with_front, lexed}
use Rattle.tql_lex.specs.Spelling.{between_quotes, Spells, word_is, number_is, text_is, short_is, long_is, ends_before, AreTokens, none}
use Rattle.tql_lex.specs.Spelling.{blank, one}
use Rattle.tql_lex.proofs.Runs.{run_all}
use Rattle.tql_lex.proofs.Spelled.{Stops, no_long_end}

-- what is read at a place, with its spelling at the front
pub record Spelled (place : ℕ) (text : List ℕ) (t : Token) : Type 0 where
  pub len : ℕ
  pub some : 0 < len
  pub inside : len ≤ length text
  pub is : t ≡ token t.kind place len
  pub spells : Spells (take len text) t.kind
  pub ends : ends_before t.kind (drop len text) ≡ true

abbrev pub OnToken : ℕ → List ℕ → Result Token LexFault → Type 0
OnToken place text (Ok t) = Spelled place text t
OnToken place text (Err fault) = Unit {0}

behind_one : (n b : ℕ) (rest : List ℕ) → drop (1 + n) (b ∷ rest) ≡ drop n rest
behind_one n b rest = let e : 1 + n ≡ suc n = omega arith in rw e refl

-- behind a run stands nothing of it
pub run_ends : (test : ℕ → Bool) (text : List ℕ) → Stops test (drop (run test text) text)
run_ends test [] = tt
run_ends test (b ∷ rest) =
    elim (test b) as (λ t. test b ≡ t → Stops test (drop (cond (not (not t)) (1 + run test rest) 0) (b ∷ rest))) [
      | true ↦ λ e. rw (behind_one (run test rest) b rest) (run_ends test rest)
      | false ↦ λ e. e
    ] refl

run_within : (test : ℕ → Bool) (text : List ℕ) → run test text ≤ length text
run_within test [] = omega arith
run_within test (b ∷ rest) =
    let i = run_within test rest in
    elim (test b) as (λ t. cond (not (not t)) (1 + run test rest) 0 ≤ suc (length rest)) [
      | true ↦ omega arith
      | false ↦ omega arith
    ]

pub run_of : (test : ℕ → Bool) (b : ℕ) (rest : List ℕ) → test b ≡ true → run test (b ∷ rest) ≡ suc (run test rest)
run_of test b rest e = rw e (omega arith)

word_ends : (w : List ℕ) (rest : List ℕ) → Stops is_of_word rest → ends_before (Word w) rest ≡ true
word_ends w [] s = refl
word_ends w (b ∷ rest) s = rw s refl

number_ends : (n : ℤ) (rest : List ℕ) → Stops is_digit rest → ends_before (Number n) rest ≡ true
number_ends n [] s = refl
number_ends n (b ∷ rest) s = rw s refl

pub text_ends : (content rest : List ℕ) → Stops (λ b. b == 39) rest → ends_before (Str content) rest ≡ true
text_ends content [] s = refl
text_ends content (b ∷ rest) s = rw s refl

module _ (place b : ℕ) (rest : List ℕ) where
  of_word : begins_word b ≡ true → OnToken place (b ∷ rest) (word_token place (b ∷ rest))
  of_word e =
      let m = run is_of_word rest in
      let n : run is_of_word (b ∷ rest) ≡ suc m = run_of is_of_word b rest (rw e refl) in
      let G : ℕ → Type 0 = λ n. OnToken place (b ∷ rest) (Ok (token (Word (str_to_ascii_lowercase (take n (b ∷ rest)))) place n)) in
      let l = run_within is_of_word rest in
      subst G (sym n) (record {
        len = suc m;
        some = omega arith;
        inside = omega arith;
        is = refl;
        spells = word_is b (take m rest) e (run_all is_of_word rest);
        ends = word_ends (str_to_ascii_lowercase (b ∷ take m rest)) (drop m rest) (run_ends is_of_word rest);
      })

  number_by : (m : ℕ) (v : Bool) → nat_lt most (digits_value 10 (b ∷ take m rest)) ≡ v → m ≡ run is_digit rest → is_digit b ≡ true
      → OnToken place (b ∷ rest)
      (if v then Err (F.BigNumber place) else Ok (token (Number (pos (digits_value 10 (b ∷ take m rest)))) place (suc m)))
  number_by m true q h e = tt
  number_by m false q h e =
      let l = run_within is_digit rest in
      record {
        len = suc m;
        some = omega arith;
        inside = omega arith;
        is = refl;
        spells = rw h (number_is b (take (run is_digit rest) rest)
            e (run_all is_digit rest) (rw h at (ltb-false most (digits_value 10 (b ∷ take m rest)) q)));
        ends = number_ends (pos (digits_value 10 (b ∷ take m rest))) (drop m rest) (rw h (run_ends is_digit rest));
      }

  of_number : is_digit b ≡ true → OnToken place (b ∷ rest) (number_token place (b ∷ rest))
  of_number e =
      let m = run is_digit rest in
      let n : run is_digit (b ∷ rest) ≡ suc m = run_of is_digit b rest e in
      let of : ℕ → Result Token LexFault = λ n. if nat_lt most (digits_value 10 (take n (b ∷ rest))) then Err (F.BigNumber place)
      else Ok (token (Number (pos (digits_value 10 (take n (b ∷ rest))))) place n) in
      let G : ℕ → Type 0 = λ n. OnToken place (b ∷ rest) (of n) in
      subst G (sym n) (number_by m (nat_lt most (digits_value 10 (b ∷ take m rest))) refl refl e)

abbrev pub OnQuoted : List ℕ → Option (List ℕ × ℕ) → Type 0
OnQuoted text None = Unit {0}
OnQuoted text (Some x) = (take x.1 text ≡ between_quotes x.0 ++ 39 ∷ []) × Stops (λ b. b == 39) (drop x.1 text) × (x.1 ≤ length text)

is_quote : (b : ℕ) → (b == 39) ≡ true → b ≡ 39
is_quote b e = grind (arith, nat_tests)

closed : (b : ℕ) (rest : List ℕ) → (b == 39) ≡ true → Stops (λ b. b == 39) rest → OnQuoted (b ∷ rest) (Some ([], 1))
closed b rest e s = let q = is_quote b e in (rw q refl, s, omega arith)

with_quote : (b c : ℕ) (rest : List ℕ) (o : Option (List ℕ × ℕ)) → (b == 39) ≡ true → (c == 39) ≡ true → OnQuoted rest o
    → OnQuoted (b ∷ c ∷ rest) (with_content (b ∷ []) 2 o)
with_quote b c rest None e f h = tt
with_quote b c rest (Some x) e f h =
    let n : 2 + x.1 ≡ suc (suc x.1) = omega arith in
    let p = is_quote b e in
    let q = is_quote c f in
    let G : ℕ → Type 0 = λ n. (take n (b ∷ c ∷ rest) ≡ between_quotes (b ∷ x.0) ++ 39 ∷ []) × Stops (λ b. b == 39) (drop n (b ∷ c ∷ rest))
    × (n ≤ length (b ∷ c ∷ rest)) in
    subst G (sym n) (rw (p, q, h.0) refl, h.1, omega (arith, h.2))

with_byte : (b : ℕ) (rest : List ℕ) (o : Option (List ℕ × ℕ)) → (b == 39) ≡ false → OnQuoted rest o
    → OnQuoted (b ∷ rest) (with_content (b ∷ []) 1 o)
with_byte b rest None e h = tt
with_byte b rest (Some x) e h =
    let n : 1 + x.1 ≡ suc x.1 = omega arith in
    let G : ℕ → Type 0 = λ n. (take n (b ∷ rest) ≡ between_quotes (b ∷ x.0) ++ 39 ∷ []) × Stops (λ b. b == 39) (drop n (b ∷ rest))
    × (n ≤ length (b ∷ rest)) in
    subst G (sym n) (rw (e, h.0) refl, h.1, omega (arith, h.2))

pub on_quoted : (text : List ℕ) → OnQuoted text (quoted text)
on_quoted [] = tt
on_quoted (b ∷ []) =
    elim (b == 39) as (λ t. (b == 39) ≡ t → OnQuoted (b ∷ []) (if t then Some ([], 1) else None)) [
      | true ↦ λ e. closed b [] e tt
      | false ↦ λ e. tt
    ] refl
on_quoted (b ∷ c ∷ rest) = go (b == 39) (c == 39) refl refl (on_quoted rest) (on_quoted (c ∷ rest))
  where
    go : (t u : Bool) → (b == 39) ≡ t → (c == 39) ≡ u → OnQuoted rest (quoted rest) → OnQuoted (c ∷ rest) (quoted (c ∷ rest))
        → OnQuoted (b ∷ c ∷ rest)
        (if t then (if u then with_content (b ∷ []) 2 (quoted rest) else Some ([], 1)) else with_content (b ∷ []) 1 (quoted (c ∷ rest)))
    go true true e f h k = with_quote b c rest (quoted rest) e f h
    go true false e f h k = closed b (c ∷ rest) e f
    go false u e f h k = with_byte b (c ∷ rest) (quoted (c ∷ rest)) e k

of_text : (place b : ℕ) (rest : List ℕ) → (b == 39) ≡ true → (o : Option (List ℕ × ℕ)) → OnQuoted rest o
    → OnToken place (b ∷ rest) (text_token place o)
of_text place b rest e None h = tt
of_text place b rest e (Some x) h =
    let n : 1 + x.1 ≡ suc x.1 = omega arith in
    let q = is_quote b e in
    let G : ℕ → Type 0 = λ n. OnToken place (b ∷ rest) (Ok (token (Str x.0) place n)) in
    let F : List ℕ → Type 0 = λ s. Spells s (Str x.0) in
    let w : 39 ∷ (between_quotes x.0 ++ 39 ∷ []) ≡ take (suc x.1) (b ∷ rest) = rw (q, h.0) refl in
    subst G (sym n) (record {
      len = suc x.1;
      some = omega arith;
      inside = omega (arith, h.2);
      is = refl;
      spells = subst F w (text_is x.0);
      ends = text_ends x.0 (drop x.1 rest) h.1;
    })

-- no byte goes on with a sign of two bytes
long_ends : (b c : ℕ) (sign : Sign) (rest : List ℕ) → long_sign b c ≡ Some sign → ends_before (Mark sign) rest ≡ true
long_ends b c sign [] e = refl
long_ends b c S.Open (d ∷ rest) e = refl
long_ends b c S.Close (d ∷ rest) e = refl
long_ends b c S.Dot (d ∷ rest) e = refl
long_ends b c S.Colon (d ∷ rest) e = refl
long_ends b c S.Plus (d ∷ rest) e = refl
long_ends b c S.Minus (d ∷ rest) e = refl
long_ends b c (S.Compare P.Eq) (d ∷ rest) e = refl
long_ends b c (S.Compare P.Ne) (d ∷ rest) e = refl
long_ends b c (S.Compare P.Lt) (d ∷ rest) e = absurd (grind (arith, nat_tests))
long_ends b c (S.Compare P.Le) (d ∷ rest) e = refl
long_ends b c (S.Compare P.Gt) (d ∷ rest) e = absurd (grind (arith, nat_tests))
long_ends b c (S.Compare P.Ge) (d ∷ rest) e = refl

less_is_alone : (b c : ℕ) → short_sign b ≡ Some (S.Compare P.Lt) → long_sign b c ≡ None → (c == 62 || c == 61) ≡ false
less_is_alone b c e n = grind (arith, nat_tests)

more_is_alone : (b c : ℕ) → short_sign b ≡ Some (S.Compare P.Gt) → long_sign b c ≡ None → (c == 61) ≡ false
more_is_alone b c e n = grind (arith, nat_tests)

short_ends : (b c : ℕ) (sign : Sign) (rest : List ℕ) → short_sign b ≡ Some sign → long_sign b c ≡ None
    → ends_before (Mark sign) (c ∷ rest) ≡ true
short_ends b c S.Open rest e n = refl
short_ends b c S.Close rest e n = refl
short_ends b c S.Dot rest e n = refl
short_ends b c S.Colon rest e n = refl
short_ends b c S.Plus rest e n = refl
short_ends b c S.Minus rest e n = refl
short_ends b c (S.Compare P.Eq) rest e n = refl
short_ends b c (S.Compare P.Ne) rest e n = refl
short_ends b c (S.Compare P.Lt) rest e n = rw (less_is_alone b c e n) refl
short_ends b c (S.Compare P.Le) rest e n = refl
short_ends b c (S.Compare P.Gt) rest e n = rw (more_is_alone b c e n) refl
short_ends b c (S.Compare P.Ge) rest e n = refl

of_short : (place b : ℕ) (rest : List ℕ) (o : Option Sign) → short_sign b ≡ o
    → ((sign : Sign) → short_sign b ≡ Some sign → ends_before (Mark sign) rest ≡ true) → OnToken place (b ∷ rest) (short_token place o)
of_short place b rest None e h = tt
of_short place b rest (Some sign) e h =
    record { len = 1; some = omega arith; inside = omega arith; is = refl; spells = short_is b sign e; ends = h sign e }

of_sign : (place b c : ℕ) (rest : List ℕ) (o : Option Sign) → long_sign b c ≡ o
    → OnToken place (b ∷ c ∷ rest) (sign_token place o (short_sign b))
of_sign place b c rest None e = of_short place b (c ∷ rest) (short_sign b) refl (λ sign h. short_ends b c sign rest h e)
of_sign place b c rest (Some sign) e =
    record { len = 2; some = omega arith; inside = omega arith; is = refl; spells = long_is b c sign e; ends = long_ends b c sign rest e }

on_sign : (place b : ℕ) (rest : List ℕ) → OnToken place (b ∷ rest) (sign_token place (long_sign b (get_or (b ∷ rest) 1 0)) (short_sign b))
on_sign place b [] = rw (no_long_end b) (of_short place b [] (short_sign b) refl (λ sign h. refl))
on_sign place b (c ∷ rest) = of_sign place b c rest (long_sign b c) refl

pub on_token : (place b : ℕ) (rest : List ℕ) → OnToken place (b ∷ rest) (token_at place (b ∷ rest))
on_token place b rest = go (begins_word b) (is_digit b) (b == 39) refl refl refl
  where
    go : (w d q : Bool) → begins_word b ≡ w → is_digit b ≡ d → (b == 39) ≡ q
        → OnToken place (b ∷ rest) (if w then word_token place (b ∷ rest) else if d then number_token place (b ∷ rest) else if q
        then text_token place (quoted (drop 1 (b ∷ rest))) else sign_token place (long_sign b (get_or (b ∷ rest) 1 0)) (short_sign b))
    go true d q e f g = of_word place b rest e
    go false true q e f g = of_number place b rest f
    go false false true e f g = of_text place b rest g (quoted rest) (on_quoted rest)
    go false false false e f g = on_sign place b rest

abbrev OnTokens : ℕ → List ℕ → Result (List Token) LexFault → Type 0
OnTokens place text (Ok tokens) = AreTokens place text tokens
OnTokens place text (Err fault) = Unit {0}

on_blank : (place b : ℕ) (rest : List ℕ) (r : Result (List Token) LexFault) → is_between_tokens b ≡ true → OnTokens (place + 1) rest r
    → OnTokens place (b ∷ rest) r
on_blank place b rest (Ok tokens) e h = blank place b rest tokens e h
on_blank place b rest (Err fault) e h = tt

on_one : (place b : ℕ) (rest : List ℕ) (t : Token) (r : Result (List Token) LexFault) → (s : Spelled place (b ∷ rest) t)
    → OnTokens (place + s.len) (drop s.len (b ∷ rest)) r → OnTokens place (b ∷ rest) (with_front (t ∷ []) r)
on_one place b rest t (Err fault) s h = tt
on_one place b rest t (Ok tokens) s h =
    let l : length (take s.len (b ∷ rest)) ≡ s.len = length-take-le s.len (b ∷ rest) s.inside in
    let F : ℕ → Type 0 = λ n. AreTokens (place + n) (drop s.len (b ∷ rest)) tokens in
    let a :
    AreTokens place (take s.len (b ∷ rest) ++ drop s.len (b ∷ rest)) (token t.kind place (length (take s.len (b ∷ rest))) ∷ tokens) =
    one place (take s.len (b ∷ rest)) (drop s.len (b ∷ rest)) t.kind tokens s.spells s.ends (subst F (sym l) h) in
    let G : List ℕ → Type 0 = λ text. AreTokens place text (token t.kind place (length (take s.len (b ∷ rest))) ∷ tokens) in
    let w : token t.kind place (length (take s.len (b ∷ rest))) ≡ t = ap (λ n. token t.kind place n) l ∙ sym s.is in
    let H : Token → Type 0 = λ u. AreTokens place (b ∷ rest) (u ∷ tokens) in
    subst H w (subst G (take-append-drop s.len (b ∷ rest)) a)

on_onto : (place b : ℕ) (rest : List ℕ) (r : Result Token LexFault) → OnToken place (b ∷ rest) r
    → ((k : ℕ) → OnTokens (place + 1 + k) (drop k rest) (tokens_from k (place + 1) rest))
    → OnTokens place (b ∷ rest) (onto r (λ end. tokens_from (end - (place + 1)) (place + 1) rest))
on_onto place b rest (Err fault) h ih = tt
on_onto place b rest (Ok t) s ih =
    let k = t.end - (place + 1) in
    let n : t.end ≡ place + s.len = ap (λ t. t.end) s.is in
    let some = s.some in
    let p : place + 1 + k ≡ place + s.len = omega arith in
    let q : suc k ≡ s.len = omega arith in
    let F : ℕ → Type 0 = λ at. OnTokens at (drop k rest) (tokens_from k (place + 1) rest) in
    let G : ℕ → Type 0 = λ m. OnTokens (place + s.len) (drop m (b ∷ rest)) (tokens_from k (place + 1) rest) in
    on_one place b rest t (tokens_from k (place + 1) rest) s (subst G q (subst F p (ih k)))

on_tokens : (inside place : ℕ) (text : List ℕ) → OnTokens (place + inside) (drop inside text) (tokens_from inside place text)
on_tokens zero place [] = none (place + 0)
on_tokens (suc inside) place [] = none (place + suc inside)
on_tokens (suc inside) place (b ∷ rest) =
    let e : place + suc inside ≡ place + 1 + inside = omega arith in
    rw e (on_tokens inside (place + 1) rest)
on_tokens zero place (b ∷ rest) =
    let none : place + 0 ≡ place = omega arith in
    let more : place + 1 + 0 ≡ place + 1 = omega arith in
    let F : ℕ → Type 0 = λ at. OnTokens at rest (tokens_from 0 (place + 1) rest) in
    let G : ℕ → Type 0 = λ at. OnTokens at (b ∷ rest) (if is_between_tokens b then tokens_from zero (place + 1) rest
    else onto (token_at place (b ∷ rest)) (λ end. tokens_from (end - (place + 1)) (place + 1) rest)) in
    subst G (sym none) (elim (is_between_tokens b) as (λ t. is_between_tokens b ≡ t → OnTokens place (b ∷ rest) (if t then tokens_from zero
    (place + 1) rest else onto (token_at place (b ∷ rest)) (λ end. tokens_from (end - (place + 1)) (place + 1) rest))) [
      | true ↦ λ e. on_blank place b rest (tokens_from 0 (place + 1) rest) e (subst F more (on_tokens 0 (place + 1) rest))
      | false ↦ λ e. on_onto place b rest (token_at place (b ∷ rest)) (on_token place b rest) (λ k. on_tokens k (place + 1) rest)
    ] refl)

-- the tokens that are read are the text's
pub lexed_are : (text : List ℕ) (tokens : List Token) → lexed text ≡ Ok tokens → AreTokens 0 text tokens
lexed_are text tokens e = go (nat_lt 4096 (length text)) refl e
  where
    go : (long : Bool) → nat_lt 4096 (length text) ≡ long
        → (if long then Err (F.TooLong (length text)) else tokens_from 0 0 text) ≡ Ok tokens → AreTokens 0 text tokens
    go true q e = absurd (cc)
    go false q e = let F : Result (List Token) LexFault → Type 0 = OnTokens 0 text in subst F e (on_tokens 0 0 text)
