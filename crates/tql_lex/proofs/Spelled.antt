-- A token is read from its spelling.
use Rattle.std.proofs.Common.{◌≡◌, ◌∙◌, sym, ap, refl, subst, arith, ℕ, ℤ, pos, List, [], ◌∷◌, ◌++◌, ◌+◌, ◌-◌, ◌≤◌, take, drop, length}
use Rattle.std.proofs.Common.{append_assoc, Bool, true, false, if◌then◌else◌, Some, None, Result, Ok, Err, length-append}
use Rattle.std.specs.Prelude.{not, ◌==◌, nat_lt}
use Rattle.std.specs.List.{list_all}
use Rattle.std.specs.Str.{str_to_ascii_lowercase}
use Rattle.std.specs.Str.Parse.{digits_value}
use Rattle.std.proofs.lemmas.Bool.Decides.{nat_tests}
use Rattle.std.proofs.lemmas.Bool.{true≢false, and_parts, le-ltb}
use Rattle.std.proofs.Math.Seq.{take-append_seam, drop-append_seam}
use Rattle.tap_base.specs.declared.numbers.Op.TheVariants as P
use Rattle.tql_lex.specs.declared.sign.Sign.{Sign}
use Rattle.tql_lex.specs.declared.sign.Sign.TheVariants as S
use Rattle.tql_lex.specs.declared.kind.Kind.{Kind}
use Rattle.tql_lex.specs.declared.kind.Kind.TheVariants.{Word, Number, Str, Mark}
use Rattle.tql_lex.specs.declared.token.Token.{Token}
use Rattle.tql_lex.specs.declared.fault.LexFault.{LexFault}
use Rattle.tql_lex.specs.declared.fault.LexFault.TheVariants as F
use Rattle.tql_lex.specs.Tokens.{is_between_tokens, begins_word, is_digit, is_of_word, run, quoted, with_content, short_sign, long_sign}
use Rattle.tql_lex.specs.Tokens.{most, token, word_token, number_token, text_token, token_at, tokens_from, onto, with_front, lexed}
use Rattle.tql_lex.specs.Spelling.{between_quotes, Spells, word_is, number_is, text_is, short_is, long_is, goes_on, ends_before, AreTokens}
use Rattle.tql_lex.specs.Spelling.{none, blank, one}
use Rattle.tql_lex.proofs.Runs.{tokens_skip, lexed-short}

-- the rest does not go on with the test
abbrev pub Stops : (ℕ → Bool) → List ℕ → Type 0
Stops test [] = Unit {0}
Stops test (b ∷ rest) = test b ≡ false

pub not_true : (b : Bool) → not b ≡ true → b ≡ false
not_true true e = absurd (true≢false (sym e))
not_true false e = refl

pub run_over : (test : ℕ → Bool) (s rest : List ℕ) → list_all test s ≡ true → Stops test rest → run test (s ++ rest) ≡ length s
run_over test [] [] all stops = refl
run_over test [] (b ∷ rest) all stops = rw stops refl
run_over test (b ∷ s) rest all stops =
    let p = and_parts (test b) (list_all test s) all in
    let i = run_over test s rest p.1 stops in
    rw (p.0, i) (omega arith)

-- what a byte is, it is alone
pub digit_begins_no_word : (b : ℕ) → is_digit b ≡ true → begins_word b ≡ false
digit_begins_no_word b e = grind (arith, nat_tests)

word_is_not_blank : (b : ℕ) → begins_word b ≡ true → is_between_tokens b ≡ false
word_is_not_blank b e = grind (arith, nat_tests)

digit_is_not_blank : (b : ℕ) → is_digit b ≡ true → is_between_tokens b ≡ false
digit_is_not_blank b e = grind (arith, nat_tests)

-- no word, number, text or blank begins with a byte of a sign
abbrev pub IsSignByte : ℕ → Type 0
IsSignByte b = (begins_word b ≡ false) × (is_digit b ≡ false) × ((b == 39) ≡ false) × (is_between_tokens b ≡ false)

by_value : (b k : ℕ) → (b == k) ≡ true → IsSignByte k → IsSignByte b
by_value b k e h = let q : b ≡ k = grind (arith, nat_tests) in rw q h

pub short_byte : (b : ℕ) (sign : Sign) → short_sign b ≡ Some sign → IsSignByte b
short_byte b sign e = grind (arith, nat_tests)

pub ends_word : (w : List ℕ) (rest : List ℕ) → ends_before (Word w) rest ≡ true → Stops is_of_word rest
ends_word w [] e = tt
ends_word w (b ∷ rest) e = not_true (is_of_word b) e

pub ends_number : (n : ℤ) (rest : List ℕ) → ends_before (Number n) rest ≡ true → Stops is_digit rest
ends_number n [] e = tt
ends_number n (b ∷ rest) e = not_true (is_digit b) e

module _ (place b : ℕ) (r rest : List ℕ) where
  word_read : begins_word b ≡ true → list_all is_of_word r ≡ true → Stops is_of_word rest
      → token_at place ((b ∷ r) ++ rest) ≡ Ok (token (Word (str_to_ascii_lowercase (b ∷ r))) place (length (b ∷ r)))
  word_read e all stops =
      let whole : list_all is_of_word (b ∷ r) ≡ true = rw (e, all) refl in
      let n : run is_of_word ((b ∷ r) ++ rest) ≡ length (b ∷ r) = run_over is_of_word (b ∷ r) rest whole stops in
      let is_word : token_at place ((b ∷ r) ++ rest) ≡ word_token place ((b ∷ r) ++ rest) = rw e refl in
      is_word ∙ ap (λ n. Ok (token (Word (str_to_ascii_lowercase (take n ((b ∷ r) ++ rest)))) place n)) n
      ∙ ap (λ w. Ok (token (Word (str_to_ascii_lowercase w)) place (length (b ∷ r)))) (take-append_seam (b ∷ r) rest)

  number_read : is_digit b ≡ true → list_all is_digit r ≡ true → digits_value 10 (b ∷ r) ≤ most → Stops is_digit rest
      → token_at place ((b ∷ r) ++ rest) ≡ Ok (token (Number (pos (digits_value 10 (b ∷ r)))) place (length (b ∷ r)))
  number_read e all fits stops =
      let whole : list_all is_digit (b ∷ r) ≡ true = rw (e, all) refl in
      let n : run is_digit ((b ∷ r) ++ rest) ≡ length (b ∷ r) = run_over is_digit (b ∷ r) rest whole stops in
      let f : begins_word b ≡ false = digit_begins_no_word b e in
      let is_number : token_at place ((b ∷ r) ++ rest) ≡ number_token place ((b ∷ r) ++ rest) = rw (f, e) refl in
      let of : ℕ → List ℕ → Result Token LexFault = λ n ds. if nat_lt most (digits_value 10 ds) then Err (F.BigNumber place)
      else Ok (token (Number (pos (digits_value 10 ds))) place n) in
      let small : nat_lt most (digits_value 10 (b ∷ r)) ≡ false = le-ltb most (digits_value 10 (b ∷ r)) fits in
      is_number ∙ ap (λ n. of n (take n ((b ∷ r) ++ rest))) n ∙ ap (of (length (b ∷ r))) (take-append_seam (b ∷ r) rest) ∙ rw small refl

quoted_plain : (c : ℕ) (x : List ℕ) → (c == 39) ≡ false → quoted (c ∷ x) ≡ with_content (c ∷ []) 1 (quoted x)
quoted_plain c [] e = rw e refl
quoted_plain c (b ∷ x) e = rw e refl

-- the content is read up to the closing quote
pub quoted_over : (content rest : List ℕ) → Stops (λ b. b == 39) rest
    → quoted (between_quotes content ++ 39 ∷ rest) ≡ Some (content, length (between_quotes content) + 1)
quoted_over [] [] stops = refl
quoted_over [] (b ∷ rest) stops = rw stops refl
quoted_over (c ∷ content) rest stops = go (c == 39) refl (quoted_over content rest stops)
  where
    go : (t : Bool) → (c == 39) ≡ t → quoted (between_quotes content ++ 39 ∷ rest) ≡ Some (content, length (between_quotes content) + 1)
        → quoted ((if t then 39 ∷ 39 ∷ [] else c ∷ []) ++ between_quotes content ++ 39 ∷ rest)
        ≡ Some (c ∷ content, length ((if t then 39 ∷ 39 ∷ [] else c ∷ []) ++ between_quotes content) + 1)
    go true e ih =
        let q : c ≡ 39 = grind (arith, nat_tests) in
        let n : 2 + (length (between_quotes content) + 1) ≡ length (39 ∷ 39 ∷ between_quotes content) + 1 = omega arith in
        ap (with_content (39 ∷ []) 2) ih ∙ rw (n, q) refl
    go false e ih =
        let n : 1 + (length (between_quotes content) + 1) ≡ length (c ∷ between_quotes content) + 1 = omega arith in
        quoted_plain c (between_quotes content ++ 39 ∷ rest) e ∙ ap (with_content (c ∷ []) 1) ih ∙ rw n refl

-- no sign of two bytes begins with a sign of one byte that ends there
pub no_long : (b c : ℕ) (sign : Sign) → short_sign b ≡ Some sign → goes_on (Mark sign) c ≡ false → long_sign b c ≡ None
no_long b c S.Open e n = grind (arith, nat_tests)
no_long b c S.Close e n = grind (arith, nat_tests)
no_long b c S.Dot e n = grind (arith, nat_tests)
no_long b c S.Colon e n = grind (arith, nat_tests)
no_long b c S.Plus e n = grind (arith, nat_tests)
no_long b c S.Minus e n = grind (arith, nat_tests)
no_long b c (S.Compare P.Eq) e n = grind (arith, nat_tests)
no_long b c (S.Compare P.Ne) e n = grind (arith, nat_tests)
no_long b c (S.Compare P.Lt) e n = grind (arith, nat_tests)
no_long b c (S.Compare P.Le) e n = grind (arith, nat_tests)
no_long b c (S.Compare P.Gt) e n = grind (arith, nat_tests)
no_long b c (S.Compare P.Ge) e n = grind (arith, nat_tests)

pub no_long_end : (b : ℕ) → long_sign b 0 ≡ None
no_long_end b = grind (arith, nat_tests)

short_read : (place b : ℕ) (rest : List ℕ) (sign : Sign) → short_sign b ≡ Some sign → ends_before (Mark sign) rest ≡ true
    → token_at place (b ∷ rest) ≡ Ok (token (Mark sign) place 1)
short_read place b [] sign e n = let h = short_byte b sign e in rw (h.0, h.1, h.2, no_long_end b, e) refl
short_read place b (c ∷ rest) sign e n =
    let h = short_byte b sign e in
    rw (h.0, h.1, h.2, no_long b c sign e (not_true (goes_on (Mark sign) c) n), e) refl

pub long_byte : (b c : ℕ) (sign : Sign) → long_sign b c ≡ Some sign → IsSignByte b
long_byte b c sign e = grind (arith, nat_tests)

long_read : (place b c : ℕ) (rest : List ℕ) (sign : Sign) → long_sign b c ≡ Some sign
    → token_at place (b ∷ c ∷ rest) ≡ Ok (token (Mark sign) place 2)
long_read place b c rest sign e = let h = long_byte b c sign e in rw (h.0, h.1, h.2, e) refl

text_read : (place : ℕ) (content rest : List ℕ) → Stops (λ b. b == 39) rest
    → token_at place ((39 ∷ (between_quotes content ++ 39 ∷ [])) ++ rest)
    ≡ Ok (token (Str content) place (length (39 ∷ (between_quotes content ++ 39 ∷ []))))
text_read place content rest stops =
    let n : 1 + (length (between_quotes content) + 1) ≡ length (39 ∷ (between_quotes content ++ 39 ∷ [])) =
    omega (arith, length-append (between_quotes content) (39 ∷ [])) in
    ap (λ (x : List ℕ). text_token place (quoted x)) (append_assoc (between_quotes content) (39 ∷ []) rest)
    ∙ ap (text_token place) (quoted_over content rest stops) ∙ rw n refl

pub ends_text : (content rest : List ℕ) → ends_before (Str content) rest ≡ true → Stops (λ b. b == 39) rest
ends_text content [] e = tt
ends_text content (b ∷ rest) e = not_true (b == 39) e

-- the token of a spelling
spelling_read : (place : ℕ) (s rest : List ℕ) (kind : Kind) → Spells s kind → ends_before kind rest ≡ true
    → token_at place (s ++ rest) ≡ Ok (token kind place (length s))
spelling_read place s rest kind (word_is b r e all) n = word_read place b r rest e all (ends_word (str_to_ascii_lowercase (b ∷ r)) rest n)
spelling_read place s rest kind (number_is b r e all fits) n =
    number_read place b r rest e all fits (ends_number (pos (digits_value 10 (b ∷ r))) rest n)
spelling_read place s rest kind (text_is content) n = text_read place content rest (ends_text content rest n)
spelling_read place s rest kind (short_is b sign e) n = short_read place b rest sign e n
spelling_read place s rest kind (long_is b c sign e) n = long_read place b c rest sign e

-- the first byte of a spelling
pub record First (s : List ℕ) : Type 0 where
  pub byte : ℕ
  pub others : List ℕ
  pub is : s ≡ byte ∷ others
  pub not_blank : is_between_tokens byte ≡ false

pub first_of : (s : List ℕ) (kind : Kind) → Spells s kind → First s
first_of s kind (word_is b r e all) = record { byte = b; others = r; is = refl; not_blank = word_is_not_blank b e }
first_of s kind (number_is b r e all fits) = record { byte = b; others = r; is = refl; not_blank = digit_is_not_blank b e }
first_of s kind (text_is content) = record { byte = 39; others = between_quotes content ++ 39 ∷ []; is = refl; not_blank = refl }
first_of s kind (short_is b sign e) = record { byte = b; others = []; is = refl; not_blank = (short_byte b sign e).3 }
first_of s kind (long_is b c sign e) = record { byte = b; others = c ∷ []; is = refl; not_blank = (long_byte b c sign e).3 }

front_read : (place b : ℕ) (tail rest : List ℕ) (kind : Kind) → is_between_tokens b ≡ false
    → token_at place ((b ∷ tail) ++ rest) ≡ Ok (token kind place (length (b ∷ tail))) → tokens_from 0 place ((b ∷ tail) ++ rest)
    ≡ with_front (token kind place (length (b ∷ tail)) ∷ []) (tokens_from 0 (place + length (b ∷ tail)) rest)
front_read place b tail rest kind calm is =
    let end = place + length (b ∷ tail) in
    let others : ℕ → Result (List Token) LexFault = λ end. tokens_from (end - (place + 1)) (place + 1) (tail ++ rest) in
    let front : tokens_from 0 place ((b ∷ tail) ++ rest) ≡ onto (token_at place ((b ∷ tail) ++ rest)) others = rw calm refl in
    let k : end - (place + 1) ≡ length tail = omega arith in
    let q : place + 1 + length tail ≡ end = omega arith in
    let skip : others end ≡ tokens_from 0 end rest = ap (λ k. tokens_from k (place + 1) (tail ++ rest)) k
    ∙ tokens_skip (length tail) (place + 1) (tail ++ rest) ∙ ap (λ q. tokens_from 0 q (drop (length tail) (tail ++ rest))) q
    ∙ ap (tokens_from 0 end) (drop-append_seam tail rest) in
    front ∙ ap (λ r. onto r others) is ∙ ap (with_front (token kind place (length (b ∷ tail)) ∷ [])) skip

pub spelling_step : (place : ℕ) (s rest : List ℕ) (kind : Kind) → Spells s kind → ends_before kind rest ≡ true
    → tokens_from 0 place (s ++ rest) ≡ with_front (token kind place (length s) ∷ []) (tokens_from 0 (place + length s) rest)
spelling_step place s rest kind h n =
    let f = first_of s kind h in
    let F : List ℕ → Type 0 = λ s. token_at place (s ++ rest) ≡ Ok (token kind place (length s)) in
    let G : List ℕ → Type 0 =
    λ s. tokens_from 0 place (s ++ rest) ≡ with_front (token kind place (length s) ∷ []) (tokens_from 0 (place + length s) rest) in
    subst G (sym f.is) (front_read place f.byte f.others rest kind f.not_blank (subst F f.is (spelling_read place s rest kind h n)))

-- tokens that a text is are read from it
pub are_read : (place : ℕ) (text : List ℕ) (tokens : List Token) → AreTokens place text tokens → tokens_from 0 place text ≡ Ok tokens
are_read place text tokens (none p) = refl
are_read place text tokens (blank p b rest ts e h) = rw e (are_read (p + 1) rest ts h)
are_read place text tokens (one p s rest kind ts h n more) = spelling_step p s rest kind h n
    ∙ ap (with_front (token kind p (length s) ∷ [])) (are_read (p + length s) rest ts more)

pub are_lexed : (text : List ℕ) (tokens : List Token) → length text ≤ 4096 → AreTokens 0 text tokens → lexed text ≡ Ok tokens
are_lexed text tokens short h = lexed-short text short ∙ are_read 0 text tokens h
