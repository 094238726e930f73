-- A token that ends before what stands behind it is the longest one.
use Rattle.std.proofs.Common.{◌≡◌, ◌∙◌, sym, ap, refl, subst, arith, ℕ, suc, pos, List, [], ◌∷◌, ◌++◌, ◌≤◌, length, length-append}
use Rattle.std.proofs.Common.{append_assoc, Bool, true, false, if◌then◌else◌, Option, Some, None}
use Rattle.std.specs.Prelude.{◌==◌}
use Rattle.std.specs.List.{list_all}
use Rattle.std.specs.Str.Parse.{digits_value}
use Rattle.std.specs.Str.{str_to_ascii_lowercase}
use Rattle.std.proofs.lemmas.Bool.{true≢false, and_parts}
use Rattle.tql_lex.specs.declared.sign.Sign.{Sign}
use Rattle.tql_lex.specs.declared.kind.Kind.{Kind}
use Rattle.tql_lex.specs.declared.kind.Kind.TheVariants.{Mark}
use Rattle.tql_lex.specs.Tokens.{begins_word, is_digit, is_of_word, run, short_sign, long_sign}
use Rattle.tql_lex.specs.Spelling.{between_quotes, Spells, word_is, number_is, text_is, short_is, long_is, goes_on, ends_before}
use Rattle.tql_lex.proofs.Spelled.{Stops, run_over, IsSignByte, short_byte, long_byte, no_long, not_true, ends_word, ends_number, ends_text}
use Rattle.tql_lex.proofs.Spelled.{digit_begins_no_word}

differ : (x : Bool) → x ≡ true → x ≡ false → ⊥
differ x a b = true≢false (sym a ∙ b)

-- bytes that all pass are no more than the run
all_within : (test : ℕ → Bool) (s more : List ℕ) → list_all test s ≡ true → length s ≤ run test (s ++ more)
all_within test [] more all = omega arith
all_within test (b ∷ s) more all =
    let p = and_parts (test b) (list_all test s) all in
    let i = all_within test s more p.1 in
    rw p.0 (omega arith)

module _ (b : ℕ) (r rest more : List ℕ) where
  word_longest : begins_word b ≡ true → list_all is_of_word r ≡ true → Stops is_of_word rest → (other : List ℕ) (k : Kind)
      → (b ∷ r) ++ rest ≡ other ++ more → Spells other k → length other ≤ suc (length r)
  word_longest e all stops other k q (word_is c s f every) =
      let whole : list_all is_of_word (c ∷ s) ≡ true = rw (f, every) refl in
      let mine : list_all is_of_word (b ∷ r) ≡ true = rw (e, all) refl in
      let n = all_within is_of_word (c ∷ s) more whole in
      let m : run is_of_word ((c ∷ s) ++ more) ≡ length (b ∷ r) = sym (ap (run is_of_word) q)
      ∙ run_over is_of_word (b ∷ r) rest mine stops in
      omega (arith, n, m)
  word_longest e all stops other k q (number_is c s f every fits) =
      let h : b ≡ c = cc in
      absurd (differ (begins_word b) e (rw h (digit_begins_no_word c f)))
  word_longest e all stops other k q (text_is content) = let h : b ≡ 39 = cc in absurd (differ (begins_word b) e (rw h refl))
  word_longest e all stops other k q (short_is c sign f) = omega arith
  word_longest e all stops other k q (long_is c d sign f) =
      let h : b ≡ c = cc in
      absurd (differ (begins_word b) e (rw h (long_byte c d sign f).0))

  number_longest : is_digit b ≡ true → list_all is_digit r ≡ true → Stops is_digit rest → (other : List ℕ) (k : Kind)
      → (b ∷ r) ++ rest ≡ other ++ more → Spells other k → length other ≤ suc (length r)
  number_longest e all stops other k q (word_is c s f every) =
      let h : b ≡ c = cc in
      absurd (differ (begins_word c) f (rw (← h) (digit_begins_no_word b e)))
  number_longest e all stops other k q (number_is c s f every fits) =
      let whole : list_all is_digit (c ∷ s) ≡ true = rw (f, every) refl in
      let mine : list_all is_digit (b ∷ r) ≡ true = rw (e, all) refl in
      let n = all_within is_digit (c ∷ s) more whole in
      let m : run is_digit ((c ∷ s) ++ more) ≡ length (b ∷ r) = sym (ap (run is_digit) q) ∙ run_over is_digit (b ∷ r) rest mine stops in
      omega (arith, n, m)
  number_longest e all stops other k q (text_is content) = let h : b ≡ 39 = cc in absurd (differ (is_digit b) e (rw h refl))
  number_longest e all stops other k q (short_is c sign f) = omega arith
  number_longest e all stops other k q (long_is c d sign f) =
      let h : b ≡ c = cc in
      absurd (differ (is_digit b) e (rw h (long_byte c d sign f).1))

-- no text goes on behind a closing quote that no quote follows
quotes_longest : (content rest other more : List ℕ) → Stops (λ b. b == 39) rest → between_quotes content ++ 39 ∷ rest
    ≡ between_quotes other ++ 39 ∷ more → length (between_quotes other) ≤ length (between_quotes content)
quotes_longest content rest [] more stops q = omega arith
quotes_longest [] rest (d ∷ other) more stops q = go (d == 39) refl q
  where
    go : (t : Bool) → (d == 39) ≡ t → 39 ∷ rest ≡ (if t then 39 ∷ 39 ∷ [] else d ∷ []) ++ between_quotes other ++ 39 ∷ more
        → length ((if t then 39 ∷ 39 ∷ [] else d ∷ []) ++ between_quotes other) ≤ 0
    go true e q =
        let h : rest ≡ 39 ∷ (between_quotes other ++ 39 ∷ more) = cc in
        let F : List ℕ → Type 0 = Stops (λ b. b == 39) in
        absurd (true≢false (subst F h stops))
    go false e q = let h : 39 ≡ d = cc in absurd (true≢false (rw (← h) at e))
quotes_longest (c ∷ content) rest (d ∷ other) more stops q =
    go (c == 39) (d == 39) refl refl (quotes_longest content rest other more stops) q
  where
    go : (t u : Bool) → (c == 39) ≡ t → (d == 39) ≡ u → (between_quotes content ++ 39 ∷ rest ≡ between_quotes other ++ 39 ∷ more
        → length (between_quotes other) ≤ length (between_quotes content)) → (if t then 39 ∷ 39 ∷ [] else c ∷ [])
        ++ between_quotes content ++ 39 ∷ rest ≡ (if u then 39 ∷ 39 ∷ [] else d ∷ []) ++ between_quotes other ++ 39 ∷ more
        → length ((if u then 39 ∷ 39 ∷ [] else d ∷ []) ++ between_quotes other)
        ≤ length ((if t then 39 ∷ 39 ∷ [] else c ∷ []) ++ between_quotes content)
    go true true e f ih q = let i = ih (cc) in omega arith
    go true false e f ih q = let h : 39 ≡ d = cc in absurd (true≢false (rw (← h) at f))
    go false true e f ih q = let h : c ≡ 39 = cc in absurd (true≢false (rw h at e))
    go false false e f ih q = let i = ih (cc) in omega arith

text_longest : (content rest more : List ℕ) → Stops (λ b. b == 39) rest → (other : List ℕ) (k : Kind)
    → 39 ∷ ((between_quotes content ++ 39 ∷ []) ++ rest) ≡ other ++ more → Spells other k
    → length other ≤ suc (length (between_quotes content ++ 39 ∷ []))
text_longest content rest more stops other k q (word_is c s f every) =
    let h : 39 ≡ c = cc in
    absurd (differ (begins_word c) f (rw (← h) refl))
text_longest content rest more stops other k q (number_is c s f every fits) =
    let h : 39 ≡ c = cc in
    absurd (differ (is_digit c) f (rw (← h) refl))
text_longest content rest more stops other k q (text_is held) =
    let h : (between_quotes content ++ 39 ∷ []) ++ rest ≡ (between_quotes held ++ 39 ∷ []) ++ more = cc in
    let n = quotes_longest content rest held more stops
    (sym (append_assoc (between_quotes content) (39 ∷ []) rest) ∙ h ∙ append_assoc (between_quotes held) (39 ∷ []) more) in
    omega (arith, n, length-append (between_quotes content) (39 ∷ []), length-append (between_quotes held) (39 ∷ []))
text_longest content rest more stops other k q (short_is c sign f) = omega arith
text_longest content rest more stops other k q (long_is c d sign f) =
    let h : c ≡ 39 = cc in
    absurd (differ (c == 39) (rw h refl) (long_byte c d sign f).2)

sign_first : (b : ℕ) (rest more other : List ℕ) (k : Kind) → IsSignByte b → b ∷ rest ≡ other ++ more → Spells other k → length other ≤ 2
sign_first b rest more other k i q (word_is c s f every) = let h : b ≡ c = cc in absurd (differ (begins_word c) f (rw (← h) i.0))
sign_first b rest more other k i q (number_is c s f every fits) = let h : b ≡ c = cc in absurd (differ (is_digit c) f (rw (← h) i.1))
sign_first b rest more other k i q (text_is content) = let h : b ≡ 39 = cc in absurd (differ (b == 39) (rw h refl) i.2)
sign_first b rest more other k i q (short_is c sign f) = omega arith
sign_first b rest more other k i q (long_is c d sign f) = omega arith

no_second : (b c d : ℕ) (sign s : Sign) (rest more : List ℕ) → short_sign b ≡ Some sign → ends_before (Mark sign) rest ≡ true
    → b ∷ rest ≡ c ∷ d ∷ more → long_sign c d ≡ Some s → ⊥
no_second b c d sign s [] more e n q f = cc
no_second b c d sign s (x ∷ rest) more e n q f =
    let h : b ≡ c = cc in
    let g : x ≡ d = cc in
    let l : long_sign b x ≡ None = no_long b x sign e (not_true (goes_on (Mark sign) x) n) in
    let m : ◌≡◌ {A = Option Sign} (Some s) None = sym f ∙ rw (← h, ← g) l in
    cc

short_longest : (b : ℕ) (sign : Sign) (rest more other : List ℕ) (k : Kind) → short_sign b ≡ Some sign → ends_before (Mark sign) rest ≡ true
    → b ∷ rest ≡ other ++ more → Spells other k → length other ≤ 1
short_longest b sign rest more other k e n q (word_is c s f every) =
    let h : b ≡ c = cc in
    absurd (differ (begins_word c) f (rw (← h) (short_byte b sign e).0))
short_longest b sign rest more other k e n q (number_is c s f every fits) =
    let h : b ≡ c = cc in
    absurd (differ (is_digit c) f (rw (← h) (short_byte b sign e).1))
short_longest b sign rest more other k e n q (text_is content) =
    let h : b ≡ 39 = cc in
    absurd (differ (b == 39) (rw h refl) (short_byte b sign e).2)
short_longest b sign rest more other k e n q (short_is c s f) = omega arith
short_longest b sign rest more other k e n q (long_is c d s f) = absurd (no_second b c d sign s rest more e n q f)

pub longest : (spelling rest : List ℕ) (kind : Kind) → Spells spelling kind → ends_before kind rest ≡ true
    → (other more : List ℕ) (k : Kind) → spelling ++ rest ≡ other ++ more → Spells other k → length other ≤ length spelling
longest spelling rest kind (word_is b r e all) n other more k q h =
    word_longest b r rest more e all (ends_word (str_to_ascii_lowercase (b ∷ r)) rest n) other k q h
longest spelling rest kind (number_is b r e all fits) n other more k q h =
    number_longest b r rest more e all (ends_number (pos (digits_value 10 (b ∷ r))) rest n) other k q h
longest spelling rest kind (text_is content) n other more k q h = text_longest content rest more (ends_text content rest n) other k q h
longest spelling rest kind (short_is b sign e) n other more k q h = short_longest b sign rest more other k e n q h
longest spelling rest kind (long_is b c sign e) n other more k q h = sign_first b (c ∷ rest) more other k (long_byte b c sign e) q h
