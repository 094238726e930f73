-- A text has a fault if and only if its cause stands behind whole tokens.
use Rattle.std.proofs.Common.{◌≡◌, ◌∙◌, sym, ap, refl, subst, arith, ℕ, zero, suc, pos, List, [], ◌∷◌, ◌++◌, ◌+◌, ◌-◌, ◌≤◌, ◌<◌, take, drop}
use Rattle.std.proofs.Common.{length, get_or, append_assoc, Bool, true, false, if◌then◌else◌, Option, Some, None, Result, Ok, Err}
use Rattle.std.specs.Prelude.{◌==◌, nat_lt}
use Rattle.std.specs.List.{list_all}
use Rattle.std.specs.Str.Parse.{digits_value}
use Rattle.std.proofs.lemmas.Bool.Decides.{nat_tests}
use Rattle.std.proofs.lemmas.Bool.{true≢false, ltb-true, lt-ltb, and_parts}
use Rattle.std.proofs.lemmas.List.{take-append-drop, length-take-le}
use Rattle.std.proofs.Math.Seq.{take-append_seam}
use Rattle.tql_lex.specs.declared.sign.Sign.{Sign}
use Rattle.tql_lex.specs.declared.kind.Kind.{Kind}
use Rattle.tql_lex.specs.declared.kind.Kind.TheVariants.{Number, Str, Mark}
use Rattle.tql_lex.specs.declared.token.Token.{Token}
use Rattle.tql_lex.specs.declared.fault.LexFault.{LexFault}
use Rattle.tql_lex.specs.declared.fault.LexFault.TheVariants as F
use Rattle.tql_lex.specs.Tokens.{is_between_tokens, begins_word, is_digit, run, quoted, short_sign, long_sign, most, token, word_token}
use Rattle.tql_lex.specs.Tokens.{number_token, text_token, sign_token, token_at, tokens_from, onto, with_front, lexed}
use Rattle.tql_lex.specs.Spelling.{between_quotes, Spells, word_is, number_is, text_is, short_is, long_is, ends_before}
use Rattle.tql_lex.specs.Faults.{Reaches, here, blank, one, HasFault, FaultIn}
use Rattle.tql_lex.proofs.Runs.{run_all, lexed-short}
use Rattle.tql_lex.proofs.Spelled.{Stops, run_over, quoted_over, ends_text, digit_begins_no_word, spelling_step}
use Rattle.tql_lex.proofs.Spelling.{Spelled, OnToken, on_token, OnQuoted, on_quoted, run_of, run_ends, text_ends}

-- the cause of a fault stands here
abbrev OnFault : ℕ → List ℕ → Result Token LexFault → Type 0
OnFault place text (Ok t) = Unit {0}
OnFault place text (Err fault) = HasFault text fault place

stops_all : (rest : List ℕ) → Stops is_digit rest → (b : ℕ) (more : List ℕ) → rest ≡ b ∷ more → is_digit b ≡ false
stops_all rest s b more e = let F : List ℕ → Type 0 = Stops is_digit in subst F e s

big_by : (place b m : ℕ) (rest : List ℕ) (v : Bool) → m ≡ run is_digit rest → is_digit b ≡ true
    → nat_lt most (digits_value 10 (b ∷ take m rest)) ≡ v → OnFault place (b ∷ rest)
    (if v then Err (F.BigNumber place) else Ok (token (Number (pos (digits_value 10 (b ∷ take m rest)))) place (suc m)))
big_by place b m rest true h e q =
    let all : list_all is_digit (take m rest) ≡ true = rw h (run_all is_digit rest) in
    let stops : Stops is_digit (drop m rest) = rw h (run_ends is_digit rest) in (
      refl,
      record {
        digit = b;
        digits = take m rest;
        behind = drop m rest;
        is = ap (λ r. b ∷ r) (sym (take-append-drop m rest));
        all_digits =
            rw (e, all) refl;
        no_more = stops_all (drop m rest) stops;
        too_great = ltb-true most (digits_value 10 (b ∷ take m rest)) q;
      },
    )
big_by place b m rest false h e q = tt

big_number : (place b : ℕ) (rest : List ℕ) → is_digit b ≡ true → OnFault place (b ∷ rest) (number_token place (b ∷ rest))
big_number place b rest e =
    let m = run is_digit rest in
    let n : run is_digit (b ∷ rest) ≡ suc m = run_of is_digit b rest e in
    let G : ℕ → Type 0 = λ n. OnFault place (b ∷ rest) (if nat_lt most (digits_value 10 (take n (b ∷ rest))) then Err (F.BigNumber place)
    else Ok (token (Number (pos (digits_value 10 (take n (b ∷ rest))))) place n)) in
    subst G (sym n) (big_by place b m rest (nat_lt most (digits_value 10 (b ∷ take m rest))) refl e refl)

no_end : (rest : List ℕ) → quoted rest ≡ None → (content behind : List ℕ) → rest ≡ between_quotes content ++ 39 ∷ behind
    → ends_before (Str content) behind ≡ true → ⊥
no_end rest n content behind e h =
    let q = quoted_over content behind (ends_text content behind h) in
    let w : ◌≡◌ {A = Option (List ℕ × ℕ)} None (Some (content, length (between_quotes content) + 1)) = sym n ∙ ap quoted e ∙ q in
    cc

open_string : (place b : ℕ) (rest : List ℕ) (o : Option (List ℕ × ℕ)) → (b == 39) ≡ true → quoted rest ≡ o
    → OnFault place (b ∷ rest) (text_token place o)
open_string place b rest None e q =
    let is : b ≡ 39 = grind (arith, nat_tests) in
    (refl, record { behind = rest; is = rw is refl; has_no_end = no_end rest q })
open_string place b rest (Some x) e q = tt

long_is_short : (b c : ℕ) (sign : Sign) → long_sign b c ≡ Some sign → short_sign b ≡ None → ⊥
long_is_short b c sign e f = grind (arith, nat_tests)

differ : (x : Bool) → x ≡ true → x ≡ false → ⊥
differ x a b = true≢false (sym a ∙ b)

sign_begins : (b : ℕ) (s : List ℕ) (k : Kind) → begins_word b ≡ false → is_digit b ≡ false → (b == 39) ≡ false → short_sign b ≡ None
    → Spells s k → (others : List ℕ) → s ≡ b ∷ others → ⊥
sign_begins b s k w d q n (word_is c r e all) others h = let g : c ≡ b = cc in differ (begins_word c) e (rw g w)
sign_begins b s k w d q n (number_is c r e all fits) others h = let g : c ≡ b = cc in differ (is_digit c) e (rw g d)
sign_begins b s k w d q n (text_is content) others h = let g : b ≡ 39 = cc in differ (b == 39) (rw g refl) q
sign_begins b s k w d q n (short_is c sign e) others h =
    let g : c ≡ b = cc in
    let f : ◌≡◌ {A = Option Sign} None (Some sign) = sym n ∙ rw (← g) e in
    cc
sign_begins b s k w d q n (long_is c x sign e) others h = let g : c ≡ b = cc in long_is_short c x sign e (rw g n)

bad_byte : (place b : ℕ) (rest : List ℕ) (l o : Option Sign) → is_between_tokens b ≡ false → begins_word b ≡ false → is_digit b ≡ false
    → (b == 39) ≡ false → short_sign b ≡ o → OnFault place (b ∷ rest) (sign_token place l o)
bad_byte place b rest (Some x) o n w d q e = tt
bad_byte place b rest None (Some x) n w d q e = tt
bad_byte place b rest None None n w d q e = (
  refl,
  record {
    byte = b;
    behind = rest;
    is = refl;
    is_no_blank = n;
    begins_nothing = λ others k h. sign_begins b (b ∷ others) k w d q e h others refl;
  },
)

on_fault : (place b : ℕ) (rest : List ℕ) → is_between_tokens b ≡ false → OnFault place (b ∷ rest) (token_at place (b ∷ rest))
on_fault place b rest n = go (begins_word b) (is_digit b) (b == 39) refl refl refl
  where
    go : (w d q : Bool) → begins_word b ≡ w → is_digit b ≡ d → (b == 39) ≡ q
        → OnFault place (b ∷ rest) (if w then word_token place (b ∷ rest) else if d then number_token place (b ∷ rest) else if q
        then text_token place (quoted (drop 1 (b ∷ rest))) else sign_token place (long_sign b (get_or (b ∷ rest) 1 0)) (short_sign b))
    go true d q e f g = tt
    go false true q e f g = big_number place b rest f
    go false false true e f g = open_string place b rest (quoted rest) g refl
    go false false false e f g = bad_byte place b rest (long_sign b (get_or (b ∷ rest) 1 0)) (short_sign b) n e f g refl

abbrev OnFaults : ℕ → List ℕ → Result (List Token) LexFault → Type 0
OnFaults place text (Ok tokens) = Unit {0}
OnFaults place text (Err fault) = FaultIn place text fault

behind_blank : (place b : ℕ) (rest : List ℕ) (r : Result (List Token) LexFault) → is_between_tokens b ≡ true → OnFaults (place + 1) rest r
    → OnFaults place (b ∷ rest) r
behind_blank place b rest (Ok tokens) e h = tt
behind_blank place b rest (Err fault) e h =
    record { at = h.at; rest = h.rest; reaches = blank place b rest h.at h.rest e h.reaches; cause = h.cause }

behind_one : (place b : ℕ) (rest : List ℕ) (t : Token) (r : Result (List Token) LexFault) → (s : Spelled place (b ∷ rest) t)
    → OnFaults (place + s.len) (drop s.len (b ∷ rest)) r → OnFaults place (b ∷ rest) (with_front (t ∷ []) r)
behind_one place b rest t (Ok tokens) s h = tt
behind_one place b rest t (Err fault) s h =
    let l : length (take s.len (b ∷ rest)) ≡ s.len = length-take-le s.len (b ∷ rest) s.inside in
    let G : ℕ → Type 0 = λ n. Reaches (place + n) (drop s.len (b ∷ rest)) h.at h.rest in
    let a : Reaches place (take s.len (b ∷ rest) ++ drop s.len (b ∷ rest)) h.at h.rest =
    one place (take s.len (b ∷ rest)) (drop s.len (b ∷ rest)) t.kind h.at h.rest s.spells s.ends (subst G (sym l) h.reaches) in
    let H : List ℕ → Type 0 = λ text. Reaches place text h.at h.rest in
    record { at = h.at; rest = h.rest; reaches = subst H (take-append-drop s.len (b ∷ rest)) a; cause = h.cause }

behind_onto : (place b : ℕ) (rest : List ℕ) (r : Result Token LexFault) → OnToken place (b ∷ rest) r → OnFault place (b ∷ rest) r
    → ((k : ℕ) → OnFaults (place + 1 + k) (drop k rest) (tokens_from k (place + 1) rest))
    → OnFaults place (b ∷ rest) (onto r (λ end. tokens_from (end - (place + 1)) (place + 1) rest))
behind_onto place b rest (Err fault) h f ih = record { at = place; rest = b ∷ rest; reaches = here place (b ∷ rest); cause = f }
behind_onto place b rest (Ok t) s f ih =
    let k = t.end - (place + 1) in
    let n : t.end ≡ place + s.len = ap (λ t. t.end) s.is in
    let some = s.some in
    let p : place + 1 + k ≡ place + s.len = omega arith in
    let q : suc k ≡ s.len = omega arith in
    let F : ℕ → Type 0 = λ at. OnFaults at (drop k rest) (tokens_from k (place + 1) rest) in
    let G : ℕ → Type 0 = λ m. OnFaults (place + s.len) (drop m (b ∷ rest)) (tokens_from k (place + 1) rest) in
    behind_one place b rest t (tokens_from k (place + 1) rest) s (subst G q (subst F p (ih k)))

on_faults : (inside place : ℕ) (text : List ℕ) → OnFaults (place + inside) (drop inside text) (tokens_from inside place text)
on_faults zero place [] = tt
on_faults (suc inside) place [] = tt
on_faults (suc inside) place (b ∷ rest) =
    let e : place + suc inside ≡ place + 1 + inside = omega arith in
    rw e (on_faults inside (place + 1) rest)
on_faults zero place (b ∷ rest) =
    let none : place + 0 ≡ place = omega arith in
    let more : place + 1 + 0 ≡ place + 1 = omega arith in
    let F : ℕ → Type 0 = λ at. OnFaults at rest (tokens_from 0 (place + 1) rest) in
    let G : ℕ → Type 0 = λ at. OnFaults at (b ∷ rest) (if is_between_tokens b then tokens_from zero (place + 1) rest
    else onto (token_at place (b ∷ rest)) (λ end. tokens_from (end - (place + 1)) (place + 1) rest)) in
    subst G (sym none) (elim (is_between_tokens b) as (λ t. is_between_tokens b ≡ t → OnFaults place (b ∷ rest) (if t then tokens_from zero
    (place + 1) rest else onto (token_at place (b ∷ rest)) (λ end. tokens_from (end - (place + 1)) (place + 1) rest))) [
      | true ↦ λ e. behind_blank place b rest (tokens_from 0 (place + 1) rest) e (subst F more (on_faults 0 (place + 1) rest))
      | false ↦ λ e. behind_onto place b rest (token_at place (b ∷ rest)) (on_token place b rest) (on_fault place b rest e) (λ k.
          on_faults k (place + 1) rest)
    ] refl)

-- a fault of a text that isn't too long has its cause
pub fault_has_cause : (text : List ℕ) (fault : LexFault) → length text ≤ 4096 → lexed text ≡ Err fault → FaultIn 0 text fault
fault_has_cause text fault short e =
    let F : Result (List Token) LexFault → Type 0 = OnFaults 0 text in
    subst F (sym (lexed-short text short) ∙ e) (on_faults 0 0 text)

-- what begins nothing is no letter, digit, quote or sign
module _ (b : ℕ) (nothing : (others : List ℕ) (kind : Kind) → Spells (b ∷ others) kind → ⊥) where
  no_letter : begins_word b ≡ false
  no_letter = go (begins_word b) refl
    where
      go : (t : Bool) → begins_word b ≡ t → begins_word b ≡ false
      go true e = absurd (nothing [] _ (word_is b [] e refl))
      go false e = e

  one_digit : is_digit b ≡ true → digits_value 10 (b ∷ []) ≤ most
  one_digit e = grind (arith, nat_tests)

  no_digit : is_digit b ≡ false
  no_digit = go (is_digit b) refl
    where
      go : (t : Bool) → is_digit b ≡ t → is_digit b ≡ false
      go true e = absurd (nothing [] _ (number_is b [] e refl (one_digit e)))
      go false e = e

  no_quote : (b == 39) ≡ false
  no_quote = go (b == 39) refl
    where
      F : ℕ → Type 0
      F c = Spells (c ∷ 39 ∷ []) (Str [])

      go : (t : Bool) → (b == 39) ≡ t → (b == 39) ≡ false
      go true e = let is : b ≡ 39 = grind (arith, nat_tests) in absurd (nothing (39 ∷ []) (Str []) (subst F (sym is) (text_is [])))
      go false e = e

  no_short : short_sign b ≡ None
  no_short = go (short_sign b) refl
    where
      go : (o : Option Sign) → short_sign b ≡ o → short_sign b ≡ None
      go None e = e
      go (Some sign) e = absurd (nothing [] (Mark sign) (short_is b sign e))

  no_long : (c : ℕ) → long_sign b c ≡ None
  no_long c = go (long_sign b c) refl
    where
      go : (o : Option Sign) → long_sign b c ≡ o → long_sign b c ≡ None
      go None e = e
      go (Some sign) e = absurd (nothing (c ∷ []) (Mark sign) (long_is b c sign e))

  byte_is_bad : (place : ℕ) (rest : List ℕ) → token_at place (b ∷ rest) ≡ Err (F.BadByte place)
  byte_is_bad place rest = rw (no_letter, no_digit, no_quote, no_long (get_or (b ∷ rest) 1 0), no_short) refl

string_is_open : (place : ℕ) (rest : List ℕ)
    → ((content behind : List ℕ) → rest ≡ between_quotes content ++ 39 ∷ behind → ends_before (Str content) behind ≡ true → ⊥)
    → token_at place (39 ∷ rest) ≡ Err (F.OpenString place)
string_is_open place rest endless = ap (text_token place) (go (quoted rest) refl (on_quoted rest))
  where
    go : (o : Option (List ℕ × ℕ)) → quoted rest ≡ o → OnQuoted rest o → quoted rest ≡ None
    go None e h = e
    go (Some x) e h = absurd (endless x.0 (drop x.1 rest) (sym (take-append-drop x.1 rest) ∙ ap (λ s. s ++ drop x.1 rest) h.0
        ∙ append_assoc (between_quotes x.0) (39 ∷ []) (drop x.1 rest)) (text_ends x.0 (drop x.1 rest) h.1))

stops_from : (rest : List ℕ) → ((b : ℕ) (more : List ℕ) → rest ≡ b ∷ more → is_digit b ≡ false) → Stops is_digit rest
stops_from [] h = tt
stops_from (b ∷ more) h = h b more refl

number_is_big : (place b : ℕ) (r rest : List ℕ) → list_all is_digit (b ∷ r) ≡ true → Stops is_digit rest → most < digits_value 10 (b ∷ r)
    → token_at place ((b ∷ r) ++ rest) ≡ Err (F.BigNumber place)
number_is_big place b r rest all stops great =
    let e : is_digit b ≡ true = (and_parts (is_digit b) (list_all is_digit r) all).0 in
    let w : begins_word b ≡ false = digit_begins_no_word b e in
    let n : run is_digit ((b ∷ r) ++ rest) ≡ length (b ∷ r) = run_over is_digit (b ∷ r) rest all stops in
    let is_number : token_at place ((b ∷ r) ++ rest) ≡ number_token place ((b ∷ r) ++ rest) = rw (w, e) refl in
    let of : ℕ → List ℕ → Result Token LexFault = λ n ds. if nat_lt most (digits_value 10 ds) then Err (F.BigNumber place)
    else Ok (token (Number (pos (digits_value 10 ds))) place n) in
    let big : nat_lt most (digits_value 10 (b ∷ r)) ≡ true = lt-ltb most (digits_value 10 (b ∷ r)) great in
    is_number ∙ ap (λ n. of n (take n ((b ∷ r) ++ rest))) n ∙ ap (of (length (b ∷ r))) (take-append_seam (b ∷ r) rest) ∙ rw big refl

front_fault : (place b : ℕ) (rest : List ℕ) (fault : LexFault) → is_between_tokens b ≡ false → token_at place (b ∷ rest) ≡ Err fault
    → tokens_from 0 place (b ∷ rest) ≡ Err fault
front_fault place b rest fault calm e =
    let others : ℕ → Result (List Token) LexFault = λ end. tokens_from (end - (place + 1)) (place + 1) rest in
    let front : tokens_from 0 place (b ∷ rest) ≡ onto (token_at place (b ∷ rest)) others = rw calm refl in
    front ∙ ap (λ r. onto r others) e

digit_no_blank : (b : ℕ) → is_digit b ≡ true → is_between_tokens b ≡ false
digit_no_blank b e = grind (arith, nat_tests)

cause_here : (place : ℕ) (text : List ℕ) (fault : LexFault) → HasFault text fault place → tokens_from 0 place text ≡ Err fault
cause_here place text (F.BadByte p) h =
    let c = h.1 in
    rw (h.0, c.is) (front_fault place c.byte c.behind (F.BadByte place) c.is_no_blank (byte_is_bad c.byte c.begins_nothing place c.behind))
cause_here place text (F.OpenString p) h =
    let c = h.1 in
    rw (h.0, c.is) (front_fault place 39 c.behind (F.OpenString place) refl (string_is_open place c.behind c.has_no_end))
cause_here place text (F.BigNumber p) h =
    let c = h.1 in
    let e : is_digit c.digit ≡ true = (and_parts (is_digit c.digit) (list_all is_digit c.digits) c.all_digits).0 in
    rw (h.0, c.is) (front_fault place c.digit (c.digits ++ c.behind) (F.BigNumber place) (digit_no_blank c.digit e)
    (number_is_big place c.digit c.digits c.behind c.all_digits (stops_from c.behind c.no_more) c.too_great))
cause_here place text (F.TooLong n) h = absurd h
cause_here place text F.Memory h = absurd h

reached : (place : ℕ) (text : List ℕ) (end : ℕ) (rest : List ℕ) (fault : LexFault) → Reaches place text end rest
    → tokens_from 0 end rest ≡ Err fault → tokens_from 0 place text ≡ Err fault
reached place text end rest fault (here p t) e = e
reached place text end rest fault (blank p b t q r c h) e = rw c (reached (p + 1) t q r fault h e)
reached place text end rest fault (one p s t kind q r h n more) e = spelling_step p s t kind h n
    ∙ ap (with_front (token kind p (length s) ∷ [])) (reached (p + length s) t q r fault more e)

-- a text with the cause of a fault has the fault
pub cause_gives_fault : (text : List ℕ) (fault : LexFault) → length text ≤ 4096 → FaultIn 0 text fault → lexed text ≡ Err fault
cause_gives_fault text fault short f = lexed-short text short
    ∙ reached 0 text f.at f.rest fault f.reaches (cause_here f.at f.rest fault f.cause)

pub long_is_too_long : (text : List ℕ) → 4096 < length text → lexed text ≡ Err (F.TooLong (length text))
long_is_too_long text long = let e : nat_lt 4096 (length text) ≡ true = lt-ltb 4096 (length text) long in rw e refl
