-- The tokens of a text are in order and within it, and no number is below 0.
use Rattle.std.proofs.Common.{◌≡◌, ap, refl, arith, ℕ, suc, List, [], ◌∷◌, ◌++◌, ◌+◌, ◌≤◌, ◌<◌, length, length-append, Bool, true, false}
use Rattle.std.proofs.Common.{if◌then◌else◌, Result, Ok, Err}
use Rattle.std.specs.Prelude.{IfOk, nat_lt}
use Rattle.std.proofs.lemmas.Bool.{ltb-false}
use Rattle.std.proofs.lemmas.Int.{ints}
use Rattle.tql_lex.specs.declared.kind.Kind.{Kind}
use Rattle.tql_lex.specs.declared.token.Token.{Token}
use Rattle.tql_lex.specs.declared.fault.LexFault.{LexFault}
use Rattle.tql_lex.specs.declared.fault.LexFault.TheVariants as F
use Rattle.tql_lex.specs.Tokens.{tokens_from, lexed}
use Rattle.tql_lex.specs.Spelling.{Spells, word_is, number_is, text_is, short_is, long_is, AreTokens, none, blank, one, in_order}
use Rattle.tql_lex.specs.Spelling.{IsNotBelow, no_number_below}
use Rattle.tql_lex.specs.Gives.{LexGives}
use Rattle.tql_lex.proofs.Spelled.{first_of}
use Rattle.tql_lex.proofs.Spelling.{lexed_are}

from_before : (from end : ℕ) (tokens : List Token) → in_order (from + 1) tokens end → in_order from tokens end
from_before from end [] h = omega arith
from_before from end (t ∷ tokens) h = (omega (arith, h.0), h.1, h.2)

spelled_some : (s : List ℕ) (kind : Kind) → Spells s kind → 0 < length s
spelled_some s kind h = let f = first_of s kind h in let e : length s ≡ suc (length f.others) = ap length f.is in omega arith

are_in_order : (place : ℕ) (text : List ℕ) (tokens : List Token) → AreTokens place text tokens → in_order place tokens (place + length text)
are_in_order place text tokens (none p) = omega arith
are_in_order place text tokens (blank p b rest ts e h) =
    let k : p + 1 + length rest ≡ p + suc (length rest) = omega arith in
    from_before p (p + suc (length rest)) ts (rw k at (are_in_order (p + 1) rest ts h))
are_in_order place text tokens (one p s rest kind ts h n more) =
    let some = spelled_some s kind h in
    let k : p + length s + length rest ≡ p + length (s ++ rest) = omega (arith, length-append s rest) in
    (omega arith, omega arith, rw k at (are_in_order (p + length s) rest ts more))

not_below : (s : List ℕ) (kind : Kind) → Spells s kind → IsNotBelow kind
not_below s kind (word_is b r e all) = tt
not_below s kind (number_is b r e all fits) = omega (arith, ints)
not_below s kind (text_is content) = tt
not_below s kind (short_is b sign e) = tt
not_below s kind (long_is b c sign e) = tt

are_not_below : (place : ℕ) (text : List ℕ) (tokens : List Token) → AreTokens place text tokens → no_number_below tokens
are_not_below place text tokens (none p) = tt
are_not_below place text tokens (blank p b rest ts e h) = are_not_below (p + 1) rest ts h
are_not_below place text tokens (one p s rest kind ts h n more) = (not_below s kind h, are_not_below (p + length s) rest ts more)

pub lexed_within : (text : List ℕ) (tokens : List Token) → lexed text ≡ Ok tokens → length text ≤ 4096
lexed_within text tokens e = go (nat_lt 4096 (length text)) refl e
  where
    go : (long : Bool) → nat_lt 4096 (length text) ≡ long
        → (if long then Err (F.TooLong (length text)) else tokens_from 0 0 text) ≡ Ok tokens → length text ≤ 4096
    go true q e = absurd (cc)
    go false q e = ltb-false 4096 (length text) q

pub lexed_order : (text : List ℕ) (tokens : List Token) → lexed text ≡ Ok tokens → in_order 0 tokens (length text)
lexed_order text tokens e =
    let k : 0 + length text ≡ length text = omega arith in
    rw k at (are_in_order 0 text tokens (lexed_are text tokens e))

pub lexed_numbers : (text : List ℕ) (tokens : List Token) → lexed text ≡ Ok tokens → no_number_below tokens
lexed_numbers text tokens e = are_not_below 0 text tokens (lexed_are text tokens e)

pub gives_order : {X : Type 0} (text : List ℕ) (r : Result X LexFault) (view : X → List Token) → LexGives view r (lexed text)
    → IfOk r (λ x. in_order 0 (view x) (length text))
gives_order text (Ok x) view g = lexed_order text (view x) g
gives_order text (Err fault) view g = tt

pub gives_numbers : {X : Type 0} (text : List ℕ) (r : Result X LexFault) (view : X → List Token) → LexGives view r (lexed text)
    → IfOk r (λ x. no_number_below (view x))
gives_numbers text (Ok x) view g = lexed_numbers text (view x) g
gives_numbers text (Err fault) view g = tt
