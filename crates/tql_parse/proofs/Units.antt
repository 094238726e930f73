-- A unit by what it begins with.
use Rattle.std.proofs.Common.{◌≡◌, ◌∙◌, ap, refl, arith, ℕ, zero, suc, ◌-◌, List, [], ◌∷◌, drop, Ok, Err, ◌<◌}
use Rattle.tql_lex.specs.declared.sign.Sign.TheVariants as S
use Rattle.tql_lex.specs.declared.token.Token.{Token}
use Rattle.tql_tree.specs.Syntax.{Syntax, True, False}
use Rattle.tql_parse.specs.declared.key.Key.{Key}
use Rattle.tql_parse.specs.declared.key.Key.TheVariants as K
use Rattle.tql_parse.specs.declared.key.Opening.{Opening}
use Rattle.tql_parse.specs.declared.key.Opening.TheVariants as O
use Rattle.tql_parse.specs.declared.fault.ParseFault.{ParseFault}
use Rattle.tql_parse.specs.declared.fault.ParseFault.TheVariants as F
use Rattle.tql_parse.specs.declared.fault.ParseFault.TheVariants.{Ended}
use Rattle.tql_parse.specs.Keys.{key, opening, opening_of}
use Rattle.tql_parse.specs.Reading.{Read, compare_at, group_with, exists_with, not_with, deeper, flat, deep_at, unit_at, ParseFails}

-- the unit that begins so
abbrev pub by_opening : (List Token → Read Syntax) → Opening → Token → List Token → Read Syntax
by_opening unit O.End t rest = compare_at (t ∷ rest)
by_opening unit O.Truth t rest = Ok (True, rest)
by_opening unit O.Falsity t rest = Ok (False, rest)
by_opening unit O.Negation t rest = not_with unit rest
by_opening unit O.Group t rest = group_with unit rest
by_opening unit O.Quantifier t rest = exists_with unit rest
by_opening unit O.Comparison t rest = compare_at (t ∷ rest)

deeper_is : (unit : List Token → Read Syntax) (k : Key) (t : Token) (rest : List Token)
    → deeper unit k t rest ≡ by_opening unit (opening k) t rest
deeper_is unit K.Not t rest = refl
deeper_is unit (K.Mark S.Open) t rest = refl
deeper_is unit K.Exists t rest = refl
deeper_is unit K.True t rest = refl
deeper_is unit K.False t rest = refl
deeper_is unit _ t rest = refl

abbrev pub flat_opening : Opening → Token → List Token → Read Syntax
flat_opening O.End t rest = compare_at (t ∷ rest)
flat_opening O.Truth t rest = Ok (True, rest)
flat_opening O.Falsity t rest = Ok (False, rest)
flat_opening O.Negation t rest = Err (deep_at (t ∷ rest))
flat_opening O.Group t rest = Err (deep_at (t ∷ rest))
flat_opening O.Quantifier t rest = Err (deep_at (t ∷ rest))
flat_opening O.Comparison t rest = compare_at (t ∷ rest)

flat_is : (k : Key) (t : Token) (rest : List Token) → flat k t rest ≡ flat_opening (opening k) t rest
flat_is K.Not t rest = refl
flat_is (K.Mark S.Open) t rest = refl
flat_is K.Exists t rest = refl
flat_is K.True t rest = refl
flat_is K.False t rest = refl
flat_is _ t rest = refl

pub at_zero : (t : Token) (rest : List Token) (o : Opening) → opening_of (t ∷ rest) ≡ o → unit_at 0 (t ∷ rest) ≡ flat_opening o t rest
unfolding unit_at
at_zero t rest o e = flat_is (key t.kind) t rest ∙ ap (λ p. flat_opening p t rest) e

pub at_suc : (n : ℕ) (t : Token) (rest : List Token) (o : Opening) → opening_of (t ∷ rest) ≡ o
    → unit_at (suc n) (t ∷ rest) ≡ by_opening (unit_at n) o t rest
unfolding unit_at
at_suc n t rest o e = deeper_is (unit_at n) (key t.kind) t rest ∙ ap (λ p. by_opening (unit_at n) p t rest) e

pub unit_end : (n : ℕ) (ts : List Token) → opening_of ts ≡ O.End → unit_at n ts ≡ Err Ended
unfolding unit_at
unit_end n [] e = refl
unit_end n (t ∷ rest) e = absurd (never (key t.kind) e)
  where
    never : (k : Key) → opening k ≡ O.End → ⊥
    never K.Not e = cc
    never (K.Mark S.Open) e = cc
    never K.Exists e = cc
    never K.True e = cc
    never K.False e = cc
    never _ e = cc

pub unit_true : (n : ℕ) (ts : List Token) → opening_of ts ≡ O.Truth → unit_at n ts ≡ Ok (True, drop 1 ts)
unit_true n [] e = absurd (cc)
unit_true zero (t ∷ rest) e = at_zero t rest O.Truth e
unit_true (suc n) (t ∷ rest) e = at_suc n t rest O.Truth e

pub unit_false : (n : ℕ) (ts : List Token) → opening_of ts ≡ O.Falsity → unit_at n ts ≡ Ok (False, drop 1 ts)
unit_false n [] e = absurd (cc)
unit_false zero (t ∷ rest) e = at_zero t rest O.Falsity e
unit_false (suc n) (t ∷ rest) e = at_suc n t rest O.Falsity e

pub unit_compare : (n : ℕ) (ts : List Token) → opening_of ts ≡ O.Comparison → unit_at n ts ≡ compare_at ts
unit_compare n [] e = absurd (cc)
unit_compare zero (t ∷ rest) e = at_zero t rest O.Comparison e
unit_compare (suc n) (t ∷ rest) e = at_suc n t rest O.Comparison e

one_less : (n : ℕ) → suc n - 1 ≡ n
one_less n = omega arith

pub unit_not : (n : ℕ) (ts : List Token) → opening_of ts ≡ O.Negation → 0 < n → unit_at n ts ≡ not_with (unit_at (n - 1)) (drop 1 ts)
unit_not n [] e lt = absurd (cc)
unit_not zero (t ∷ rest) e lt = absurd (omega arith)
unit_not (suc n) (t ∷ rest) e lt = rw (one_less n) (at_suc n t rest O.Negation e)

pub unit_group : (n : ℕ) (ts : List Token) → opening_of ts ≡ O.Group → 0 < n → unit_at n ts ≡ group_with (unit_at (n - 1)) (drop 1 ts)
unit_group n [] e lt = absurd (cc)
unit_group zero (t ∷ rest) e lt = absurd (omega arith)
unit_group (suc n) (t ∷ rest) e lt = rw (one_less n) (at_suc n t rest O.Group e)

pub unit_exists : (n : ℕ) (ts : List Token) → opening_of ts ≡ O.Quantifier → 0 < n
    → unit_at n ts ≡ exists_with (unit_at (n - 1)) (drop 1 ts)
unit_exists n [] e lt = absurd (cc)
unit_exists zero (t ∷ rest) e lt = absurd (omega arith)
unit_exists (suc n) (t ∷ rest) e lt = rw (one_less n) (at_suc n t rest O.Quantifier e)

pub not_deep : (n : ℕ) (ts : List Token) → opening_of ts ≡ O.Negation → n ≡ 0 → unit_at n ts ≡ Err (deep_at ts)
not_deep n [] e z = absurd (cc)
not_deep n (t ∷ rest) e z = rw z (at_zero t rest O.Negation e)

pub group_deep : (n : ℕ) (ts : List Token) → opening_of ts ≡ O.Group → n ≡ 0 → unit_at n ts ≡ Err (deep_at ts)
group_deep n [] e z = absurd (cc)
group_deep n (t ∷ rest) e z = rw z (at_zero t rest O.Group e)

pub exists_deep : (n : ℕ) (ts : List Token) → opening_of ts ≡ O.Quantifier → n ≡ 0 → unit_at n ts ≡ Err (deep_at ts)
exists_deep n [] e z = absurd (cc)
exists_deep n (t ∷ rest) e z = rw z (at_zero t rest O.Quantifier e)

pub fails_itself : (e : ParseFault) → ParseFails {Y = Syntax × List Token} e (Err e)
fails_itself F.Memory = tt
fails_itself F.Ended = refl
fails_itself (F.Unexpected p) = refl
fails_itself (F.Deep p) = refl
