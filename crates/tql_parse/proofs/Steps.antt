-- What was read has a property.
use Rattle.std.proofs.Common.{◌≡◌, refl, subst, List, [], ◌∷◌, Bool, true, false, Ok, Err, if◌then◌else◌}
use Rattle.tql_lex.specs.declared.kind.Kind.{Kind}
use Rattle.tql_lex.specs.declared.token.Token.{Token}
use Rattle.tql_parse.specs.declared.fault.ParseFault.TheVariants.{Unexpected}
use Rattle.tql_parse.specs.Reading.{Read, ◌>>=◌, one}

-- what was read has the property
abbrev pub On : {A : Type 0} → (A → List Token → Type 0) → Read A → Type 0
On P (Ok x) = P x.0 x.1
On P (Err e) = Unit {0}

pub on_bind : {A B : Type 0} (Q : A → List Token → Type 0) (P : B → List Token → Type 0) (r : Read A) (f : A × List Token → Read B) → On Q r
    → ((x : A × List Token) → Q x.0 x.1 → On P (f x)) → On P (r >>= f)
on_bind Q P (Ok x) f q h = h x q
on_bind Q P (Err e) f q h = tt

pub on_map : {A : Type 0} (Q P : A → List Token → Type 0) (r : Read A) → On Q r → ((a : A) (rest : List Token) → Q a rest → P a rest)
    → On P r
on_map Q P (Ok x) q h = h x.0 x.1 q
on_map Q P (Err e) q h = tt

pub on_ok : {A : Type 0} (P : A → List Token → Type 0) (r : Read A) (x : A × List Token) → On P r → r ≡ Ok x → P x.0 x.1
on_ok P r x h e = let F : Read _ → Type 0 = On P in subst F e h

-- the next token passes the test
abbrev pub Next : (Kind → Bool) → List Token → Token → List Token → Type 0
Next test ts t rest = (ts ≡ t ∷ rest) × (test t.kind ≡ true)

pub on_one : (test : Kind → Bool) (ts : List Token) → On (Next test ts) (one test ts)
on_one test [] = tt
on_one test (t ∷ rest) =
    elim (test t.kind) as (λ b. test t.kind ≡ b → On (Next test (t ∷ rest)) (if b then Ok (t, rest) else Err (Unexpected t.place))) [
      | true ↦ λ e. (refl, e)
      | false ↦ λ e. tt
    ] refl
