-- The faults of whole queries.
use Rattle.std.proofs.Common.{◌≡◌, ◌∙◌, sym, ap, subst, arith, ℕ, List, [], ◌∷◌, ◌++◌, append_assoc, Result, Ok, Err}
use Rattle.tql_lex.specs.declared.token.Token.{Token}
use Rattle.tql_tree.specs.Syntax.{Syntax}
use Rattle.tql_parse.specs.declared.fault.ParseFault.{ParseFault}
use Rattle.tql_parse.specs.declared.fault.ParseFault.TheVariants.{Unexpected, Ended, Deep}
use Rattle.tql_parse.specs.Grammar.{AreQueryTokens, Begins, DeepAt, UnexpectedAt, Cond}
use Rattle.tql_parse.specs.Reading.{query_at, ParseGives}
use Rattle.tql_parse.proofs.Complete.{query_is}
use Rattle.std.proofs.Common.{◌+◌, suc}
use Rattle.tql_parse.proofs.Queries.{levels_grow}
use Rattle.tql_parse.proofs.Levels.{unexpected_rises}
use Rattle.tql_parse.proofs.First.{FirstStop, first_stop, none_begins}
use Rattle.tql_parse.proofs.Parts.{begins, ended_begins}
use Rattle.tql_parse.proofs.Deeper.{one_level_more}

none_at : (n m : ℕ) (ts : List Token) (p : ℕ) (f : FirstStop n ts (Unexpected p)) → Begins m (f.before ++ f.at ∷ []) → ⊥
none_at n m ts p f b =
    let us = (f.before ++ f.at ∷ []) ++ b.more in
    let w : us ≡ f.before ++ f.at ∷ b.more = append_assoc f.before (f.at ∷ []) b.more in
    let q : AreQueryTokens (n + m) us b.tree = levels_grow Cond m (n + m) us b.tree [] b.is_query (omega arith) in
    let r : query_at (n + m) us ≡ Ok b.tree = query_is (n + m) us b.tree q in
    let stop : query_at n us ≡ Err (Unexpected p) = ap (query_at n) w ∙ f.always b.more in
    let s : ◌≡◌ {A = Result Syntax ParseFault} (Ok b.tree) (Err (Unexpected p)) = sym r
    ∙ unexpected_rises n (n + m) us p (omega arith) stop in
    cc

pub first_unexpected : (n : ℕ) (ts : List Token) (p : ℕ) → query_at n ts ≡ Err (Unexpected p) → UnexpectedAt n ts p
first_unexpected n ts p h =
    let f = first_stop n ts (Unexpected p) h tt in
    record {
      before = f.before;
      at = f.at;
      behind = f.behind;
      tokens = f.tokens;
      place_is = f.place;
      begins = begins n f.before f.goes_on;
      stops = λ m. none_at n m ts p f;
    }

pub first_deep : (n : ℕ) (ts : List Token) (p : ℕ) → query_at n ts ≡ Err (Deep p) → DeepAt n ts p
first_deep n ts p h =
    let f = first_stop n ts (Deep p) h tt in
    record {
      before = f.before;
      at = f.at;
      behind = f.behind;
      tokens = f.tokens;
      place_is = f.place;
      begins = begins n f.before f.goes_on;
      stops = none_begins n ts (Deep p) f;
      levels = suc n;
      begins_deeper = begins (suc n) (f.before ++ f.at ∷ []) (one_level_more n f.before f.at p f.goes_on (f.always []));
    }

pub ended_none : (n : ℕ) (ts : List Token) → query_at n ts ≡ Err Ended → (x : Syntax) → AreQueryTokens n ts x → ⊥
ended_none n ts h x q = let e : ◌≡◌ {A = Result Syntax ParseFault} (Err Ended) (Ok x) = sym h ∙ query_is n ts x q in cc

module _ (X : Type 0) (view : X → Syntax) (r : Result X ParseFault) (n : ℕ) (ts : List Token) (g : ParseGives view r (query_at n ts)) where
  given : (e : ParseFault) → r ≡ Err e → ParseGives view (Err e) (query_at n ts)
  given e h = let P : Result X ParseFault → Type 0 = λ r. ParseGives view r (query_at n ts) in subst P h g

  pub gives_unexpected : (p : ℕ) → r ≡ Err (Unexpected p) → UnexpectedAt n ts p
  gives_unexpected p h = first_unexpected n ts p (given (Unexpected p) h)

  pub gives_deep : (p : ℕ) → r ≡ Err (Deep p) → DeepAt n ts p
  gives_deep p h = first_deep n ts p (given (Deep p) h)

  pub gives_ended : r ≡ Err Ended → Begins n ts × ((x : Syntax) → AreQueryTokens n ts x → ⊥)
  gives_ended h = (ended_begins n ts (given Ended h), ended_none n ts (given Ended h))
