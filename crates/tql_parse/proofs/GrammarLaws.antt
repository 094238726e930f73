-- The reader gives the trees of the grammar, and the faults that it defines.
use Rattle.std.proofs.Common.{◌≡◌, ◌∙◌, refl, sym, ap, subst, ℕ, List, [], ◌∷◌, ◌++◌, append_assoc, Result, Ok, Err}
use Rattle.std.proofs.lemmas.List.{append-nil}
use Rattle.tql_lex.specs.declared.token.Token.{Token}
use Rattle.tql_tree.specs.Syntax.{Syntax}
use Rattle.tql_parse.specs.declared.fault.ParseFault.{ParseFault}
use Rattle.tql_parse.specs.declared.fault.ParseFault.TheVariants.{Unexpected, Ended, Deep, Memory}
use Rattle.tql_parse.specs.Grammar.{AreQueryTokens, Begins, UnexpectedAt, DeepAt, EndsEarly}
use Rattle.tql_parse.specs.Reading.{query_at}
use Rattle.tql_parse.specs.Laws.{IsReadByGrammar}
use Rattle.tql_parse.proofs.Complete.{query_is}
use Rattle.tql_parse.proofs.Queries.{query_found}
use Rattle.tql_parse.proofs.First.{first_stop}
use Rattle.tql_parse.proofs.Parts.{ended_begins}
use Rattle.tql_parse.proofs.Faults.{first_unexpected, first_deep, ended_none}

found : (n : ℕ) (ts : List Token) (x : Syntax) → query_at n ts ≡ Ok x → AreQueryTokens n ts x
found n ts x h = query_found n ts (λ y. y) (Ok x) h

-- the front of what begins a query begins one
begins_before : (n : ℕ) (front rest : List Token) → Begins n (front ++ rest) → Begins n front
begins_before n front rest b =
    let P : List Token → Type 0 = λ us. AreQueryTokens n us b.tree in
    record { more = rest ++ b.more; tree = b.tree; is_query = subst P (append_assoc front rest b.more) b.is_query }

-- tokens that begin a query begin one up to each token
begins_up_to : (n : ℕ) (ts before : List Token) (at : Token) (behind : List Token) → ts ≡ before ++ at ∷ behind → Begins n ts
    → Begins n (before ++ at ∷ [])
begins_up_to n ts before at behind e b =
    let P : List Token → Type 0 = Begins n in
    begins_before n (before ++ at ∷ []) behind (subst P (e ∙ sym (append_assoc before (at ∷ []) behind)) b)

-- a query begins one
whole_begins : (n : ℕ) (ts : List Token) (x : Syntax) → query_at n ts ≡ Ok x → Begins n ts
whole_begins n ts x h =
    let P : List Token → Type 0 = λ us. AreQueryTokens n us x in
    record { more = []; tree = x; is_query = subst P (sym (append-nil ts)) (found n ts x h) }

-- there is one token up to which P holds no more
one_stop : (P : List Token → Type 0) → ((u v : List Token) → P (u ++ v) → P u) → (b c : List Token) (s t : Token) (r q : List Token)
    → b ++ s ∷ r ≡ c ++ t ∷ q → P b → P c → (P (b ++ s ∷ []) → ⊥) → (P (c ++ t ∷ []) → ⊥) → (b ≡ c) × (s ≡ t)
one_stop P down [] [] s t r q e x y m w = (refl, cc)
one_stop P down [] (k ∷ c) s t r q e x y m w =
    let f : k ≡ s = cc in
    let Q : Token → Type 0 = λ k. P (k ∷ []) in
    absurd (m (subst Q f (down (k ∷ []) c y)))
one_stop P down (k ∷ b) [] s t r q e x y m w =
    let f : k ≡ t = cc in
    let Q : Token → Type 0 = λ k. P (k ∷ []) in
    absurd (w (subst Q f (down (k ∷ []) b x)))
one_stop P down (k ∷ b) (l ∷ c) s t r q e x y m w =
    let f : l ≡ k = cc in
    let g : b ++ s ∷ r ≡ c ++ t ∷ q = cc in
    let Q : Token → Type 0 = λ k. P (k ∷ c) in
    let R : Token → Type 0 = λ k. P (k ∷ c ++ t ∷ []) in
    let z = one_stop (λ us. P (k ∷ us)) (λ u v. down (k ∷ u) v) b c s t r q g x (subst Q f y) m (λ v. w (subst R (sym f) v)) in
    let h : b ≡ c = z.0 in
    (cc, z.1)

stop_of : (n : ℕ) (ts b c : List Token) (s t : Token) (r q : List Token) → ts ≡ b ++ s ∷ r → ts ≡ c ++ t ∷ q → Begins n b → Begins n c
    → (Begins n (b ++ s ∷ []) → ⊥) → (Begins n (c ++ t ∷ []) → ⊥) → (b ≡ c) × (s ≡ t)
stop_of n ts b c s t r q e f x y m w = one_stop (Begins n) (begins_before n) b c s t r q (sym e ∙ f) x y m w

-- a token with which no query begins isn't one that only opens too many levels
not_both : (n : ℕ) (ts : List Token) (p q : ℕ) → UnexpectedAt n ts p → DeepAt n ts q → ⊥
not_both n ts p q u d =
    let z = stop_of n ts d.before u.before d.at u.at d.behind u.behind d.tokens u.tokens d.begins u.begins d.stops (u.stops n) in
    let h : d.before ++ d.at ∷ [] ≡ u.before ++ u.at ∷ [] = let a = z.0 in let b = z.1 in cc in
    let P : List Token → Type 0 = Begins d.levels in
    u.stops d.levels (subst P h d.begins_deeper)

unexpected_same : (n : ℕ) (ts : List Token) (p q : ℕ) → UnexpectedAt n ts p → UnexpectedAt n ts q → p ≡ q
unexpected_same n ts p q u d =
    let z = stop_of n ts u.before d.before u.at d.at u.behind d.behind u.tokens d.tokens u.begins d.begins (u.stops n) (d.stops n) in
    u.place_is ∙ ap (λ (t : Token). t.place) z.1 ∙ sym d.place_is

deep_same : (n : ℕ) (ts : List Token) (p q : ℕ) → DeepAt n ts p → DeepAt n ts q → p ≡ q
deep_same n ts p q u d =
    let z = stop_of n ts u.before d.before u.at d.at u.behind d.behind u.tokens d.tokens u.begins d.begins u.stops d.stops in
    u.place_is ∙ ap (λ (t : Token). t.place) z.1 ∙ sym d.place_is

no_memory : (n : ℕ) (ts : List Token) → query_at n ts ≡ Err Memory → ⊥
no_memory n ts h = (first_stop n ts Memory h tt).place

unexpected_is : (n : ℕ) (ts : List Token) (p : ℕ) → UnexpectedAt n ts p → (r : Result Syntax ParseFault) → query_at n ts ≡ r
    → r ≡ Err (Unexpected p)
unexpected_is n ts p u (Ok x) h = absurd (u.stops n (begins_up_to n ts u.before u.at u.behind u.tokens (whole_begins n ts x h)))
unexpected_is n ts p u (Err (Unexpected q)) h = ap (λ (k : ℕ). Err (Unexpected k)) (unexpected_same n ts q p (first_unexpected n ts q h) u)
unexpected_is n ts p u (Err (Deep q)) h = absurd (not_both n ts p q u (first_deep n ts q h))
unexpected_is n ts p u (Err Ended) h = absurd (u.stops n (begins_up_to n ts u.before u.at u.behind u.tokens (ended_begins n ts h)))
unexpected_is n ts p u (Err Memory) h = absurd (no_memory n ts h)

deep_is : (n : ℕ) (ts : List Token) (p : ℕ) → DeepAt n ts p → (r : Result Syntax ParseFault) → query_at n ts ≡ r → r ≡ Err (Deep p)
deep_is n ts p d (Ok x) h = absurd (d.stops (begins_up_to n ts d.before d.at d.behind d.tokens (whole_begins n ts x h)))
deep_is n ts p d (Err (Unexpected q)) h = absurd (not_both n ts q p (first_unexpected n ts q h) d)
deep_is n ts p d (Err (Deep q)) h = ap (λ (k : ℕ). Err (Deep k)) (deep_same n ts q p (first_deep n ts q h) d)
deep_is n ts p d (Err Ended) h = absurd (d.stops (begins_up_to n ts d.before d.at d.behind d.tokens (ended_begins n ts h)))
deep_is n ts p d (Err Memory) h = absurd (no_memory n ts h)

ended_is : (n : ℕ) (ts : List Token) → EndsEarly n ts → (r : Result Syntax ParseFault) → query_at n ts ≡ r → r ≡ Err Ended
ended_is n ts e (Ok x) h = absurd (e.is_none x (found n ts x h))
ended_is n ts e (Err (Unexpected q)) h =
    let u = first_unexpected n ts q h in
    absurd (u.stops n (begins_up_to n ts u.before u.at u.behind u.tokens e.begins))
ended_is n ts e (Err (Deep q)) h =
    let d = first_deep n ts q h in
    absurd (d.stops (begins_up_to n ts d.before d.at d.behind d.tokens e.begins))
ended_is n ts e (Err Ended) h = refl
ended_is n ts e (Err Memory) h = absurd (no_memory n ts h)

ends_early : (n : ℕ) (ts : List Token) → query_at n ts ≡ Err Ended → EndsEarly n ts
ends_early n ts h = record { begins = ended_begins n ts h; is_none = ended_none n ts h }

pub read_by_grammar : (n : ℕ) (ts : List Token) → IsReadByGrammar n ts
read_by_grammar n ts = record {
  tree = λ x. (found n ts x, query_is n ts x);
  unexpected = λ p. (first_unexpected n ts p, λ u. unexpected_is n ts p u (query_at n ts) refl);
  deep = λ p. (first_deep n ts p, λ d. deep_is n ts p d (query_at n ts) refl);
  ended = (ends_early n ts, λ e. ended_is n ts e (query_at n ts) refl);
  no_memory = no_memory n ts;
}
