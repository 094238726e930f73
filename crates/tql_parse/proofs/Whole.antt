-- Reading can go on: if it needs more tokens, some tokens complete what was begun.
use Rattle.std.proofs.Common.{◌≡◌, ◌∙◌, sym, ap, refl, List, [], ◌∷◌, ◌++◌, append_assoc, Bool, true, false, Ok, Err}
use Rattle.std.specs.Prelude.{◌||◌}
use Rattle.tql_lex.specs.declared.kind.Kind.{Kind}
use Rattle.tql_lex.specs.declared.token.Token.{Token}
use Rattle.tql_parse.specs.declared.key.Key.{Key}
use Rattle.tql_parse.specs.declared.fault.ParseFault.{ParseFault}
use Rattle.tql_parse.specs.declared.fault.ParseFault.TheVariants.{Unexpected, Ended, Deep, Memory}
use Rattle.tql_parse.specs.Keys.{key, is_and, is_or, is_shift_sign}
use Rattle.tql_parse.specs.Reading.{Read, ◌>>=◌, one, next_is}
use Rattle.tql_parse.proofs.Lookahead.{Spent, IsAt}

-- no shift, AND or OR begins here
abbrev pub joins : Key → Bool
joins k = is_shift_sign k || is_and k || is_or k

abbrev pub Calm : List Token → Type 0
Calm ts = next_is joins ts ≡ false

pub calm_append : (ts us : List Token) → Calm ts → Calm us → Calm (ts ++ us)
calm_append [] us a b = b
calm_append (t ∷ ts) us a b = a

-- some tokens complete it, whatever stands behind them
pub record Finish (A : Type 0) (f : List Token → Read A) (ts : List Token) : Type 0 where
  pub more : List Token
  pub value : A
  pub calm : Calm more
  pub read : (tail : List Token) → Calm tail → f (ts ++ (more ++ tail)) ≡ Ok (value, tail)

pub record Whole (A : Type 0) (f : List Token → Read A) : Type 0 where
  pub steady : (ts mid w : List Token) (a : A) → Calm w → f ts ≡ Ok (a, mid) → f (ts ++ w) ≡ Ok (a, mid ++ w)
  pub ends : (ts : List Token) → f ts ≡ Err Ended → Finish A f ts

pub pair_same : (A : Type 0) (a b : A) (x y : List Token) → ◌≡◌ {A = Read A} (Ok (a, x)) (Ok (b, y)) → (a ≡ b) × (x ≡ y)
pair_same A a b x y e = let f : ◌≡◌ {A = A × List Token} (a, x) (b, y) = cc in (ap (λ p. p.0) f, ap (λ p. p.1) f)

pub whole_ok : (A : Type 0) (a : A) → Whole A (λ ts. Ok (a, ts))
whole_ok A a = record {
  steady = λ ts mid w b c e. let p = pair_same A a b ts mid e in rw (p.0, p.1) refl;
  ends = λ ts e. absurd (cc);
}

module _ (A B : Type 0) (g : List Token → Read A) (h : A × List Token → Read B) (wg : Whole A g) (wh : (a : A) → Whole B (λ ts. h (a, ts)))
    (sp : (a : A) → Spent (h (a, []))) where
  bind_steady : (ts mid w : List Token) (b : B) → Calm w → (r : Read A) → g ts ≡ r → (r >>= h) ≡ Ok (b, mid)
      → (g (ts ++ w) >>= h) ≡ Ok (b, mid ++ w)
  bind_steady ts mid w b c (Ok x) e k = ap (λ (r : Read A). r >>= h) (wg.steady ts x.1 w x.0 c e) ∙ (wh x.0).steady x.1 mid w b c k
  bind_steady ts mid w b c (Err d) e k = absurd (cc)

  -- the first part is complete, and then the second
  finish_both : (ts : List Token) (f : Finish A g ts) (r : Read B) → h (f.value, []) ≡ r → Spent r → Finish B (λ ts. g ts >>= h) ts
  finish_both ts f (Ok x) e q = record {
    more = f.more;
    value = x.0;
    calm = f.calm;
    read = λ tail c. ap (λ (r : Read A). r >>= h) (f.read tail c) ∙ (wh f.value).steady [] x.1 tail x.0 c e ∙ rw q refl;
  }
  finish_both ts f (Err d) e q =
      let k = (wh f.value).ends [] (e ∙ ap (λ (d : ParseFault). Err d) q) in
      record {
        more = f.more ++ k.more;
        value = k.value;
        calm = calm_append f.more k.more f.calm k.calm;
        read = λ tail c. rw (append_assoc f.more k.more tail)
            (ap (λ (r : Read A). r >>= h) (f.read (k.more ++ tail) (calm_append k.more tail k.calm c)) ∙ k.read tail c);
      }

  bind_ends : (ts : List Token) (r : Read A) → g ts ≡ r → (r >>= h) ≡ Err Ended → Finish B (λ ts. g ts >>= h) ts
  bind_ends ts (Ok x) e k =
      let f = (wh x.0).ends x.1 k in
      record {
        more = f.more;
        value = f.value;
        calm = f.calm;
        read = λ tail c. ap (λ (r : Read A). r >>= h) (wg.steady ts x.1 (f.more ++ tail) x.0 (calm_append f.more tail f.calm c) e)
            ∙ f.read tail c;
      }
  bind_ends ts (Err d) e k =
      let q : d ≡ Ended = cc in
      let f = wg.ends ts (e ∙ ap (λ (d : ParseFault). Err d) q) in
      finish_both ts f (h (f.value, [])) refl (sp f.value)

  pub whole_bind : Whole B (λ ts. g ts >>= h)
  whole_bind = record {
    steady = λ ts mid w b c e. bind_steady ts mid w b c (g ts) refl e;
    ends = λ ts e. bind_ends ts (g ts) refl e;
  }

-- what is done at a token
pub data Choice (A : Type 0) (f : List Token → Read A) (t : Token) : Type 0 where
  taken : (g : List Token → Read A) → Whole A g → ((rest : List Token) → f (t ∷ rest) ≡ g rest) → Choice A f t
  refused : (e : ParseFault) → IsAt t e → ((rest : List Token) → f (t ∷ rest) ≡ Err e) → Choice A f t
  kept : (h : List Token → Read A) → Whole A h → ((rest : List Token) → f (t ∷ rest) ≡ h (t ∷ rest)) → Choice A f t

at_no_end : (t : Token) (e : ParseFault) → IsAt t e → e ≡ Ended → ⊥
at_no_end t (Unexpected p) i q = cc
at_no_end t (Deep p) i q = cc
at_no_end t Ended i q = i
at_no_end t Memory i q = i

module _ (A : Type 0) (f : List Token → Read A) where
  choice_steady : (t : Token) (ts mid w : List Token) (a : A) → Calm w → Choice A f t → f (t ∷ ts) ≡ Ok (a, mid)
      → f (t ∷ (ts ++ w)) ≡ Ok (a, mid ++ w)
  choice_steady t ts mid w a c (taken g wg q) e = q (ts ++ w) ∙ wg.steady ts mid w a c (sym (q ts) ∙ e)
  choice_steady t ts mid w a c (refused d i q) e = let k : ◌≡◌ {A = Read A} (Err d) (Ok (a, mid)) = sym (q ts) ∙ e in absurd (cc)
  choice_steady t ts mid w a c (kept h wh q) e = q (ts ++ w) ∙ wh.steady (t ∷ ts) mid w a c (sym (q ts) ∙ e)

  choice_ends : (t : Token) (ts : List Token) → Choice A f t → f (t ∷ ts) ≡ Err Ended → Finish A f (t ∷ ts)
  choice_ends t ts (taken g wg q) e =
      let k = wg.ends ts (sym (q ts) ∙ e) in
      record { more = k.more; value = k.value; calm = k.calm; read = λ tail c. q (ts ++ (k.more ++ tail)) ∙ k.read tail c }
  choice_ends t ts (refused d i q) e = let k : ◌≡◌ {A = Read A} (Err d) (Err Ended) = sym (q ts) ∙ e in absurd (at_no_end t d i (cc))
  choice_ends t ts (kept h wh q) e =
      let k = wh.ends (t ∷ ts) (sym (q ts) ∙ e) in
      record { more = k.more; value = k.value; calm = k.calm; read = λ tail c. q (ts ++ (k.more ++ tail)) ∙ k.read tail c }

  module _ (start : f [] ≡ Err Ended → Finish A f []) (empty : (mid w : List Token) (a : A) → Calm w → f [] ≡ Ok (a, mid)
      → f w ≡ Ok (a, mid ++ w)) (choice : (t : Token) → Choice A f t) where
    choose_steady : (ts mid w : List Token) (a : A) → Calm w → f ts ≡ Ok (a, mid) → f (ts ++ w) ≡ Ok (a, mid ++ w)
    choose_steady [] mid w a c e = empty mid w a c e
    choose_steady (t ∷ ts) mid w a c e = choice_steady t ts mid w a c (choice t) e

    choose_ends : (ts : List Token) → f ts ≡ Err Ended → Finish A f ts
    choose_ends [] e = start e
    choose_ends (t ∷ ts) e = choice_ends t ts (choice t) e

    pub whole_choice : Whole A f
    whole_choice = record { steady = choose_steady; ends = choose_ends }

-- a token of this kind
abbrev token_of : Kind → Token
token_of kind = record { kind = kind; place = 0; end = 0 }

-- the next token passes the test, and this one does
pub whole_one : (test : Kind → Bool) (kind : Kind) → test kind ≡ true → joins (key kind) ≡ false → Whole Token (one test)
whole_one test kind passes calm = whole_choice Token (one test)
    (λ e. record { more = token_of kind ∷ []; value = token_of kind; calm = calm; read = λ tail c. rw passes refl })
    (λ mid w x c e. absurd (cc)) (λ t.
    elim (test t.kind) as (λ b. test t.kind ≡ b → Choice Token (one test) t) [
      | true ↦ λ e. taken (λ rest. Ok (t, rest)) (whole_ok Token t) (λ rest. rw e refl)
      | false ↦ λ e. refused (Unexpected t.place) refl (λ rest. rw e refl)
    ] refl)
