-- Where a level is missing, one level more goes on with that token.
use Rattle.std.proofs.Common.{◌≡◌, ◌∙◌, sym, ap, refl, subst, arith, ℕ, zero, suc, ◌+◌, List, [], ◌∷◌, ◌++◌, length, Bool, true, false, Ok}
use Rattle.std.proofs.Common.{Err, if◌then◌else◌}
use Rattle.std.proofs.lemmas.Bool.{true≢false}
use Rattle.tql_lex.specs.declared.token.Token.{Token}
use Rattle.tql_tree.specs.declared.table.Table.{Table}
use Rattle.tql_tree.specs.Syntax.{Syntax, True, False, Or, And}
use Rattle.tql_parse.specs.declared.key.Key.{Key}
use Rattle.tql_parse.specs.declared.key.Opening.{Opening}
use Rattle.tql_parse.specs.declared.key.Opening.TheVariants as O
use Rattle.tql_parse.specs.declared.fault.ParseFault.{ParseFault}
use Rattle.tql_parse.specs.declared.fault.ParseFault.TheVariants.{Unexpected, Ended, Deep, Memory}
use Rattle.tql_parse.specs.Keys.{key, is_and, is_or, is_close, opening}
use Rattle.tql_parse.specs.Reading.{Read, ◌>>=◌, one, compare_at, chain, chained, conj_with, cond_with, group_with, head_at, exists_with}
use Rattle.tql_parse.specs.Reading.{not_with, unit_at, cond_at, query_at, end_of}
use Rattle.tql_parse.proofs.Chains.{Shrinks, same}
use Rattle.tql_parse.proofs.Lengths.{unit_shrinks, conj_shrinks}
use Rattle.tql_parse.proofs.Units.{at_zero, at_suc, unit_end, unit_compare}
use Rattle.tql_parse.proofs.Lookahead.{Sim, here, there, Spent, NotEnd, IsAt, Out, go, spent, early, stuck, Lookahead, spent_bind, tame_ok}
use Rattle.tql_parse.proofs.Lookahead.{tame_bind, tame_one, tame_compare, tame_head, tame_unit_at}
use Rattle.tql_parse.proofs.Shallow.{Shallow, shallow_ok, shallow_bind, shallow_one, shallow_compare, shallow_head}
use Rattle.tql_parse.proofs.First.{fails_at, not_end_fails}
use Rattle.tql_parse.proofs.Whole.{pair_same}

-- the second has one token more, at its end
pub data Last (t : Token) : List Token → List Token → Type 0 where
  alone : Last t [] (t ∷ [])
  behind : (x : Token) (b r : List Token) → Last t b r → Last t (x ∷ b) (x ∷ r)

pub last_of : (t : Token) (front : List Token) → Last t front (front ++ t ∷ [])
last_of t [] = alone
last_of t (x ∷ front) = behind x front (front ++ t ∷ []) (last_of t front)

sim_of : (t : Token) (b r : List Token) → Last t b r → Sim t b r r
sim_of t b r alone = here t []
sim_of t b r (behind x c s m) = there t x c s s (sim_of t c s m)

last_sim : (t : Token) (b r s : List Token) → Sim t b r s → Last t b r
last_sim t b r s (here u m) = alone
last_sim t b r s (there u x c d e m) = behind x c d (last_sim u c d e m)

-- what reading comes to without the last token, with it, and with it and a level more
pub data Dig (A : Type 0) (t : Token) : Read A → Read A → Read A → Type 0 where
  goes : (a : A) (b r : List Token) → Last t b r → Dig A t (Ok (a, b)) (Ok (a, r)) (Ok (a, r))
  taken : (x y z : Read A) → Spent z → Dig A t x y z
  before : (e : ParseFault) (y z : Read A) → NotEnd e → Dig A t (Err e) y z
  refused : (x z : Read A) (p : ℕ) → Dig A t x (Err (Unexpected p)) z

dig_bind : (A B : Type 0) (t : Token) (h k : A × List Token → Read B) (x y z : Read A) → Dig A t x y z
    → ((a : A) (b r : List Token) → Last t b r → Dig B t (h (a, b)) (h (a, r)) (k (a, r))) → ((a : A) → Spent (k (a, [])))
    → Dig B t (x >>= h) (y >>= h) (z >>= k)
dig_bind A B t h k x y z (goes a b r m) f s = f a b r m
dig_bind A B t h k x y z (taken u v w q) f s = taken (u >>= h) (v >>= h) (w >>= k) (spent_bind A B w k q s)
dig_bind A B t h k x y z (before e v w n) f s = before e (v >>= h) (w >>= k) n
dig_bind A B t h k x y z (refused u w p) f s = refused (u >>= h) (w >>= k) p

-- the second reading has a level more
pub record Digs (A : Type 0) (f g : List Token → Read A) : Type 0 where
  pub spent : Spent (g [])
  pub out : (t : Token) (b r : List Token) → Last t b r → Dig A t (f b) (f r) (g r)

digs_bind : (A B : Type 0) (f g : List Token → Read A) (h k : A × List Token → Read B) → Digs A f g
    → ((a : A) → Digs B (λ ts. h (a, ts)) (λ ts. k (a, ts))) → Digs B (λ ts. f ts >>= h) (λ ts. g ts >>= k)
digs_bind A B f g h k d c = record {
  spent = spent_bind A B (g []) k d.spent (λ a. (c a).spent);
  out = λ t b r m. dig_bind A B t h k (f b) (f r) (g r) (d.out t b r m) (λ a b' r' n. (c a).out t b' r' n) (λ a. (c a).spent);
}

stuck_at : (A : Type 0) (t : Token) (x z : Read A) (e : ParseFault) → IsAt t e → ((p : ℕ) → e ≡ Deep p → ⊥) → Dig A t x (Err e) z
stuck_at A t x z (Unexpected p) i n = refused x z p
stuck_at A t x z (Deep p) i n = absurd (n p refl)
stuck_at A t x z Ended i n = absurd i
stuck_at A t x z Memory i n = absurd i

of_out : (A : Type 0) (t : Token) (x y z : Read A) → Out A t x y z → y ≡ z → ((p : ℕ) → y ≡ Err (Deep p) → ⊥) → Dig A t x y z
of_out A t x y z (go a b r s m) e n =
    let p = pair_same A a a r s e in
    subst (λ (u : List Token). Dig A t (Ok (a, b)) (Ok (a, r)) (Ok (a, u))) p.1 (goes a b r (last_sim t b r s m))
of_out A t x y z (spent u v w q) e n = taken u v w (subst (λ (r : Read A). Spent r) e q)
of_out A t x y z (early d q) e n = before d (Err d) (Err d) q
of_out A t x y z (stuck u d i) e n = stuck_at A t u (Err d) d i (λ p q. n p (ap (λ (d : ParseFault). Err d) q))

-- a part without levels
free : (A : Type 0) (f : List Token → Read A) → Lookahead A f → Shallow A f → Digs A f f
free A f tf sf =
    record { spent = tf.spent; out = λ t b r m. of_out A t (f b) (f r) (f r) (tf.out t b r r (sim_of t b r m)) refl (λ p e. sf r p e) }

three : (A : Type 0) (t : Token) (x y z x' y' z' : Read A) → x ≡ x' → y ≡ y' → z ≡ z' → Dig A t x' y' z' → Dig A t x y z
three A t x y z x' y' z' p q r h = rw (p, q, r) h

module _ (u v : List Token → Read Syntax) (d : Digs Syntax u v) (su : Shrinks u) (sv : Shrinks v) (sep : Key → Bool)
    (join : Syntax → Syntax → Syntax) where
  chain_spent : (k : ℕ) (x : Syntax) → Spent (chain sep join v k x [])
  chain_spent zero x = refl
  chain_spent (suc k) x = refl

  chain_at : (k : ℕ) → ((x : Syntax) → Digs Syntax (chain sep join u k x) (chain sep join v k x))
      → (x : Syntax) (t : Token) (b r : List Token) → Last t b r
      → Dig Syntax t (chain sep join u (suc k) x b) (chain sep join u (suc k) x r) (chain sep join v (suc k) x r)
  chain_at k ih x t b r alone =
      elim (sep (key t.kind)) as (λ s. Dig Syntax t (Ok (x, [])) (if s then (u [] >>= λ r. chain sep join u k (join x r.0) r.1)
      else Ok (x, t ∷ [])) (if s then (v [] >>= λ r. chain sep join v k (join x r.0) r.1) else Ok (x, t ∷ []))) [
        | true ↦
            taken _ _ _ (spent_bind Syntax Syntax (v []) (λ r. chain sep join v k (join x r.0) r.1) d.spent (λ a. chain_spent k (join x a)))
        | false ↦ goes x [] (t ∷ []) alone
      ]
  chain_at k ih x t b r (behind o c s m) =
      elim (sep (key o.kind)) as (λ s'. Dig Syntax t (if s' then (u c >>= λ r. chain sep join u k (join x r.0) r.1) else Ok (x, o ∷ c))
      (if s' then (u s >>= λ r. chain sep join u k (join x r.0) r.1) else Ok (x, o ∷ s))
      (if s' then (v s >>= λ r. chain sep join v k (join x r.0) r.1) else Ok (x, o ∷ s))) [
        | true ↦ (digs_bind Syntax Syntax u v (λ r. chain sep join u k (join x r.0) r.1) (λ r. chain sep join v k (join x r.0) r.1) d
            (λ a. ih (join x a))).out t c s m
        | false ↦ goes x (o ∷ c) (o ∷ s) (behind o c s m)
      ]

  dig_chain : (k : ℕ) (x : Syntax) → Digs Syntax (chain sep join u k x) (chain sep join v k x)
  dig_chain zero x = record { spent = refl; out = λ t b r m. goes x b r m }
  dig_chain (suc k) x = record { spent = refl; out = λ t b r m. chain_at k (dig_chain k) x t b r m }

  dig_chained : (x : Syntax) → Digs Syntax (chained sep join u x) (chained sep join v x)
  dig_chained x = record {
    spent = refl;
    out = λ t b r m.
        let k = length b + length r in
        three Syntax t _ _ _ (chain sep join u k x b) (chain sep join u k x r) (chain sep join v k x r)
        (same sep join u su (length b) k x b (omega arith) (omega arith))
        (same sep join u su (length r) k x r (omega arith) (omega arith))
        (same sep join v sv (length r) k x r (omega arith) (omega arith)) ((dig_chain k x).out t b r m);
  }

module _ (n m : ℕ) (d : Digs Syntax (unit_at n) (unit_at m)) where
  dig_conj : Digs Syntax (conj_with (unit_at n)) (conj_with (unit_at m))
  dig_conj = digs_bind Syntax Syntax (unit_at n) (unit_at m) _ _ d (λ x.
      dig_chained (unit_at n) (unit_at m) d (unit_shrinks n) (unit_shrinks m) is_and And x)

  dig_cond : Digs Syntax (cond_with (unit_at n)) (cond_with (unit_at m))
  dig_cond = digs_bind Syntax Syntax (conj_with (unit_at n)) (conj_with (unit_at m)) _ _ dig_conj (λ x.
      dig_chained (conj_with (unit_at n)) (conj_with (unit_at m)) dig_conj (conj_shrinks n) (conj_shrinks m) is_or Or x)

  dig_close : (x : Syntax) → Digs Syntax (λ ts. one (λ k. is_close (key k)) ts >>= λ close. Ok (x, close.1)) (λ ts.
      one (λ k. is_close (key k)) ts >>= λ close. Ok (x, close.1))
  dig_close x =
      free Syntax _ (tame_bind Token Syntax (one (λ k. is_close (key k))) _ (tame_one (λ k. is_close (key k))) (λ c. tame_ok Syntax x))
      (shallow_bind Token Syntax (one (λ k. is_close (key k))) _ (shallow_one (λ k. is_close (key k))) (λ c. shallow_ok Syntax x))

  dig_group : Digs Syntax (group_with (unit_at n)) (group_with (unit_at m))
  dig_group = digs_bind Syntax Syntax (cond_with (unit_at n)) (cond_with (unit_at m)) _ _ dig_cond dig_close

  dig_exists : Digs Syntax (exists_with (unit_at n)) (exists_with (unit_at m))
  dig_exists =
      digs_bind (Token × Table) Syntax head_at head_at _ _ (free (Token × Table) head_at (tame_head n (tame_unit_at n)) shallow_head) (λ h.
      digs_bind Syntax Syntax (group_with (unit_at n)) (group_with (unit_at m)) _ _ dig_group (λ x.
      free Syntax _ (tame_ok Syntax _) (shallow_ok Syntax _)))

  dig_not : Digs Syntax (not_with (unit_at n)) (not_with (unit_at m))
  dig_not = digs_bind Syntax Syntax (unit_at n) (unit_at m) _ _ d (λ x. free Syntax _ (tame_ok Syntax _) (shallow_ok Syntax _))

dig_compare : Digs Syntax compare_at compare_at
dig_compare = free Syntax compare_at tame_compare shallow_compare

unit_spent : (n : ℕ) → Spent (unit_at n [])
unit_spent n = let e : unit_at n [] ≡ Err Ended = unit_end n [] refl in subst (λ (r : Read Syntax). Spent r) (sym e) refl

as_spent : (x y : Read Syntax) → x ≡ y → Spent y → Spent x
as_spent x y e s = subst (λ (r : Read Syntax). Spent r) (sym e) s

group_spent : (n : ℕ) → Spent (group_with (unit_at n) [])
group_spent n = let e : unit_at n [] ≡ Err Ended = unit_end n [] refl in rw e refl

not_spent : (n : ℕ) → Spent (not_with (unit_at n) [])
not_spent n = let e : unit_at n [] ≡ Err Ended = unit_end n [] refl in rw e refl

-- a unit without levels
unit_as : (n : ℕ) (t : Token) (rest : List Token) → opening (key t.kind) ≡ O.End → unit_at n (t ∷ rest) ≡ compare_at (t ∷ rest)
unit_as zero t rest e = at_zero t rest O.End e
unit_as (suc n) t rest e = at_suc n t rest O.End e

-- the last token is all there is
unit_alone : (n : ℕ) (o : Opening) (t : Token) → opening (key t.kind) ≡ o
    → Dig Syntax t (unit_at n []) (unit_at n (t ∷ [])) (unit_at (suc n) (t ∷ []))
unit_alone n O.Negation t e = taken _ _ _ (as_spent _ _ (at_suc n t [] O.Negation e) (not_spent n))
unit_alone n O.Group t e = taken _ _ _ (as_spent _ _ (at_suc n t [] O.Group e) (group_spent n))
unit_alone n O.Quantifier t e = taken _ _ _ (as_spent _ _ (at_suc n t [] O.Quantifier e) refl)
unit_alone n O.Truth t e = taken _ _ _ (as_spent _ _ (at_suc n t [] O.Truth e) refl)
unit_alone n O.Falsity t e = taken _ _ _ (as_spent _ _ (at_suc n t [] O.Falsity e) refl)
unit_alone n O.End t e = three Syntax t _ _ _ (compare_at []) (compare_at (t ∷ [])) (compare_at (t ∷ [])) (unit_end n [] refl)
    (unit_as n t [] e) (at_suc n t [] O.End e) (dig_compare.out t [] (t ∷ []) alone)
unit_alone n O.Comparison t e = three Syntax t _ _ _ (compare_at []) (compare_at (t ∷ [])) (compare_at (t ∷ [])) (unit_end n [] refl)
    (unit_compare n (t ∷ []) e) (at_suc n t [] O.Comparison e) (dig_compare.out t [] (t ∷ []) alone)

zero_behind : (o : Opening) (t x : Token) (b r : List Token) → Last t b r → opening (key x.kind) ≡ o
    → Dig Syntax t (unit_at 0 (x ∷ b)) (unit_at 0 (x ∷ r)) (unit_at 1 (x ∷ r))
zero_behind O.Negation t x b r m e =
    three Syntax t _ _ _ (Err (Deep x.place)) _ _ (at_zero x b O.Negation e) refl refl (before (Deep x.place) _ _ tt)
zero_behind O.Group t x b r m e =
    three Syntax t _ _ _ (Err (Deep x.place)) _ _ (at_zero x b O.Group e) refl refl (before (Deep x.place) _ _ tt)
zero_behind O.Quantifier t x b r m e =
    three Syntax t _ _ _ (Err (Deep x.place)) _ _ (at_zero x b O.Quantifier e) refl refl (before (Deep x.place) _ _ tt)
zero_behind O.Truth t x b r m e =
    three Syntax t _ _ _ _ _ _ (at_zero x b O.Truth e) (at_zero x r O.Truth e) (at_suc 0 x r O.Truth e) (goes True b r m)
zero_behind O.Falsity t x b r m e =
    three Syntax t _ _ _ _ _ _ (at_zero x b O.Falsity e) (at_zero x r O.Falsity e) (at_suc 0 x r O.Falsity e) (goes False b r m)
zero_behind O.End t x b r m e = three Syntax t _ _ _ _ _ _ (at_zero x b O.End e) (at_zero x r O.End e) (at_suc 0 x r O.End e)
    (dig_compare.out t (x ∷ b) (x ∷ r) (behind x b r m))
zero_behind O.Comparison t x b r m e = three Syntax t _ _ _ _ _ _ (at_zero x b O.Comparison e) (at_zero x r O.Comparison e)
    (at_suc 0 x r O.Comparison e) (dig_compare.out t (x ∷ b) (x ∷ r) (behind x b r m))

suc_behind : (n : ℕ) → Digs Syntax (unit_at n) (unit_at (suc n)) → (o : Opening) (t x : Token) (b r : List Token) → Last t b r
    → opening (key x.kind) ≡ o → Dig Syntax t (unit_at (suc n) (x ∷ b)) (unit_at (suc n) (x ∷ r)) (unit_at (suc (suc n)) (x ∷ r))
suc_behind n d O.Negation t x b r m e = three Syntax t _ _ _ _ _ _ (at_suc n x b O.Negation e) (at_suc n x r O.Negation e)
    (at_suc (suc n) x r O.Negation e) ((dig_not n (suc n) d).out t b r m)
suc_behind n d O.Group t x b r m e = three Syntax t _ _ _ _ _ _ (at_suc n x b O.Group e) (at_suc n x r O.Group e)
    (at_suc (suc n) x r O.Group e) ((dig_group n (suc n) d).out t b r m)
suc_behind n d O.Quantifier t x b r m e = three Syntax t _ _ _ _ _ _ (at_suc n x b O.Quantifier e) (at_suc n x r O.Quantifier e)
    (at_suc (suc n) x r O.Quantifier e) ((dig_exists n (suc n) d).out t b r m)
suc_behind n d O.Truth t x b r m e =
    three Syntax t _ _ _ _ _ _ (at_suc n x b O.Truth e) (at_suc n x r O.Truth e) (at_suc (suc n) x r O.Truth e) (goes True b r m)
suc_behind n d O.Falsity t x b r m e =
    three Syntax t _ _ _ _ _ _ (at_suc n x b O.Falsity e) (at_suc n x r O.Falsity e) (at_suc (suc n) x r O.Falsity e) (goes False b r m)
suc_behind n d O.End t x b r m e = three Syntax t _ _ _ _ _ _ (at_suc n x b O.End e) (at_suc n x r O.End e) (at_suc (suc n) x r O.End e)
    (dig_compare.out t (x ∷ b) (x ∷ r) (behind x b r m))
suc_behind n d O.Comparison t x b r m e = three Syntax t _ _ _ _ _ _ (at_suc n x b O.Comparison e) (at_suc n x r O.Comparison e)
    (at_suc (suc n) x r O.Comparison e) (dig_compare.out t (x ∷ b) (x ∷ r) (behind x b r m))

unit_out : (n : ℕ) (t : Token) (b r : List Token) → Last t b r → Dig Syntax t (unit_at n b) (unit_at n r) (unit_at (suc n) r)
unit_out n t b r alone = unit_alone n (opening (key t.kind)) t refl
unit_out zero t b r (behind x c s m) = zero_behind (opening (key x.kind)) t x c s m refl
unit_out (suc n) t b r (behind x c s m) =
    suc_behind n (record { spent = unit_spent (suc n); out = unit_out n }) (opening (key x.kind)) t x c s m refl

dig_unit : (n : ℕ) → Digs Syntax (unit_at n) (unit_at (suc n))
dig_unit n = record { spent = unit_spent (suc n); out = unit_out n }

spent_goes_on : (z : Read Syntax) → Spent z → fails_at (z >>= end_of) ≡ false
spent_goes_on (Ok (a, [])) q = refl
spent_goes_on (Ok (a, t ∷ rest)) q = absurd (cc)
spent_goes_on (Err d) q = let e : fails_at (Err d) ≡ false = rw q refl in e

deep_goes_on : (t : Token) (p : ℕ) (x y z : Read Syntax) → Dig Syntax t x y z → (y >>= end_of) ≡ Err (Deep p)
    → fails_at (x >>= end_of) ≡ false → fails_at (z >>= end_of) ≡ false
deep_goes_on t p x y z (goes a b [] m) e v = absurd (cc)
deep_goes_on t p x y z (goes a b (u ∷ r) m) e v = absurd (cc)
deep_goes_on t p x y z (taken u v w q) e g = spent_goes_on w q
deep_goes_on t p x y z (before d v w n) e g = absurd (true≢false (sym (not_end_fails d n) ∙ g))
deep_goes_on t p x y z (refused u w q) e g = absurd (cc)

-- if a level is missing at the last token, one level more goes on with it
pub one_level_more : (n : ℕ) (front : List Token) (t : Token) (p : ℕ) → fails_at (query_at n front) ≡ false
    → query_at n (front ++ t ∷ []) ≡ Err (Deep p) → fails_at (query_at (suc n) (front ++ t ∷ [])) ≡ false
one_level_more n front t p g e = deep_goes_on t p (cond_at n front) (cond_at n (front ++ t ∷ [])) (cond_at (suc n) (front ++ t ∷ []))
    ((dig_cond n (suc n) (dig_unit n)).out t front (front ++ t ∷ []) (last_of t front)) e g
