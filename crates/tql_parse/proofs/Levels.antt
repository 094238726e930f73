-- More levels change only what lacked a level.
use Rattle.std.proofs.Common.{◌≡◌, refl, arith, ℕ, zero, suc, List, [], ◌∷◌, length, Bool, true, false, Ok, Err, ◌≤◌, if◌then◌else◌}
use Rattle.tql_lex.specs.declared.token.Token.{Token}
use Rattle.tql_tree.specs.Syntax.{Syntax, Or, And, Not, Exists}
use Rattle.tql_tree.specs.declared.table.Table.{Table}
use Rattle.tql_parse.specs.declared.key.Key.{Key}
use Rattle.tql_parse.specs.declared.key.Opening.{Opening}
use Rattle.tql_parse.specs.declared.key.Opening.TheVariants as O
use Rattle.tql_parse.specs.declared.fault.ParseFault.TheVariants.{Unexpected, Ended, Deep}
use Rattle.tql_parse.specs.Keys.{key, bytes, is_and, is_or, is_close, opening}
use Rattle.tql_parse.specs.Reading.{Read, ◌>>=◌, one, chain, conj_with, cond_with, group_with, head_at, exists_with, not_with, unit_at}
use Rattle.tql_parse.specs.Reading.{cond_at, query_at, end_of}
use Rattle.tql_parse.proofs.Units.{at_zero, at_suc, unit_end}

-- equal, or a level was missing
pub data Rise (A : Type 0) : Read A → Read A → Type 0 where
  same : (x : Read A) → Rise A x x
  missing : (p : ℕ) (y : Read A) → Rise A (Err (Deep p)) y

rise_bind : (A B : Type 0) (x y : Read A) (h k : A × List Token → Read B) → Rise A x y → ((a : A × List Token) → Rise B (h a) (k a))
    → Rise B (x >>= h) (y >>= k)
rise_bind A B x y h k (same (Ok a)) f = f a
rise_bind A B x y h k (same (Err e)) f = same (Err e)
rise_bind A B x y h k (missing p z) f = missing p (z >>= k)

module _ (u v : List Token → Read Syntax) (rise : (ts : List Token) → Rise Syntax (u ts) (v ts)) where
  rise_chain : (sep : Key → Bool) (join : Syntax → Syntax → Syntax) (k : ℕ) (x : Syntax) (ts : List Token)
      → Rise Syntax (chain sep join u k x ts) (chain sep join v k x ts)
  rise_chain sep join zero x ts = same (Ok (x, ts))
  rise_chain sep join (suc k) x [] = same (Ok (x, []))
  rise_chain sep join (suc k) x (t ∷ ts) =
      elim (sep (key t.kind)) as (λ b. Rise Syntax (if b then (u ts >>= λ r. chain sep join u k (join x r.0) r.1) else Ok (x, t ∷ ts))
      (if b then (v ts >>= λ r. chain sep join v k (join x r.0) r.1) else Ok (x, t ∷ ts))) [
        | true ↦ rise_bind Syntax Syntax (u ts) (v ts) _ _ (rise ts) (λ r. rise_chain sep join k (join x r.0) r.1)
        | false ↦ same (Ok (x, t ∷ ts))
      ]

rise_conj : (u v : List Token → Read Syntax) → ((ts : List Token) → Rise Syntax (u ts) (v ts)) → (ts : List Token)
    → Rise Syntax (conj_with u ts) (conj_with v ts)
rise_conj u v r ts = rise_bind Syntax Syntax (u ts) (v ts) _ _ (r ts) (λ x. rise_chain u v r is_and And (length x.1) x.0 x.1)

rise_cond : (u v : List Token → Read Syntax) → ((ts : List Token) → Rise Syntax (u ts) (v ts)) → (ts : List Token)
    → Rise Syntax (cond_with u ts) (cond_with v ts)
rise_cond u v r ts = rise_bind Syntax Syntax (conj_with u ts) (conj_with v ts) _ _ (rise_conj u v r ts) (λ x.
    rise_chain (conj_with u) (conj_with v) (rise_conj u v r) is_or Or (length x.1) x.0 x.1)

rise_group : (u v : List Token → Read Syntax) → ((ts : List Token) → Rise Syntax (u ts) (v ts)) → (ts : List Token)
    → Rise Syntax (group_with u ts) (group_with v ts)
rise_group u v r ts = rise_bind Syntax Syntax (cond_with u ts) (cond_with v ts) _ _ (rise_cond u v r ts) (λ x.
    same (one (λ k. is_close (key k)) x.1 >>= λ close. Ok (x.0, close.1)))

rise_exists : (u v : List Token → Read Syntax) → ((ts : List Token) → Rise Syntax (u ts) (v ts)) → (ts : List Token)
    → Rise Syntax (exists_with u ts) (exists_with v ts)
rise_exists u v r ts = rise_bind (Token × Table) Syntax (head_at ts) (head_at ts) _ _ (same (head_at ts)) (λ h.
    rise_bind Syntax Syntax (group_with u h.1) (group_with v h.1) _ _ (rise_group u v r h.1) (λ x.
    same (Ok (Exists (bytes h.0.0.kind) h.0.0.place h.0.1 x.0, x.1))))

rise_not : (u v : List Token → Read Syntax) → ((ts : List Token) → Rise Syntax (u ts) (v ts)) → (ts : List Token)
    → Rise Syntax (not_with u ts) (not_with v ts)
rise_not u v r ts = rise_bind Syntax Syntax (u ts) (v ts) _ _ (r ts) (λ x. same (Ok (Not x.0, x.1)))

moved : (x y x' y' : Read Syntax) → x ≡ x' → y ≡ y' → Rise Syntax x' y' → Rise Syntax x y
moved x y x' y' p q r = rw (p, q) r

suc_rise : (n m : ℕ) → ((ts : List Token) → Rise Syntax (unit_at n ts) (unit_at m ts)) → (o : Opening) (t : Token) (rest : List Token)
    → opening (key t.kind) ≡ o → Rise Syntax (unit_at (suc n) (t ∷ rest)) (unit_at (suc m) (t ∷ rest))
suc_rise n m r O.Negation t rest e =
    moved _ _ _ _ (at_suc n t rest O.Negation e) (at_suc m t rest O.Negation e) (rise_not (unit_at n) (unit_at m) r rest)
suc_rise n m r O.Group t rest e =
    moved _ _ _ _ (at_suc n t rest O.Group e) (at_suc m t rest O.Group e) (rise_group (unit_at n) (unit_at m) r rest)
suc_rise n m r O.Quantifier t rest e =
    moved _ _ _ _ (at_suc n t rest O.Quantifier e) (at_suc m t rest O.Quantifier e) (rise_exists (unit_at n) (unit_at m) r rest)
suc_rise n m r O.Truth t rest e = moved _ _ _ _ (at_suc n t rest O.Truth e) (at_suc m t rest O.Truth e) (same _)
suc_rise n m r O.Falsity t rest e = moved _ _ _ _ (at_suc n t rest O.Falsity e) (at_suc m t rest O.Falsity e) (same _)
suc_rise n m r O.End t rest e = moved _ _ _ _ (at_suc n t rest O.End e) (at_suc m t rest O.End e) (same _)
suc_rise n m r O.Comparison t rest e = moved _ _ _ _ (at_suc n t rest O.Comparison e) (at_suc m t rest O.Comparison e) (same _)

zero_rise : (m : ℕ) (o : Opening) (t : Token) (rest : List Token) → opening (key t.kind) ≡ o
    → Rise Syntax (unit_at 0 (t ∷ rest)) (unit_at (suc m) (t ∷ rest))
zero_rise m O.Negation t rest e = moved _ _ _ _ (at_zero t rest O.Negation e) refl (missing t.place _)
zero_rise m O.Group t rest e = moved _ _ _ _ (at_zero t rest O.Group e) refl (missing t.place _)
zero_rise m O.Quantifier t rest e = moved _ _ _ _ (at_zero t rest O.Quantifier e) refl (missing t.place _)
zero_rise m O.Truth t rest e = moved _ _ _ _ (at_zero t rest O.Truth e) (at_suc m t rest O.Truth e) (same _)
zero_rise m O.Falsity t rest e = moved _ _ _ _ (at_zero t rest O.Falsity e) (at_suc m t rest O.Falsity e) (same _)
zero_rise m O.End t rest e = moved _ _ _ _ (at_zero t rest O.End e) (at_suc m t rest O.End e) (same _)
zero_rise m O.Comparison t rest e = moved _ _ _ _ (at_zero t rest O.Comparison e) (at_suc m t rest O.Comparison e) (same _)

rise_unit : (n m : ℕ) → n ≤ m → (ts : List Token) → Rise Syntax (unit_at n ts) (unit_at m ts)
rise_unit n m le [] = moved _ _ _ _ (unit_end n [] refl) (unit_end m [] refl) (same (Err Ended))
rise_unit zero zero le (t ∷ ts) = same _
rise_unit zero (suc m) le (t ∷ ts) = zero_rise m (opening (key t.kind)) t ts refl
rise_unit (suc n) zero le (t ∷ ts) = absurd (omega arith)
rise_unit (suc n) (suc m) le (t ∷ ts) = suc_rise n m (rise_unit n m (omega arith)) (opening (key t.kind)) t ts refl

same_unexpected : (x y : Read Syntax) (p : ℕ) → Rise Syntax x y → (x >>= end_of) ≡ Err (Unexpected p) → (y >>= end_of) ≡ Err (Unexpected p)
same_unexpected x y p (same z) e = e
same_unexpected x y p (missing q z) e = absurd (cc)

-- a token that no query goes on with is one at more levels too
pub unexpected_rises : (n m : ℕ) (ts : List Token) (p : ℕ) → n ≤ m → query_at n ts ≡ Err (Unexpected p) → query_at m ts ≡ Err (Unexpected p)
unexpected_rises n m ts p le e = same_unexpected (cond_at n ts) (cond_at m ts) p (rise_cond (unit_at n) (unit_at m) (rise_unit n m le) ts) e
