-- What folding knows of a body, from what it knows of the body's parts.
use Rattle.std.proofs.Common.{◌≡◌, ℕ, suc, zero, ◌≤◌, ℤ, true, false, refl, sym, ap, ◌∙◌, subst, inl, inr, arith}
use Rattle.std.specs.Prelude.{◌⊎◌, ◌&&◌, nat_eq}
use Rattle.std.specs.Ordering.{int_eq}
use Rattle.std.proofs.lemmas.Bool.{cases_Bool, cases_eq, and_parts, and_from, eqb-true, eq-eqb, ne_eqb}
use Rattle.tap_base.specs.declared.numbers.Op.{Op}
use Rattle.tap_base.specs.declared.numbers.Op.TheVariants.{Le}
use Rattle.tql_tree.specs.declared.table.Table.{Table}
use Rattle.tql_core.specs.declared.term.Var.{Var}
use Rattle.tql_core.specs.declared.term.Base.{Base}
use Rattle.tql_core.specs.declared.term.Base.TheVariants.{Arrival, Date, Fixed, ArrivalDay, DateDay}
use Rattle.tql_core.specs.declared.term.Term.{Term}
use Rattle.tql_core.specs.declared.atom.Atom.TheVariants.{Numbers, Texts, Times, Has}
use Rattle.tql_core.specs.Condition.{Condition, Always, Never, Plain, NowAtLeast, NowBefore, All, Either, Not, Exists}
use Rattle.tql_core.specs.Values.{compare}
use Rattle.tap_rows.specs.Kept.{In}
use Rattle.time_marks.specs.Found.{base_vars}
use Rattle.time_marks.specs.Marks.{copied, copy_base, arrival_term}
use Rattle.monotone_rewrite.specs.Folding.{KnownTruth, Yes, No, Open, known, constant, same_base, is_there, fold_all, fold_either, fold_not}
use Rattle.monotone_rewrite.specs.Folding.{fold_exists, fold}
use Rattle.delta_rewrite.specs.Delta.{renamed_var, renamed_base, renamed_term, renamed}

-- what is known of both, of either, of an EXISTS, and of the opposite
abbrev pub kall : KnownTruth → KnownTruth → KnownTruth
kall No k = No
kall Yes k = k
kall Open No = No
kall Open Yes = Open
kall Open Open = Open

abbrev pub keither : KnownTruth → KnownTruth → KnownTruth
keither Yes k = Yes
keither No k = k
keither Open Yes = Yes
keither Open No = Open
keither Open Open = Open

abbrev pub kexists : KnownTruth → KnownTruth
kexists No = No
kexists Yes = Open
kexists Open = Open

abbrev pub knot : KnownTruth → KnownTruth
knot Yes = No
knot No = Yes
knot Open = Open

all_known : (k k' : KnownTruth) (l r : Condition) → known l ≡ k → known r ≡ k' → known (fold_all k k' l r) ≡ kall k k'
all_known No k' l r e f = refl
all_known Yes k' l r e f = f
all_known Open No l r e f = refl
all_known Open Yes l r e f = e
all_known Open Open l r e f = refl

either_known : (k k' : KnownTruth) (l r : Condition) → known l ≡ k → known r ≡ k' → known (fold_either k k' l r) ≡ keither k k'
either_known Yes k' l r e f = refl
either_known No k' l r e f = f
either_known Open Yes l r e f = refl
either_known Open No l r e f = e
either_known Open Open l r e f = refl

not_known : (k : KnownTruth) (x : Condition) → known (fold_not k x) ≡ knot k
not_known Yes x = refl
not_known No x = refl
not_known Open x = refl

exists_known : (k : KnownTruth) (v : Var) (t : Table) (x : Condition) → known (fold_exists k v t x) ≡ kexists k
exists_known Yes v t x = refl
exists_known No v t x = refl
exists_known Open v t x = refl

module _ (at : Term) where
  -- what folding knows
  abbrev pub kn : Condition → KnownTruth
  kn c = known (fold at c)

  pub all_kn : (l r : Condition) → kn (All l r) ≡ kall (kn l) (kn r)
  all_kn l r = all_known (kn l) (kn r) (fold at l) (fold at r) refl refl

  pub either_kn : (l r : Condition) → kn (Either l r) ≡ keither (kn l) (kn r)
  either_kn l r = either_known (kn l) (kn r) (fold at l) (fold at r) refl refl

  pub not_kn : (x : Condition) → kn (Not x) ≡ knot (kn x)
  not_kn x = not_known (kn x) (fold at x)

  pub exists_kn : (v : Var) (t : Table) (x : Condition) → kn (Exists v t x) ≡ kexists (kn x)
  exists_kn v t x = exists_known (kn x) v t (fold at x)

pub all_no : (k : KnownTruth) → kall k No ≡ No
all_no Yes = refl
all_no No = refl
all_no Open = refl

either_yes : (k : KnownTruth) → keither k Yes ≡ Yes
either_yes Yes = refl
either_yes No = refl
either_yes Open = refl

-- which parts decide
pub all_no_parts : (a b : KnownTruth) → kall a b ≡ No → (a ≡ No) ⊎ (b ≡ No)
all_no_parts No b h = inl refl
all_no_parts Yes b h = inr h
all_no_parts Open No h = inr refl
all_no_parts Open Yes h = absurd cc
all_no_parts Open Open h = absurd cc

pub all_yes_parts : (a b : KnownTruth) → kall a b ≡ Yes → (a ≡ Yes) × (b ≡ Yes)
all_yes_parts No b h = absurd cc
all_yes_parts Yes b h = (refl, h)
all_yes_parts Open No h = absurd cc
all_yes_parts Open Yes h = absurd cc
all_yes_parts Open Open h = absurd cc

pub either_no_parts : (a b : KnownTruth) → keither a b ≡ No → (a ≡ No) × (b ≡ No)
either_no_parts Yes b h = absurd cc
either_no_parts No b h = (refl, h)
either_no_parts Open Yes h = absurd cc
either_no_parts Open No h = absurd cc
either_no_parts Open Open h = absurd cc

pub either_yes_parts : (a b : KnownTruth) → keither a b ≡ Yes → (a ≡ Yes) ⊎ (b ≡ Yes)
either_yes_parts Yes b h = inl refl
either_yes_parts No b h = inr h
either_yes_parts Open Yes h = inr refl
either_yes_parts Open No h = absurd cc
either_yes_parts Open Open h = absurd cc

pub exists_no_part : (k : KnownTruth) → kexists k ≡ No → k ≡ No
exists_no_part No h = refl
exists_no_part Yes h = absurd cc
exists_no_part Open h = absurd cc

pub exists_not_yes : (k : KnownTruth) → kexists k ≡ Yes → ⊥
exists_not_yes No h = absurd cc
exists_not_yes Yes h = absurd cc
exists_not_yes Open h = absurd cc

-- what the first knows the second knows
abbrev pub Least : KnownTruth → KnownTruth → Type 0
Least Open k = Unit {0}
Least Yes k = k ≡ Yes
Least No k = k ≡ No

all_least : (a a' b b' : KnownTruth) → Least a a' → Least b b' → Least (kall a b) (kall a' b')
all_least No a' b b' h i = ap (λ k. kall k b') h
all_least Yes a' b b' h i = subst (λ k. Least b (kall k b')) (sym h) i
all_least Open a' No b' h i = ap (kall a') i ∙ all_no a'
all_least Open a' Yes b' h i = tt
all_least Open a' Open b' h i = tt

either_least : (a a' b b' : KnownTruth) → Least a a' → Least b b' → Least (keither a b) (keither a' b')
either_least Yes a' b b' h i = ap (λ k. keither k b') h
either_least No a' b b' h i = subst (λ k. Least b (keither k b')) (sym h) i
either_least Open a' Yes b' h i = ap (keither a') i ∙ either_yes a'
either_least Open a' No b' h i = tt
either_least Open a' Open b' h i = tt

not_least : (a a' : KnownTruth) → Least a a' → Least (knot a) (knot a')
not_least Yes a' h = ap knot h
not_least No a' h = ap knot h
not_least Open a' h = tt

exists_least : (a a' : KnownTruth) → Least a a' → Least (kexists a) (kexists a')
exists_least No a' h = ap kexists h
exists_least Yes a' h = tt
exists_least Open a' h = tt

same_least : (k : KnownTruth) → Least k k
same_least Yes = refl
same_least No = refl
same_least Open = tt

-- the term's base doesn't name the variable
abbrev pub Free : Var → Base → Type 0
Free v b = (k : ℕ) → In k (base_vars b) → k ≡ v.0 → ⊥

copied_free : (v : Var) (w : ℕ) → 1 ≤ v.0 → v.0 ≤ 5 → copied w ≡ v.0 → ⊥
copied_free v zero lo hi e = omega arith
copied_free v (suc k) lo hi e = omega arith

-- a copy isn't a bound variable
pub copy_free : (v : Var) (b : Base) → 1 ≤ v.0 → v.0 ≤ 5 → Free v (copy_base b)
copy_free v (Arrival w) lo hi k (inl i) e = copied_free v w.0 lo hi (sym i ∙ e)
copy_free v (Arrival w) lo hi k (inr i) e = absurd i
copy_free v (Date w) lo hi k (inl i) e = copied_free v w.0 lo hi (sym i ∙ e)
copy_free v (Date w) lo hi k (inr i) e = absurd i
copy_free v Fixed lo hi k i e = absurd i
copy_free v (ArrivalDay w n) lo hi k (inl i) e = copied_free v w.0 lo hi (sym i ∙ e)
copy_free v (ArrivalDay w n) lo hi k (inr i) e = absurd i
copy_free v (DateDay w n) lo hi k (inl i) e = copied_free v w.0 lo hi (sym i ∙ e)
copy_free v (DateDay w n) lo hi k (inr i) e = absurd i

other_base : (v : Var) (b : Base) → Free v b → same_base (Arrival v) b ≡ false
other_base v (Arrival w) h = ne_eqb v.0 w.0 (λ e. h w.0 (inl refl) (sym e))
other_base v (Date w) h = refl
other_base v Fixed h = refl
other_base v (ArrivalDay w n) h = refl
other_base v (DateDay w n) h = refl

-- that a bound row has come by the mark stays open
pub come_open : (v : Var) (at : Term) → Free v at.base → kn at (Plain (Times (arrival_term v) Le at)) ≡ Open
come_open v at h = rw (other_base v at.base h)

-- one variable in the place of another that the mark doesn't name
module _ (v w : Var) (at : Term) (free : Free v at.base) where
  same_var : (x y : ℕ) → nat_eq x y ≡ true
      → nat_eq (renamed_var v w (record { 0 = x })).0 (renamed_var v w (record { 0 = y })).0 ≡ true
  same_var x y h = eq-eqb _ _ (ap (λ k. (renamed_var v w (record { 0 = k })).0) (eqb-true x y h))

  still_same : (x y : Base) → same_base x y ≡ true → same_base (renamed_base v w x) (renamed_base v w y) ≡ true
  still_same (Arrival x) (Arrival y) h = same_var x.0 y.0 h
  still_same (Date x) (Date y) h = same_var x.0 y.0 h
  still_same Fixed Fixed h = refl
  still_same (ArrivalDay x n) (ArrivalDay y k) h =
      let p = and_parts (nat_eq x.0 y.0) (int_eq n k) h in
      and_from _ _ (same_var x.0 y.0 p.0) p.1
  still_same (DateDay x n) (DateDay y k) h =
      let p = and_parts (nat_eq x.0 y.0) (int_eq n k) h in
      and_from _ _ (same_var x.0 y.0 p.0) p.1
  still_same _ _ h = absurd cc

  kept_var : (u : Var) → (u.0 ≡ v.0 → ⊥) → renamed_var v w u ≡ u
  kept_var u m = rw (ne_eqb u.0 v.0 m)

  still_there : (x : Base) → is_there at x ≡ true → is_there at (renamed_base v w x) ≡ true
  still_there (Arrival x) h = refl
  still_there (Date x) h = ap (λ u. is_there at (Date u)) (kept_var x (named_date x at.base h free)) ∙ h
    where
      named_date : (u : Var) (b : Base) → same_base (Date u) b ≡ true → Free v b → u.0 ≡ v.0 → ⊥
      named_date u (Date y) h f e = f y.0 (inl refl) (sym (eqb-true u.0 y.0 h) ∙ e)
      named_date u _ h f e = absurd cc
  still_there Fixed h = refl
  still_there (ArrivalDay x n) h = ap (λ u. is_there at (ArrivalDay u n)) (kept_var x (named_day x n at.base h free)) ∙ h
    where
      named_day : (u : Var) (n : ℤ) (b : Base) → same_base (ArrivalDay u n) b ≡ true → Free v b → u.0 ≡ v.0 → ⊥
      named_day u n (ArrivalDay y k) h f e =
          f y.0 (inl refl) (sym (eqb-true u.0 y.0 (and_parts (nat_eq u.0 y.0) (int_eq n k) h).0) ∙ e)
      named_day u n _ h f e = absurd cc
  still_there (DateDay x n) h = ap (λ u. is_there at (DateDay u n)) (kept_var x (named_day x n at.base h free)) ∙ h
    where
      named_day : (u : Var) (n : ℤ) (b : Base) → same_base (DateDay u n) b ≡ true → Free v b → u.0 ≡ v.0 → ⊥
      named_day u n (DateDay y k) h f e =
          f y.0 (inl refl) (sym (eqb-true u.0 y.0 (and_parts (nat_eq u.0 y.0) (int_eq n k) h).0) ∙ e)
      named_day u n _ h f e = absurd cc

  times_kept : (x y : Term) (op : Op) → Least (kn at (Plain (Times x op y)))
      (kn at (Plain (Times (renamed_term v w x) op (renamed_term v w y))))
  times_kept x y op =
      elim (cases_Bool (same_base x.base y.base && is_there at x.base)) [
        | inl t ↦
            let p = and_parts (same_base x.base y.base) (is_there at x.base) t in
            let t' : (same_base (renamed_base v w x.base) (renamed_base v w y.base) && is_there at (renamed_base v w x.base)) ≡ true =
            and_from _ _ (still_same x.base y.base p.0) (still_there x.base p.1) in
            rw (t, t') (same_least (known (constant (compare op x.plus y.plus))))
        | inr f ↦ rw f tt
      ]

  -- what folding knows of a body it knows of the renamed body
  pub renamed_kept : (c : Condition) → Least (kn at c) (kn at (renamed v w c))
  renamed_kept Always = refl
  renamed_kept Never = refl
  renamed_kept (Plain (Numbers x op y)) = tt
  renamed_kept (Plain (Texts x op y)) = tt
  renamed_kept (Plain (Has u f y)) = tt
  renamed_kept (Plain (Times x op y)) = times_kept x y op
  renamed_kept (NowAtLeast e) = tt
  renamed_kept (NowBefore e) = tt
  renamed_kept (All l r) =
      rw (all_kn at l r, all_kn at (renamed v w l) (renamed v w r))
      (all_least (kn at l) (kn at (renamed v w l)) (kn at r) (kn at (renamed v w r)) (renamed_kept l) (renamed_kept r))
  renamed_kept (Either l r) =
      rw (either_kn at l r, either_kn at (renamed v w l) (renamed v w r))
      (either_least (kn at l) (kn at (renamed v w l)) (kn at r) (kn at (renamed v w r)) (renamed_kept l) (renamed_kept r))
  renamed_kept (Not x) =
      rw (not_kn at x, not_kn at (renamed v w x)) (not_least (kn at x) (kn at (renamed v w x)) (renamed_kept x))
  renamed_kept (Exists u t x) =
      elim (cases_eq u.0 v.0) [
        | inl e ↦ rw (eq-eqb u.0 v.0 e) (same_least (kn at (Exists u t x)))
        | inr m ↦
            rw (ne_eqb u.0 v.0 m, exists_kn at u t x, exists_kn at u t (renamed v w x))
            (exists_least (kn at x) (kn at (renamed v w x)) (renamed_kept x))
      ]
