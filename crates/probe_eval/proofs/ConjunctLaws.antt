-- An EXISTS whose conjuncts that don't name its variable are evaluated once.
use Rattle.std.proofs.Common.{◌≡◌, ◌∙◌, ◌+◌, ◌≤◌, ℕ, ℤ, pos, Bool, true, false, not, ◌&&◌, List, [], ◌∷◌, refl, sym, ap, subst, inl}
use Rattle.std.proofs.Common.{inr, arith, if◌then◌else◌}
use Rattle.std.specs.List.{list_any}
use Rattle.std.proofs.lemmas.Bool.{cases_Bool, cases_eq, eq-eqb, false≢true, or_parts, not-false}
use Rattle.tap_rows.specs.declared.tables.Tables.{Tables}
use Rattle.tap_rows.proofs.Tests.{and_swapped}
use Rattle.tql_core.specs.declared.term.Var.{Var}
use Rattle.tql_core.specs.Condition.{Condition, Always, Never, Plain, NowAtLeast, NowBefore, All, Either, Not, Exists}
use Rattle.tql_core.specs.Row.{Row, rows_of}
use Rattle.tql_core.specs.Values.{Env, bind, lookup}
use Rattle.tql_core.specs.Holds.{truth}
use Rattle.tql_core.proofs.Bound.{bind_same, bind_other}
use Rattle.time_marks.proofs.Lists.{any_same}
use Rattle.access_plan.specs.Accesses.{is_other}
use Rattle.access_plan.specs.Laws.{AreSame}
use Rattle.probe_eval.specs.Open.{base_known, atom_known}
use Rattle.probe_eval.specs.Work.{work, exists_work}
use Rattle.probe_eval.specs.Conjuncts.{mentions, fixed_part, own_part}
use Rattle.probe_eval.proofs.OpenLaws.{value_is, atom_is}

pub is_apart_from : (v : Var) (k : ℕ) → is_other v k ≡ true → k ≡ v.0 → ⊥
is_apart_from v k h e = let z = eq-eqb v.0 k (sym e) in false≢true (rw z at h)

-- two rows of a variable are the same to all others
bound_apart : (v : Var) (r q : Row) (env : Env) → AreSame (is_other v) (bind v r env) (bind v q env)
bound_apart v r q env k h =
    let n : k ≡ v.0 → ⊥ = is_apart_from v k h in
    bind_other k v q env n ∙ sym (bind_other k v r env n)

-- and stay so as one more is bound
pub bound_same : (known : ℕ → Bool) (w : Var) (r : Row) (env final : Env) → AreSame known env final
    → AreSame known (bind w r env) (bind w r final)
bound_same known w r env final same k h =
    elim (cases_eq k w.0) [
      | inl e ↦ subst (λ j. lookup j (bind w r final) ≡ lookup j (bind w r env)) (sym e) (bind_same w r final ∙ sym (bind_same w r env))
      | inr n ↦ bind_other k w r final n ∙ same k h ∙ sym (bind_other k w r env n)
    ]

-- a condition that doesn't name v has one truth for all rows of v
pub stays : (T : Tables) (n : ℤ) (v : Var) (x : Condition) (env final : Env) → AreSame (is_other v) env final → mentions v x ≡ false
    → truth T n x final ≡ truth T n x env
stays T n v Always env final s h = refl
stays T n v Never env final s h = refl
stays T n v (Plain a) env final s h = atom_is (is_other v) env final s a (not-false (atom_known (is_other v) a) h)
stays T n v (NowAtLeast e) env final s h = rw (value_is (is_other v) env final s e (not-false (base_known (is_other v) e.base) h))
stays T n v (NowBefore e) env final s h = rw (value_is (is_other v) env final s e (not-false (base_known (is_other v) e.base) h))
stays T n v (All l r) env final s h =
    let k = or_parts (mentions v l) (mentions v r) h in
    rw (stays T n v l env final s k.0, stays T n v r env final s k.1)
stays T n v (Either l r) env final s h =
    let k = or_parts (mentions v l) (mentions v r) h in
    rw (stays T n v l env final s k.0, stays T n v r env final s k.1)
stays T n v (Not x) env final s h = ap not (stays T n v x env final s h)
stays T n v (Exists w t x) env final s h =
    any_same _ _ (rows_of t T) (λ r. stays T n v x (bind w r env) (bind w r final) (bound_same (is_other v) w r env final s) h)

fixed_one : (T : Tables) (n : ℤ) (v : Var) (x : Condition) (env final : Env) → AreSame (is_other v) env final
    → truth T n (if mentions v x then Always else x) final ≡ truth T n (if mentions v x then Always else x) env
fixed_one T n v x env final s = go (mentions v x) refl
  where
    go : (b : Bool) → mentions v x ≡ b → truth T n (if b then Always else x) final ≡ truth T n (if b then Always else x) env
    go true e = refl
    go false e = stays T n v x env final s e

split_one : (T : Tables) (n : ℤ) (b : Bool) (x : Condition) (env : Env)
    → truth T n x env ≡ (truth T n (if b then Always else x) env && truth T n (if b then x else Always) env)
split_one T n true x env = refl
split_one T n false x env = right (truth T n x env)
  where
    right : (b : Bool) → b ≡ (b && true)
    right true = refl
    right false = refl

work_one : (T : Tables) (b : Bool) (x : Condition) (env : Env)
    → work T (if b then Always else x) env + work T (if b then x else Always) env ≡ work T x env
work_one T true x env = omega arith
work_one T false x env = omega arith

-- the fixed conjuncts have one truth for all rows of v
fixed_stays : (T : Tables) (n : ℤ) (v : Var) (x : Condition) (env final : Env) → AreSame (is_other v) env final
    → truth T n (fixed_part v x) final ≡ truth T n (fixed_part v x) env
fixed_stays T n v (All l r) env final s = rw (fixed_stays T n v l env final s, fixed_stays T n v r env final s)
fixed_stays T n v Always env final s = refl
fixed_stays T n v Never env final s = refl
fixed_stays T n v (Plain a) env final s = fixed_one T n v (Plain a) env final s
fixed_stays T n v (NowAtLeast e) env final s = fixed_one T n v (NowAtLeast e) env final s
fixed_stays T n v (NowBefore e) env final s = fixed_one T n v (NowBefore e) env final s
fixed_stays T n v (Either l r) env final s = fixed_one T n v (Either l r) env final s
fixed_stays T n v (Not x) env final s = fixed_one T n v (Not x) env final s
fixed_stays T n v (Exists w t x) env final s = fixed_one T n v (Exists w t x) env final s

-- a condition is true if and only if both parts are
splits : (T : Tables) (n : ℤ) (v : Var) (x : Condition) (env : Env)
    → truth T n x env ≡ (truth T n (fixed_part v x) env && truth T n (own_part v x) env)
splits T n v (All l r) env = rw (splits T n v l env, splits T n v r env)
    (and_swapped (truth T n (fixed_part v l) env) (truth T n (own_part v l) env) (truth T n (fixed_part v r) env)
    (truth T n (own_part v r) env))
splits T n v Always env = refl
splits T n v Never env = refl
splits T n v (Plain a) env = split_one T n (mentions v (Plain a)) (Plain a) env
splits T n v (NowAtLeast e) env = split_one T n (mentions v (NowAtLeast e)) (NowAtLeast e) env
splits T n v (NowBefore e) env = split_one T n (mentions v (NowBefore e)) (NowBefore e) env
splits T n v (Either l r) env = split_one T n (mentions v (Either l r)) (Either l r) env
splits T n v (Not x) env = split_one T n (mentions v (Not x)) (Not x) env
splits T n v (Exists w t x) env = split_one T n (mentions v (Exists w t x)) (Exists w t x) env

-- and the parts together take no more steps than the whole
work_splits : (T : Tables) (v : Var) (x : Condition) (env : Env) → work T (fixed_part v x) env + work T (own_part v x) env ≡ work T x env
work_splits T v (All l r) env = let a = work_splits T v l env in let b = work_splits T v r env in omega (arith, a, b)
work_splits T v Always env = refl
work_splits T v Never env = refl
work_splits T v (Plain a) env = work_one T (mentions v (Plain a)) (Plain a) env
work_splits T v (NowAtLeast e) env = work_one T (mentions v (NowAtLeast e)) (NowAtLeast e) env
work_splits T v (NowBefore e) env = work_one T (mentions v (NowBefore e)) (NowBefore e) env
work_splits T v (Either l r) env = work_one T (mentions v (Either l r)) (Either l r) env
work_splits T v (Not x) env = work_one T (mentions v (Not x)) (Not x) env
work_splits T v (Exists w t x) env = work_one T (mentions v (Exists w t x)) (Exists w t x) env

-- what the first of a variable's rows and those that are left decide
module _ (T : Tables) (x : Condition) (v : Var) (env : Env) where
  -- the truth of the inner condition, and of its parts, with a row
  abbrev whole_at : Row → Bool
  whole_at row = truth T (pos 0) x (bind v row env)

  abbrev fixed_at : Row → Bool
  fixed_at row = truth T (pos 0) (fixed_part v x) (bind v row env)

  abbrev own_at : Row → Bool
  own_at row = truth T (pos 0) (own_part v x) (bind v row env)

  whole_is : (f : Bool) (r q : Row) → fixed_at r ≡ f → whole_at q ≡ (f && own_at q)
  whole_is f r q e =
      let s : fixed_at q ≡ f = fixed_stays T (pos 0) v x (bind v r env) (bind v q env) (bound_apart v r q env) ∙ e in
      splits T (pos 0) v x (bind v q env) ∙ ap (λ b. b && own_at q) s

  -- if the fixed conjuncts are false with one row, the condition is false with each
  pub fixed_false : (rows : List Row) (r : Row) → fixed_at r ≡ false → list_any whole_at rows ≡ false
  fixed_false [] r e = refl
  fixed_false (q ∷ rows) r e = rw (whole_is false r q e) (fixed_false rows r e)

  own_decides : (rows : List Row) (r : Row) → fixed_at r ≡ true → list_any whole_at rows ≡ list_any own_at rows
  own_decides rows r e = any_same whole_at own_at rows (λ q. whole_is true r q e)

  -- else it is true with a row if and only if its own conjuncts are
  pub own_true : (rows left : List Row) (r : Row) → rows ≡ r ∷ left → fixed_at r ≡ true → own_at r ≡ true → list_any whole_at rows ≡ true
  own_true rows left r e f o = own_decides rows r f ∙ ap (list_any own_at) e ∙ rw o refl

  pub own_false : (rows left : List Row) (r : Row) → rows ≡ r ∷ left → fixed_at r ≡ true → own_at r ≡ false
      → list_any whole_at rows ≡ list_any own_at left
  own_false rows left r e f o = own_decides rows r f ∙ ap (list_any own_at) e ∙ rw o refl

  -- its own conjuncts alone take no more steps than the whole, if the fixed ones are true
  own_total : (rows : List Row) (r : Row) → fixed_at r ≡ true → exists_work T v (own_part v x) env rows ≤ exists_work T v x env rows
  own_total [] r f = omega arith
  own_total (q ∷ rows) r f =
      let k = work_splits T v x (bind v q env) in
      let i = own_total rows r f in
      let w : whole_at q ≡ own_at q = whole_is true r q f in
      elim (cases_Bool (own_at q)) [
        | inl e ↦ rw (w ∙ e, e) (omega (arith, k))
        | inr e ↦ rw (w ∙ e, e) (omega (arith, k, i))
      ]

  -- the first row pays for the fixed conjuncts
  pub later_steps : (s next fixed own now : ℕ) (rows left : List Row) (r : Row) → rows ≡ r ∷ left → fixed_at r ≡ true → own_at r ≡ false
      → next ≡ s + 1
      → fixed ≤ next + work T (fixed_part v x) (bind v r env) → own ≤ fixed + work T (own_part v x) (bind v r env)
      → now ≤ own + exists_work T v (own_part v x) env left
      → now ≤ s + exists_work T v x env rows
  later_steps s next fixed own now rows left r e y z n f o h =
      let k = work_splits T v x (bind v r env) in
      let i = own_total left r y in
      let w : whole_at r ≡ false = whole_is true r r y ∙ z in
      let j : now ≤ s + exists_work T v x env (r ∷ left) = rw w (omega (arith, n, f, o, h, k, i)) in
      subst (λ q. now ≤ s + exists_work T v x env q) (sym e) j

  pub own_steps : (s next fixed own : ℕ) (rows left : List Row) (r : Row) → rows ≡ r ∷ left → next ≡ s + 1
      → fixed ≤ next + work T (fixed_part v x) (bind v r env)
      → own ≤ fixed + work T (own_part v x) (bind v r env) → own ≤ s + exists_work T v x env rows
  own_steps s next fixed own rows left r e n f o =
      let k = work_splits T v x (bind v r env) in
      let j : own ≤ s + exists_work T v x env (r ∷ left) = omega (arith, n, f, o, k) in
      subst (λ q. own ≤ s + exists_work T v x env q) (sym e) j

  pub fixed_steps : (s next fixed : ℕ) (rows left : List Row) (r : Row) → rows ≡ r ∷ left → next ≡ s + 1
      → fixed ≤ next + work T (fixed_part v x) (bind v r env)
      → fixed ≤ s + exists_work T v x env rows
  fixed_steps s next fixed rows left r e n f = own_steps s next fixed fixed rows left r e n f (omega arith)
