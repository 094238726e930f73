-- How many nodes a form has, and how many EXISTS replace one.
use Rattle.std.proofs.Common.{◌≡◌, ℕ, ◌+◌, ◌*◌, ◌≤◌, true, false, Bool, refl, sym, ◌∙◌, subst, inl, inr, arith}
use Rattle.std.specs.Prelude.{◌⊎◌, ◌&&◌, ◌||◌, nat_le, if◌then◌else◌}
use Rattle.std.proofs.Math.Nat.{le-mul_of_pos_right, one-le-mul, mul_comm, add-mul, one-mul}
use Rattle.std.proofs.lemmas.Bool.{leb-true, or_left, or_right}
use Rattle.tql_core.specs.declared.term.Var.{Var}
use Rattle.tql_core.specs.Condition.{Condition, All, Either, Exists}
use Rattle.query_form.specs.Form.{has_key, at_most, alternatives, cross_right, cross, distributed, exists_each, split, exists_count}
use Rattle.query_form.specs.Form.{node_count, formed}
use Rattle.query_form.specs.Laws.{FormsAreSmall, IsSplit, SplitsAreFew}
use Rattle.query_form.proofs.Bools.{and_of_ors, or_of_and}

pub forms_are_small : FormsAreSmall
forms_are_small c = go (nat_le (node_count (formed c)) 128) refl
  where
    go : (b : Bool) → nat_le (node_count (formed c)) 128 ≡ b
        → (node_count (if b then formed c else c) ≤ 128) ⊎ ((if b then formed c else c) ≡ c)
    go true few = inl (leb-true (node_count (formed c)) 128 few)
    go false many = inr refl

-- a count that isn't over the limit is the number itself
counted : (n : ℕ) → at_most 17 n ≤ 16 → (at_most 17 n ≡ n) × (n ≤ 16)
counted n few = go (nat_le n 17) few
  where
    go : (b : Bool) → (if b then n else 17) ≤ 16 → ((if b then n else 17) ≡ n) × (n ≤ 16)
    go true le = (refl, le)
    go false le = absurd (omega (arith, le))

at_least_one : (n : ℕ) → 1 ≤ n → 1 ≤ at_most 17 n
at_least_one n some = go (nat_le n 17)
  where
    go : (b : Bool) → 1 ≤ (if b then n else 17)
    go true = some
    go false = omega arith

-- how many alternatives an OR has, if each side has at most that many
either_count : (k h : Bool) (n m a b : ℕ) → (if k && h then at_most 17 (a + b) else 1) ≤ 16 → (a ≤ 16 → n ≡ a) → (b ≤ 16 → m ≡ b)
    → (if k && h then n + m else 1) ≡ (if k && h then at_most 17 (a + b) else 1)
either_count true true n m a b few e f =
    let c = counted (a + b) few in
    rw (e (omega (arith, c.1)), f (omega (arith, c.1))) (sym c.0)
either_count true false n m a b few e f = refl
either_count false h n m a b few e f = refl

some_left : (l r : ℕ) → 1 ≤ r → l * r ≤ 16 → l ≤ 16
some_left l r some few = let up : l ≤ l * r = le-mul_of_pos_right l some in omega (arith, up, few)

some_right : (l r : ℕ) → 1 ≤ l → l * r ≤ 16 → r ≤ 16
some_right l r some few = some_left r l some (subst (λ n. n ≤ 16) (mul_comm l r) few)

factored : (k h : Bool) (n m c : ℕ) → (if k && h then n * c + m * c else c) ≡ (if k && h then n + m else 1) * c
factored true true n m c = sym (add-mul n m c)
factored true false n m c = sym (one-mul c)
factored false h n m c = sym (one-mul c)

module _ (v : Var) where
  key_chosen : (b : Bool) (x y : Condition) (k : Bool) → has_key v x ≡ k → has_key v y ≡ k → has_key v (if b then x else y) ≡ k
  key_chosen true x y k e f = e
  key_chosen false x y k e f = f

  cross_right_key : (l r : Condition) → has_key v (cross_right v l r) ≡ (has_key v l || has_key v r)
  cross_right_key l (Either a b) =
      key_chosen (has_key v a && has_key v b) (Either (cross_right v l a) (cross_right v l b)) (All l (Either a b))
      (has_key v l || (has_key v a && has_key v b))
      (rw (cross_right_key l a, cross_right_key l b) (and_of_ors (has_key v l) (has_key v a) (has_key v b)))
      refl
  cross_right_key l r = refl

  cross_key : (l r : Condition) → has_key v (cross v l r) ≡ (has_key v l || has_key v r)
  cross_key (Either a b) r =
      key_chosen (has_key v a && has_key v b) (Either (cross v a r) (cross v b r)) (cross_right v (Either a b) r)
      ((has_key v a && has_key v b) || has_key v r)
      (rw (cross_key a r, cross_key b r) (or_of_and (has_key v a) (has_key v b) (has_key v r)))
      (cross_right_key (Either a b) r)
  cross_key l r = cross_right_key l r

  distributed_key : (x : Condition) → has_key v (distributed v x) ≡ has_key v x
  distributed_key (All l r) = cross_key (distributed v l) (distributed v r) ∙ rw (distributed_key l, distributed_key r) refl
  distributed_key (Either l r) = rw (distributed_key l, distributed_key r) refl
  distributed_key x = refl

  split_count : (l r : Condition) (k h : Bool) → has_key v l ≡ k → has_key v r ≡ h
      → exists_count v (Either l r) ≡ (if k && h then exists_count v l + exists_count v r else 1)
  split_count l r k h e f = rw (e, f) refl

  -- how many EXISTS replace one if the sides of an OR have become x and y
  sides_count : (k h : Bool) (x y z : Condition) (n m w : ℕ) → (k ≡ true → has_key v x ≡ true) → (h ≡ true → has_key v y ≡ true)
      → exists_count v x ≡ n → exists_count v y ≡ m → exists_count v z ≡ w
      → exists_count v (if k && h then Either x y else z) ≡ (if k && h then n + m else w)
  sides_count true true x y z n m w e f p q r = split_count x y true true (e refl) (f refl) ∙ rw (p, q) refl
  sides_count true false x y z n m w e f p q r = r
  sides_count false h x y z n m w e f p q r = r

  cross_right_count : (l r : Condition) → exists_count v (cross_right v l r) ≡ exists_count v r
  cross_right_count l (Either a b) =
      sides_count (has_key v a) (has_key v b) (cross_right v l a) (cross_right v l b) (All l (Either a b))
      (exists_count v a) (exists_count v b) 1
      (λ e. cross_right_key l a ∙ or_right (has_key v l) (has_key v a) e)
      (λ e. cross_right_key l b ∙ or_right (has_key v l) (has_key v b) e)
      (cross_right_count l a) (cross_right_count l b) refl
  cross_right_count l r = refl

  cross_count : (l r : Condition) → exists_count v (cross v l r) ≡ exists_count v l * exists_count v r
  cross_count (Either a b) r =
      sides_count (has_key v a) (has_key v b) (cross v a r) (cross v b r) (cross_right v (Either a b) r)
      (exists_count v a * exists_count v r) (exists_count v b * exists_count v r) (exists_count v r)
      (λ e. cross_key a r ∙ or_left (has_key v a) (has_key v r) e)
      (λ e. cross_key b r ∙ or_left (has_key v b) (has_key v r) e)
      (cross_count a r) (cross_count b r) (cross_right_count (Either a b) r)
      ∙ factored (has_key v a) (has_key v b) (exists_count v a) (exists_count v b) (exists_count v r)
  cross_count l r = cross_right_count l r ∙ sym (one-mul (exists_count v r))

  some_alternative : (x : Condition) → 1 ≤ alternatives v x
  some_alternative (All l r) =
      at_least_one (alternatives v l * alternatives v r) (one-le-mul (some_alternative l) (some_alternative r))
  some_alternative (Either l r) = go (has_key v l && has_key v r) (some_alternative l)
    where
      go : (b : Bool) → 1 ≤ alternatives v l → 1 ≤ (if b then at_most 17 (alternatives v l + alternatives v r) else 1)
      go true some = at_least_one (alternatives v l + alternatives v r) (omega (arith, some))
      go false some = omega arith
  some_alternative x = omega arith

  distributed_count : (x : Condition) → alternatives v x ≤ 16 → exists_count v (distributed v x) ≡ alternatives v x
  distributed_count (All l r) few =
      let c = counted (alternatives v l * alternatives v r) few in
      cross_count (distributed v l) (distributed v r)
      ∙ rw (
        distributed_count l (some_left (alternatives v l) (alternatives v r) (some_alternative r) c.1),
        distributed_count r (some_right (alternatives v l) (alternatives v r) (some_alternative l) c.1),
      ) (sym c.0)
  distributed_count (Either l r) few =
      split_count (distributed v l) (distributed v r) (has_key v l) (has_key v r) (distributed_key l) (distributed_key r)
      ∙ either_count (has_key v l) (has_key v r) (exists_count v (distributed v l)) (exists_count v (distributed v r))
      (alternatives v l) (alternatives v r) few (distributed_count l) (distributed_count r)
  distributed_count x few = refl

pub splits_are_few : SplitsAreFew
splits_are_few v t x = go (nat_le (alternatives v x) 16) refl (nat_le (node_count made) 128) refl
  where
    made : Condition
    made = exists_each v t (distributed v x)

    few : nat_le (alternatives v x) 16 ≡ true → exists_count v (distributed v x) ≤ 16
    few e =
        let le : alternatives v x ≤ 16 = leb-true (alternatives v x) 16 e in
        subst (λ n. n ≤ 16) (sym (distributed_count v x le)) le

    go : (b : Bool) → nat_le (alternatives v x) 16 ≡ b → (d : Bool) → nat_le (node_count made) 128 ≡ d
        → (split v t x ≡ Exists v t x) ⊎ IsSplit v t x
    go true e true f =
        let is : split v t x ≡ made = rw (e, f) refl in
        inr (record { made = is; few = few e; small = subst (λ c. node_count c ≤ 128) (sym is) (leb-true (node_count made) 128 f) })
    go true e false f = inl (rw (e, f) refl)
    go false e d f = inl (rw e refl)
