-- What the search for the least second finds.
use Rattle.std.proofs.Common.{◌≡◌, ◌∙◌, sym, ap, refl, arith, ℕ, zero, suc, ◌+◌, ℤ, pos, negsuc, Bool, true, false, Some, None, inl, inr}
use Rattle.std.specs.Prelude.{◌+ℤ◌, ◌≤ℤ◌, ◌<ℤ◌}
use Rattle.std.specs.Int.{int_gap}
use Rattle.std.specs.Option.{option_or}
use Rattle.std.proofs.lemmas.Bool.{cases_Bool}
use Rattle.std.proofs.lemmas.Int.{ints, by_lt_z}
use Rattle.tap_rows.specs.Seconds.{first_from, least_second}
use Rattle.tap_rows.proofs.Tests.{some_same}

-- none of the seconds tried passes
pub first_from-none : (p : ℤ → Bool) (n : ℕ) (a x : ℤ) → first_from p n a ≡ None → a ≤ℤ x → x <ℤ (a +ℤ pos n) → p x ≡ false
first_from-none p zero a x h lo hi = absurd (omega (arith, ints))
first_from-none p (suc n) a x h lo hi =
    elim (cases_Bool (p a)) [
      | inl y ↦ absurd (none_some (rw y at h))
      | inr z ↦
          let h' : first_from p n (a +ℤ pos 1) ≡ None = rw z at h in
          by_lt_z a x
          (λ w. first_from-none p n (a +ℤ pos 1) x h' (omega (arith, ints)) (omega (arith, ints)))
          (λ w. let e : x ≡ a = omega (arith, ints) in ap p e ∙ z)
    ]
  where
    none_some : {x : ℤ} → Some x ≡ None → ⊥
    none_some e = cc

-- what is found among some seconds lies among them
pub first_from-within : (p : ℤ → Bool) (n : ℕ) (a f : ℤ) → first_from p n a ≡ Some f → (a ≤ℤ f) × (f <ℤ (a +ℤ pos n))
first_from-within p zero a f h = absurd cc
first_from-within p (suc n) a f h =
    elim (cases_Bool (p a)) [
      | inl y ↦
          let e : a ≡ f = some_same (rw y at h) in
          (omega (arith, ints), omega (arith, ints))
      | inr z ↦
          let r = first_from-within p n (a +ℤ pos 1) f (rw z at h) in
          (omega (arith, ints, r.0), omega (arith, ints, r.1))
    ]

-- what is found passes
pub first_from-passes : (p : ℤ → Bool) (n : ℕ) (a f : ℤ) → first_from p n a ≡ Some f → p f ≡ true
first_from-passes p zero a f h = absurd cc
first_from-passes p (suc n) a f h =
    elim (cases_Bool (p a)) [
      | inl y ↦ ap p (sym (some_same (rw y at h))) ∙ y
      | inr z ↦ first_from-passes p n (a +ℤ pos 1) f (rw z at h)
    ]

-- a test that holds nowhere is found nowhere
pub first_from-never : (p : ℤ → Bool) (n : ℕ) (a : ℤ) → ((x : ℤ) → a ≤ℤ x → x <ℤ (a +ℤ pos n) → p x ≡ false) → first_from p n a ≡ None
first_from-never p zero a h = refl
first_from-never p (suc n) a h =
    rw (h a (omega (arith, ints)) (omega (arith, ints)))
    (first_from-never p n (a +ℤ pos 1) (λ x lo hi. h x (omega (arith, ints)) (omega (arith, ints))))

-- the least second at which it holds is found
pub first_from-is : (p : ℤ → Bool) (n : ℕ) (a s : ℤ) → a ≤ℤ s → s <ℤ (a +ℤ pos n) → p s ≡ true → ((x : ℤ) → a ≤ℤ x → x <ℤ s → p x ≡ false)
    → first_from p n a ≡ Some s
first_from-is p zero a s lo hi here before = absurd (omega (arith, ints))
first_from-is p (suc n) a s lo hi here before =
    by_lt_z a s
    (λ w. rw (before a (omega (arith, ints)) w)
    (first_from-is p n (a +ℤ pos 1) s (omega (arith, ints)) (omega (arith, ints)) here (λ x l h. before x (omega (arith, ints)) h)))
    (λ w. let e : a ≡ s = omega (arith, ints) in let y : p a ≡ true = ap p e ∙ here in rw y (ap Some e))

-- tests that agree on the seconds tried
pub first_from-same : (p q : ℤ → Bool) (n : ℕ) (a : ℤ) → ((x : ℤ) → a ≤ℤ x → x <ℤ (a +ℤ pos n) → p x ≡ q x)
    → first_from p n a ≡ first_from q n a
first_from-same p q zero a h = refl
first_from-same p q (suc n) a h =
    rw (
      h a (omega (arith, ints)) (omega (arith, ints)),
      first_from-same p q n (a +ℤ pos 1) (λ x lo hi. h x (omega (arith, ints)) (omega (arith, ints))),
    )

-- more seconds: what was found first, or else what is found among the others
pub first_from-more : (p : ℤ → Bool) (n k : ℕ) (a b : ℤ) → b ≡ a +ℤ pos n
    → first_from p (n + k) a ≡ option_or (first_from p n a) (first_from p k b)
first_from-more p zero k a b e =
    let e' : b ≡ a = omega (arith, ints) in
    let k' : 0 + k ≡ k = omega arith in
    rw (k', e')
first_from-more p (suc n) k a b e =
    let k' : suc n + k ≡ suc (n + k) = omega arith in
    let e' : b ≡ (a +ℤ pos 1) +ℤ pos n = omega (arith, ints) in
    elim (cases_Bool (p a)) [
      | inl y ↦ rw (k', y)
      | inr z ↦ rw (k', z) (first_from-more p n k (a +ℤ pos 1) b e')
    ]

-- the seconds between two
pub gap-is : (a b : ℤ) → a ≤ℤ b → b ≡ a +ℤ pos (int_gap a b)
gap-is (pos a) (pos b) h = omega (arith, ints)
gap-is (pos a) (negsuc b) h = omega (arith, ints)
gap-is (negsuc a) (pos b) h = omega (arith, ints)
gap-is (negsuc a) (negsuc b) h = omega (arith, ints)

pub gap-none : (a t : ℤ) → t ≤ℤ a → int_gap a t ≡ 0
gap-none (pos a) (pos t) h = omega (arith, ints)
gap-none (pos a) (negsuc t) h = refl
gap-none (negsuc a) (pos t) h = absurd (omega (arith, ints))
gap-none (negsuc a) (negsuc t) h = omega (arith, ints)

pub gap-more : (a b c : ℤ) → a ≤ℤ b → b ≤ℤ c → int_gap a c ≡ int_gap a b + int_gap b c
gap-more a b c h k =
    let x = gap-is a b h in
    let y = gap-is b c k in
    let z : c ≡ a +ℤ pos (int_gap a c) = gap-is a c (omega (arith, ints)) in
    omega (arith, ints, x, y, z)

-- a second among those from a on that are tried is below t
pub gap-end : (a t x : ℤ) → a ≤ℤ x → x <ℤ (a +ℤ pos (int_gap a t)) → x <ℤ t
gap-end a t x lo hi =
    by_lt_z a t
    (λ w. let z = gap-is a t (omega (arith, ints)) in omega (arith, ints, z))
    (λ w. let z = gap-none a t w in absurd (omega (arith, ints, z)))

pub gap-within : (a t x : ℤ) → a ≤ℤ x → x <ℤ t → x <ℤ (a +ℤ pos (int_gap a t))
gap-within a t x lo hi = let z = gap-is a t (omega (arith, ints)) in omega (arith, ints, z)

pub least_second-within : (p : ℤ → Bool) (a t f : ℤ) → least_second p a t ≡ Some f → (a ≤ℤ f) × (f <ℤ t)
least_second-within p a t f h = let w = first_from-within p (int_gap a t) a f h in (w.0, gap-end a t f w.0 w.1)

pub least_second-never : (p : ℤ → Bool) (a t : ℤ) → ((x : ℤ) → a ≤ℤ x → x <ℤ t → p x ≡ false) → least_second p a t ≡ None
least_second-never p a t h = first_from-never p (int_gap a t) a (λ x lo hi. h x lo (gap-end a t x lo hi))

pub least_second-is : (p : ℤ → Bool) (a t s : ℤ) → a ≤ℤ s → s <ℤ t → p s ≡ true → ((x : ℤ) → a ≤ℤ x → x <ℤ s → p x ≡ false)
    → least_second p a t ≡ Some s
least_second-is p a t s lo hi here before = first_from-is p (int_gap a t) a s lo (gap-within a t s lo hi) here before

pub least_second-same : (p q : ℤ → Bool) (a t : ℤ) → ((x : ℤ) → a ≤ℤ x → x <ℤ t → p x ≡ q x) → least_second p a t ≡ least_second q a t
least_second-same p q a t h = first_from-same p q (int_gap a t) a (λ x lo hi. h x lo (gap-end a t x lo hi))

pub least_second-more : (p : ℤ → Bool) (a b t : ℤ) → a ≤ℤ b → b ≤ℤ t
    → least_second p a t ≡ option_or (least_second p a b) (least_second p b t)
least_second-more p a b t h k = rw (gap-more a b t h k) (first_from-more p (int_gap a b) (int_gap b t) a b (gap-is a b h))
