-- One more turn is that of one more part.
use Rattle.std.proofs.Common.{◌≡◌, ◌∙◌, ℕ, zero, suc, ◌+◌, ◌≤◌, List, [], ◌∷◌, ◌++◌, drop, length, refl, sym, ap, subst, arith}
use Rattle.std.specs.List.{flat_map}
use Rattle.std.proofs.lemmas.Grind.{flat_map-append}
use Rattle.tap_rows.specs.Kept.{Each}
use Rattle.probe_eval.specs.Work.{total}

module _ {A : Type 0} where
  append_none : (xs : List A) → xs ++ [] ≡ xs
  append_none [] = refl
  append_none (x ∷ xs) = ap (λ z. x ∷ z) (append_none xs)

  append_append : (xs ys zs : List A) → (xs ++ ys) ++ zs ≡ xs ++ (ys ++ zs)
  append_append [] ys zs = refl
  append_append (x ∷ xs) ys zs = ap (λ z. x ∷ z) (append_append xs ys zs)

  drop_all : (xs : List A) (i : ℕ) → length xs ≤ i → drop i xs ≡ []
  drop_all [] zero h = refl
  drop_all [] (suc i) h = refl
  drop_all (x ∷ xs) zero h = absurd (omega (arith, h))
  drop_all (x ∷ xs) (suc i) h = drop_all xs i (less (length xs) i h)
    where
      less : (n i : ℕ) → suc n ≤ suc i → n ≤ i
      less n i h = omega (arith, h)

  pub each_pushed : (P : A → Type 0) (xs now : List A) (x : A) → Each P xs → P x → now ≡ xs ++ x ∷ [] → Each P now
  each_pushed P xs now x h p e = subst (Each P) (sym e) (go xs h)
    where
      go : (xs : List A) → Each P xs → Each P (xs ++ x ∷ [])
      go [] h = (p, tt)
      go (y ∷ ys) h = (h.0, go ys h.1)

total_append : {A : Type 0} (f : A → ℕ) (xs ys : List A) → total f (xs ++ ys) ≡ total f xs + total f ys
total_append f [] ys = omega arith
total_append f (x ∷ xs) ys = let k = total_append f xs ys in omega (arith, k)

module _ {A B C : Type 0} (f : A → List C) (g : B → List C) where
  pub pushed_hits : (xs now : List A) (x : A) (ys left : List B) (y : B) (all : List C) → flat_map f xs ++ flat_map g ys ≡ all
      → ys ≡ y ∷ left → f x ≡ g y → now ≡ xs ++ x ∷ [] → flat_map f now ++ flat_map g left ≡ all
  pushed_hits xs now x ys left y all h e q n =
      ap (λ z. flat_map f z ++ flat_map g left) n
      ∙ ap (λ z. z ++ flat_map g left) (flat_map-append f xs (x ∷ []) ∙ ap (λ z. flat_map f xs ++ z) (append_none (f x) ∙ q))
      ∙ append_append (flat_map f xs) (g y) (flat_map g left)
      ∙ ap (λ z. flat_map f xs ++ flat_map g z) (sym e)
      ∙ h

  pub all_pushed : (xs : List A) (ys : List B) (i : ℕ) (all : List C) → flat_map f xs ++ flat_map g (drop i ys) ≡ all → length ys ≤ i
      → flat_map f xs ≡ all
  all_pushed xs ys i all h l = sym (append_none (flat_map f xs)) ∙ ap (λ z. flat_map f xs ++ flat_map g z) (sym (drop_all ys i l)) ∙ h

pub pushed_cost : {A B : Type 0} (f : A → ℕ) (g : B → ℕ) (xs now : List A) (x : A) (ys left : List B) (y : B) (s taken bound : ℕ)
    → s + total f xs + (length ys + total g ys) ≤ bound → ys ≡ y ∷ left → taken + f x ≤ s + (1 + g y) → now ≡ xs ++ x ∷ []
    → taken + total f now + (length left + total g left) ≤ bound
pushed_cost f g xs now x ys left y s taken bound h e q n =
    let k = ap (total f) n ∙ total_append f xs (x ∷ []) in
    let l = ap length e in
    let m = ap (total g) e in
    go (total f now) (total f xs) (f x) (length ys) (length left) (total g ys) (g y) (total g left) k l m h q
  where
    go : (tn tx fx ly ll ty gy tl : ℕ) → tn ≡ tx + (fx + 0) → ly ≡ suc ll → ty ≡ gy + tl → s + tx + (ly + ty) ≤ bound
        → taken + fx ≤ s + (1 + gy) → taken + tn + (ll + tl) ≤ bound
    go tn tx fx ly ll ty gy tl k l m h q = omega (arith, k, l, m, h, q)

pub pushed_room : {A B : Type 0} (xs now : List A) (x : A) (ys left : List B) (y : B) (room more : ℕ) → length xs + length ys ≤ room
    → ys ≡ y ∷ left → now ≡ xs ++ x ∷ [] → room ≤ more → length now + length left ≤ more
pushed_room {A = A} xs now x ys left y room more h e n r =
    let k = ap length n ∙ one xs in
    let l = ap length e in
    go (length now) (length xs) (length ys) (length left) k l h
  where
    one : (xs : List A) → length (xs ++ x ∷ []) ≡ length xs + 1
    one [] = refl
    one (z ∷ zs) = let k = one zs in omega (arith, k)

    go : (n a b c : ℕ) → n ≡ a + 1 → b ≡ suc c → a + b ≤ room → n + c ≤ more
    go n a b c k l h = omega (arith, k, l, h, r)
