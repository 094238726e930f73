-- How many elements of a list pass a test.
use Rattle.std.proofs.Common.{◌≡◌, ◌∙◌, refl, sym, ap, inl, inr, arith, suc, ◌≤◌, ◌<◌, Bool, true, false, List, [], ◌∷◌, length}
use Rattle.std.specs.List.{filter}
use Rattle.std.proofs.lemmas.Bool.{false≢true}
use Rattle.tap_rows.specs.Kept.{In}

module _ {A : Type 0} (p q : A → Bool) (fewer : (x : A) → q x ≡ true → p x ≡ true) where
  -- how many there are, by the test of the first
  first_passes : (x : A) (xs : List A) → p x ≡ true → length (filter p (x ∷ xs)) ≡ suc (length (filter p xs))
  first_passes x xs h = rw h refl

  -- a narrower test has no more
  pub count_≤ : (xs : List A) → length (filter q xs) ≤ length (filter p xs)
  count_≤ [] = omega arith
  count_≤ (x ∷ xs) = go (q x) refl (p x) refl (count_≤ xs) where
    go : (b : Bool) → q x ≡ b → (c : Bool) → p x ≡ c → length (filter q xs) ≤ length (filter p xs)
        → length (filter q (x ∷ xs)) ≤ length (filter p (x ∷ xs))
    go true e true f h = rw (e, f) (omega arith)
    go true e false f h = absurd (false≢true (sym f ∙ fewer x e))
    go false e true f h = rw (e, f) (omega arith)
    go false e false f h = rw (e, f) h

  -- and fewer if an element passes the wider test alone
  pub count_< : (xs : List A) (y : A) → In y xs → p y ≡ true → q y ≡ false → length (filter q xs) < length (filter p xs)
  count_< [] y i h k = absurd i
  count_< (x ∷ xs) y (inl i) h k =
      let a : p x ≡ true = ap p (sym i) ∙ h in
      let b : q x ≡ false = ap q (sym i) ∙ k in
      rw (a, b) (let c = count_≤ xs in omega arith)
  count_< (x ∷ xs) y (inr i) h k = go (q x) refl (p x) refl (count_< xs y i h k) where
    go : (b : Bool) → q x ≡ b → (c : Bool) → p x ≡ c → length (filter q xs) < length (filter p xs)
        → length (filter q (x ∷ xs)) < length (filter p (x ∷ xs))
    go true e true f n = rw (e, f) (omega arith)
    go true e false f n = absurd (false≢true (sym f ∙ fewer x e))
    go false e true f n = rw (e, f) (omega arith)
    go false e false f n = rw (e, f) n

-- the elements that pass are some of the list
pub count_all : {A : Type 0} (p : A → Bool) (xs : List A) → length (filter p xs) ≤ length xs
count_all p [] = omega arith
count_all p (x ∷ xs) = go (p x) refl (count_all p xs) where
  go : (b : Bool) → p x ≡ b → length (filter p xs) ≤ length xs → length (filter p (x ∷ xs)) ≤ suc (length xs)
  go true e h = rw e (omega arith)
  go false e h = rw e (omega arith)

-- none passes if there are none that pass
pub count_none : {A : Type 0} (p : A → Bool) (xs : List A) (x : A) → length (filter p xs) ≤ 0 → In x xs → p x ≡ false
count_none p [] x h i = absurd i
count_none p (y ∷ ys) x h i = go (count_none p ys x) (p y) refl i where
  go : (length (filter p ys) ≤ 0 → In x ys → p x ≡ false) → (b : Bool) → p y ≡ b → In x (y ∷ ys) → p x ≡ false
  go rest true e i = absurd (let k : length (filter p (y ∷ ys)) ≡ suc (length (filter p ys)) = rw e refl in omega arith)
  go rest false e (inl i) = ap p i ∙ e
  go rest false e (inr i) = rest (let k : length (filter p (y ∷ ys)) ≡ length (filter p ys) = rw e refl in omega arith) i
