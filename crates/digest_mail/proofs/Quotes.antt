-- The `>` at a line's start.
use Rattle.std.proofs.Common.{◌≡◌, ◌∙◌, ap, subst, refl, arith, ℕ, suc, List, [], ◌∷◌, ◌+◌, take, drop, length, Bool, true, false}
use Rattle.std.specs.Prelude.{◌==◌, ◌&&◌, nat_eq, cond}
use Rattle.std.specs.Cmp.Lexicographic.{pointwise}
use Rattle.mail_lines.specs.Mbox.{quotes}

-- a line that begins with one
one-front : (xs : List ℕ) → pointwise nat_eq (take 1 xs) (62 ∷ []) ≡ true → drop (quotes (drop 1 xs)) (drop 1 xs) ≡ drop (quotes xs) xs
one-front [] e = refl
one-front (x ∷ xs) e = go (x == 62) refl e where
  go : (b : Bool) → (x == 62) ≡ b → (b && true) ≡ true → drop (quotes xs) xs ≡ drop (cond b (1 + quotes xs) 0) (x ∷ xs)
  go true is t = ap (λ n. drop n (x ∷ xs)) (one-more (quotes xs)) where
    one-more : (n : ℕ) → suc n ≡ 1 + n
    one-more n = omega arith
  go false is t = absurd (grind arith)

-- a line that doesn't
no-front : (xs : List ℕ) → pointwise nat_eq (take 1 xs) (62 ∷ []) ≡ false → drop (quotes xs) xs ≡ xs
no-front [] e = refl
no-front (x ∷ xs) e = go (x == 62) refl e where
  go : (b : Bool) → (x == 62) ≡ b → (b && true) ≡ false → drop (cond b (1 + quotes xs) 0) (x ∷ xs) ≡ x ∷ xs
  go true is t = absurd (grind arith)
  go false is t = refl

-- the same, by the prefix that is looked for
pub one-quote : (xs after front : List ℕ) → front ≡ 62 ∷ [] → pointwise nat_eq (take (length front) xs) front ≡ true
    → after ≡ drop (length front) xs → drop (quotes after) after ≡ drop (quotes xs) xs
one-quote xs after front is e cut =
    ap (λ l. drop (quotes l) l) (cut ∙ ap (λ l. drop (length l) xs) is)
    ∙ one-front xs (subst (λ l. pointwise nat_eq (take (length l) xs) l ≡ true) is e)

pub no-quote : (xs front : List ℕ) → front ≡ 62 ∷ [] → pointwise nat_eq (take (length front) xs) front ≡ false → drop (quotes xs) xs ≡ xs
no-quote xs front is e = no-front xs (subst (λ l. pointwise nat_eq (take (length l) xs) l ≡ false) is e)
