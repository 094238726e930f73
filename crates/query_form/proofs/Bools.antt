-- Tests in another order, and tests of lists.
use Rattle.std.proofs.Common.{◌≡◌, refl, sym, ap, ◌∙◌, List, [], ◌∷◌, Bool, true, false}
use Rattle.std.specs.Prelude.{◌&&◌, ◌||◌}
use Rattle.std.specs.List.{list_any}
use Rattle.std.proofs.lemmas.Bool.{or_right}
use Rattle.tap_rows.proofs.Tests.{and_never, and_swapped}

pub shuffled : (a b c d e f : Bool) → ((a && b) && ((c && d) && (e && f))) ≡ ((a && (c && e)) && (b && (d && f)))
shuffled false b c d e f = refl
shuffled true true c d e f = and_swapped c d e f
shuffled true false c d e f = sym (and_never (c && e))

pub over_right : (l a b : Bool) → ((l && a) || (l && b)) ≡ (l && (a || b))
over_right true a b = refl
over_right false a b = refl

pub over_left : (a b r : Bool) → ((a && r) || (b && r)) ≡ ((a || b) && r)
over_left true b true = refl
over_left true b false = and_never b
over_left false b r = refl

pub and_of_ors : (l a b : Bool) → ((l || a) && (l || b)) ≡ (l || (a && b))
and_of_ors true a b = refl
and_of_ors false a b = refl

pub or_of_and : (a b r : Bool) → ((a || r) && (b || r)) ≡ ((a && b) || r)
or_of_and true true r = refl
or_of_and true false r = refl
or_of_and false b r = go b r
  where
    go : (b r : Bool) → (r && (b || r)) ≡ r
    go true true = refl
    go true false = refl
    go false true = refl
    go false false = refl

or_swapped : (a b c d : Bool) → ((a || b) || (c || d)) ≡ ((a || c) || (b || d))
or_swapped true b c d = refl
or_swapped false b true d = or_right b true refl
or_swapped false true false d = refl
or_swapped false false false d = refl

pulled : (b h x rest : Bool) → ((b && (x && h)) || (b && (rest && h))) ≡ (b && ((x || rest) && h))
pulled false h x rest = refl
pulled true h x rest = over_left x rest h

module _ {A : Type 0} where
  pub any_same : (p q : A → Bool) (xs : List A) → ((x : A) → p x ≡ q x) → list_any p xs ≡ list_any q xs
  any_same p q [] same = refl
  any_same p q (x ∷ xs) same = rw (same x, any_same p q xs same) refl

  pub any_or : (p q : A → Bool) (xs : List A) → (list_any p xs || list_any q xs) ≡ list_any (λ x. p x || q x) xs
  any_or p q [] = refl
  any_or p q (x ∷ xs) = or_swapped (p x) (list_any p xs) (q x) (list_any q xs) ∙ ap (λ b. (p x || q x) || b) (any_or p q xs)

  pub any_pulled : (b h : Bool) (p : A → Bool) (xs : List A) → list_any (λ x. b && (p x && h)) xs ≡ (b && (list_any p xs && h))
  any_pulled b h p [] = sym (and_never b)
  any_pulled b h p (x ∷ xs) = ap (λ z. (b && (p x && h)) || z) (any_pulled b h p xs) ∙ pulled b h (p x) (list_any p xs)
