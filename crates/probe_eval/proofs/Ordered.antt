-- The members of a list of hits in order.
use Rattle.std.proofs.Common.{◌≡◌, List, [], ◌∷◌, inl, inr}
use Rattle.std.specs.Prelude.{◌⊎◌}
use Rattle.std.proofs.lemmas.Bool.{cases_Bool}
use Rattle.tap_rows.specs.declared.results.Hit.{Hit}
use Rattle.tap_rows.specs.Kept.{In}
use Rattle.tap_rows.specs.Results.{is_before, put_in, hits_in_order}

pub out_put : (a h : Hit) (bs : List Hit) → In h (put_in a bs) → (h ≡ a) ⊎ In h bs
out_put a h [] i = i
out_put a h (b ∷ bs) i =
    elim (cases_Bool (is_before a b)) [
      | inl e ↦ rw e at i
      | inr e ↦ other (rw e at i) (λ j. out_put a h bs j)
    ]
  where
    other : (h ≡ b) ⊎ In h (put_in a bs) → (In h (put_in a bs) → (h ≡ a) ⊎ In h bs) → (h ≡ a) ⊎ In h (b ∷ bs)
    other (inl q) f = inr (inl q)
    other (inr j) f = elim (f j) [ inl q ↦ inl q | inr k ↦ inr (inr k) ]

in_put : (a h : Hit) (bs : List Hit) → (h ≡ a) ⊎ In h bs → In h (put_in a bs)
in_put a h [] i = i
in_put a h (b ∷ bs) i =
    elim (cases_Bool (is_before a b)) [
      | inl e ↦ rw e i
      | inr e ↦ rw e (other i (λ j. in_put a h bs j))
    ]
  where
    other : (h ≡ a) ⊎ In h (b ∷ bs) → ((h ≡ a) ⊎ In h bs → In h (put_in a bs)) → (h ≡ b) ⊎ In h (put_in a bs)
    other (inl q) f = inr (f (inl q))
    other (inr (inl q)) f = inl q
    other (inr (inr j)) f = inr (f (inr j))

pub ordered_in : (h : Hit) (hs : List Hit) → In h (hits_in_order hs) → In h hs
ordered_in h [] i = i
ordered_in h (x ∷ xs) i = elim (out_put x h (hits_in_order xs) i) [ inl q ↦ inl q | inr j ↦ inr (ordered_in h xs j) ]

pub in_ordered : (h : Hit) (hs : List Hit) → In h hs → In h (hits_in_order hs)
in_ordered h [] i = i
in_ordered h (x ∷ xs) (inl q) = in_put x h (hits_in_order xs) (inl q)
in_ordered h (x ∷ xs) (inr i) = in_put x h (hits_in_order xs) (inr (in_ordered h xs i))
