-- The place of the least mark among turns.
use Rattle.std.proofs.Common.{◌≡◌, ℕ, ◌+◌, ℤ, true, false, List, drop, Option, Some, None, refl, sym, subst, inl, inr, arith}
use Rattle.std.specs.Prelude.{◌⊎◌, ◌≤ℤ◌, int_lt, slice_get}
use Rattle.std.proofs.lemmas.Int.{ints}
use Rattle.std.proofs.lemmas.Bool.{cases_Bool}
use Rattle.tap_rows.specs.Kept.{In}
use Rattle.probe_eval.proofs.Steps.{rest_at}
use Rattle.wake_plan.specs.declared.firsts.FirstPlace.{FirstPlace}
use Rattle.wake_plan.specs.declared.turn.Turn.{Turn}
use Rattle.wake_plan.specs.Turns.{due_mark}
use Rattle.wake_plan.specs.Firsts.{nearer, IsNoLater, IsBehind, StandsAt, IsPlace}

lt_le : (x y z : ℤ) → int_lt x y ≡ true → y ≤ℤ z → x ≤ℤ z
lt_le x y z h k = grind (arith, ints)

not_lt : (x y : ℤ) → int_lt x y ≡ false → y ≤ℤ x
not_lt x y h = grind (arith, ints)

same : (x : ℤ) → x ≤ℤ x
same x = omega (arith, ints)

sooner : (b c : ℤ) (o : Option ℤ) → int_lt b c ≡ true → IsNoLater c o → IsNoLater b o
sooner b c None h n = tt
sooner b c (Some d) h n = lt_le b c d h n

none_later : (b : ℤ) (o : Option ℤ) → o ≡ None → IsNoLater b o
none_later b o e = subst (IsNoLater b) (sym e) tt

still_behind : (first : Option FirstPlace) (i : ℕ) (o other : Option ℤ) → IsBehind first other → IsBehind (nearer first i o) other
still_behind first i None other h = h
still_behind None i (Some b) other h = none_later b other h
still_behind (Some x) i (Some b) other h = elim (cases_Bool (int_lt b x.mark)) [ inl e ↦ rw e (sooner b x.mark other e h) | inr e ↦ rw e h ]

now_behind : (first : Option FirstPlace) (i : ℕ) (o : Option ℤ) → IsBehind (nearer first i o) o
now_behind None i None = refl
now_behind (Some x) i None = tt
now_behind None i (Some b) = same b
now_behind (Some x) i (Some b) = elim (cases_Bool (int_lt b x.mark)) [ inl e ↦ rw e (same b) | inr e ↦ rw e (not_lt b x.mark e) ]

module _ (turns : List Turn) (i : ℕ) (t : Turn) (at : slice_get turns i ≡ Some t) where
  stands : (b : ℤ) → due_mark t.next ≡ Some b → StandsAt turns (record { index = i; mark = b })
  stands b e = record { turn = t; at = at; mark = e }

  still_place : (first : Option FirstPlace) (o : Option ℤ) → due_mark t.next ≡ o → IsPlace turns first → IsPlace turns (nearer first i o)
  still_place first None e h = h
  still_place None (Some b) e h = stands b e
  still_place (Some x) (Some b) e h = elim (cases_Bool (int_lt b x.mark)) [ inl q ↦ rw q (stands b e) | inr q ↦ rw q h ]

  pub next_place : (first now : Option FirstPlace) → now ≡ nearer first i (due_mark t.next) → IsPlace turns first → IsPlace turns now
  next_place first now e h = subst (IsPlace turns) (sym e) (still_place first (due_mark t.next) refl h)

  pub next_least : (first now : Option FirstPlace) → now ≡ nearer first i (due_mark t.next)
      → ((x : Turn) → In x turns → IsBehind first (due_mark x.next) ⊎ In x (drop i turns)) → (x : Turn) → In x turns
      → IsBehind now (due_mark x.next) ⊎ In x (drop (i + 1) turns)
  next_least first now e h x j = subst (λ z. IsBehind z (due_mark x.next) ⊎ In x (drop (i + 1) turns)) (sym e) (go (h x j))
    where
      split : (x ≡ t) ⊎ In x (drop (i + 1) turns)
          → IsBehind (nearer first i (due_mark t.next)) (due_mark x.next) ⊎ In x (drop (i + 1) turns)
      split (inl q) = inl (subst (λ (z : Turn). IsBehind (nearer first i (due_mark t.next)) (due_mark z.next)) (sym q)
          (now_behind first i (due_mark t.next)))
      split (inr k) = inr k

      go : IsBehind first (due_mark x.next) ⊎ In x (drop i turns)
          → IsBehind (nearer first i (due_mark t.next)) (due_mark x.next) ⊎ In x (drop (i + 1) turns)
      go (inl k) = inl (still_behind first i (due_mark t.next) (due_mark x.next) k)
      go (inr k) = split (subst (λ z. In x z) (rest_at turns i t at) k)
