-- A slot that is written before those in use.
use Rattle.std.proofs.Common.{◌≡◌, refl, ap, ◌∙◌, ℕ, suc, zero, ◌+◌, ◌-◌, ◌<◌, List, [], ◌∷◌, length, take, drop, slice_set, arith}
use Rattle.std.proofs.lemmas.List.{take_all, length-drop, length-set}
use Rattle.tql_core.specs.declared.row_ref.RowRef.{RowRef}
use Rattle.tql_core.specs.declared.row_ref.RowRef.TheVariants as R
use Rattle.tql_core.specs.declared.env.Slot.{Slot}
use Rattle.tql_core.specs.declared.term.Var.{Var}
use Rattle.tql_core.specs.Bindings.{row_of, slot_of, bounds_of}
use Rattle.tql_core.specs.Values.{Env, bind}

drop-written : (slots : List Slot) (n : ℕ) (slot : Slot) → n < length slots → drop n (slice_set slots n slot) ≡ slot ∷ drop (suc n) slots
drop-written [] n slot within = let no : ⊥ = omega (arith, within) in elim no [ ]
drop-written (x ∷ xs) zero slot within = refl
drop-written (x ∷ xs) (suc n) slot within = drop-written xs n slot (omega (arith, within))

first-bound : (v : Var) (r : RowRef) (slots : List Slot) → bounds_of (slot_of v.0 r ∷ slots) ≡ bind v (row_of r) (bounds_of slots)
first-bound v (R.OfDoc d) slots = refl
first-bound v (R.OfNote n) slots = refl

step-up : (n : ℕ) → 0 < n → suc (n - 1) ≡ n
step-up n above = omega (arith, above)

module _ (slots : List Slot) (start : ℕ) (slot : Slot) (v : Var) (r : RowRef) (now : Env) (same : slot ≡ slot_of v.0 r)
    (sixteen : length slots ≡ 16) (filled : start + length (bounds_of (drop start slots)) ≡ 16)
    (view : bounds_of (drop start slots) ≡ now) (room : length now < 16) where
  above : 0 < start
  above = omega (arith, filled, ap length view, room)

  below : start - 1 < length slots
  below = omega (arith, sixteen, filled, above)

  -- the slots from the written one on bind what they did, and its variable before
  pub written-bounds : bounds_of (drop (start - 1) (slice_set slots (start - 1) slot)) ≡ bind v (row_of r) now
  written-bounds =
      ap bounds_of (drop-written slots (start - 1) slot below)
      ∙ (ap (λ s. bounds_of (s ∷ drop (suc (start - 1)) slots)) same
      ∙ (first-bound v r (drop (suc (start - 1)) slots)
      ∙ (ap (λ n. bind v (row_of r) (bounds_of (drop n slots))) (step-up start above) ∙ ap (bind v (row_of r)) view)))

  pub written-filled : (length (slice_set slots (start - 1) slot) ≡ 16)
      × (start - 1 + length (bounds_of (drop (start - 1) (slice_set slots (start - 1) slot))) ≡ 16)
  written-filled = (
    length-set slots (start - 1) slot ∙ sixteen,
    omega (arith, ap length written-bounds, ap length view, filled, above),
  )

-- the slots in use are those from the start on
pub used-bounds : (slots : List Slot) (start : ℕ) → length slots ≡ 16
    → bounds_of (take (16 - start) (drop start slots)) ≡ bounds_of (drop start slots)
used-bounds slots start sixteen = ap bounds_of (take_all (16 - start) (drop start slots) (omega (arith, length-drop start slots, sixteen)))
