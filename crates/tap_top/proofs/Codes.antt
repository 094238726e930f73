-- The exit status of a run.
use Rattle.std.proofs.Common.{◌≡◌, ◌∙◌, sym, ap, subst, refl, arith, ℕ, inl, inr, ◌≤◌, if◌then◌else◌}
use Rattle.std.specs.Prelude.{◌⊎◌, ◌==◌}
use Rattle.tap_top.specs.declared.status.Status.{Status}
use Rattle.tap_top.specs.declared.status.Status.TheVariants as s
use Rattle.tap_top.specs.Codes.{code_of, PerformedAll, IsOfClose, IsOfRun, IsOfRefusal}

-- the status of a number
abbrev status_at : ℕ → Status
status_at n =
    if n == 0 then s.AllOk
    else if n == 1 then s.SomeRefused
    else if n == 2 then s.WordsRefused
    else if n == 3 then s.ReadFailed
    else if n == 4 then s.PutFailed
    else if n == 5 then s.KeeperFailed
    else if n == 6 then s.StoreRefused
    else if n == 7 then s.OutOfMemory
    else s.ScriptTooLong

status-of-code : (status : Status) → status_at (code_of status) ≡ status
status-of-code s.AllOk = refl
status-of-code s.SomeRefused = refl
status-of-code s.WordsRefused = refl
status-of-code s.ReadFailed = refl
status-of-code s.PutFailed = refl
status-of-code s.KeeperFailed = refl
status-of-code s.StoreRefused = refl
status-of-code s.OutOfMemory = refl
status-of-code s.ScriptTooLong = refl

-- no two statuses have one number
pub same-code : (a b : Status) → code_of a ≡ code_of b → a ≡ b
same-code a b e = sym (status-of-code a) ∙ ap status_at e ∙ status-of-code b

-- a number that is at most 1 is no other one
pub not-done : (n : ℕ) → (n ≤ 1 → ⊥) → (status : Status) → code_of status ≡ n → PerformedAll status → ⊥
not-done n more status is low = more (le (code_of status) n is low) where
  le : (a b : ℕ) → a ≡ b → a ≤ 1 → b ≤ 1
  le a b e low = omega arith

-- the numbers of how a run ends
pub run-code : (status : Status) → IsOfRun status
    → (code_of status ≤ 1 ⊎ (code_of status ≡ 3 ⊎ (code_of status ≡ 4 ⊎ (code_of status ≡ 5 ⊎ (code_of status ≡ 7 ⊎ code_of status ≡ 8)))))
run-code status (inl low) = inl low
run-code status (inr (inl is)) = inr (inl (ap code_of is))
run-code status (inr (inr (inl is))) = inr (inr (inl (ap code_of is)))
run-code status (inr (inr (inr (inl is)))) = inr (inr (inr (inl (ap code_of is))))
run-code status (inr (inr (inr (inr (inl is))))) = inr (inr (inr (inr (inl (ap code_of is)))))
run-code status (inr (inr (inr (inr (inr is))))) = inr (inr (inr (inr (inr (ap code_of is)))))

pub close-code : (status : Status) → IsOfClose status
    → (code_of status ≤ 1 ⊎ (code_of status ≡ 4 ⊎ (code_of status ≡ 5 ⊎ code_of status ≡ 7)))
close-code status (inl low) = inl low
close-code status (inr (inl is)) = inr (inl (ap code_of is))
close-code status (inr (inr (inl is))) = inr (inr (inl (ap code_of is)))
close-code status (inr (inr (inr is))) = inr (inr (inr (ap code_of is)))

pub refusal-code : (status : Status) → IsOfRefusal status → (code_of status ≡ 6 ⊎ code_of status ≡ 4)
refusal-code status (inl is) = inl (ap code_of is)
refusal-code status (inr is) = inr (ap code_of is)

pub refusal-number : (n : ℕ) (status : Status) → n ≡ code_of status → IsOfRefusal status → (n ≡ 6 ⊎ n ≡ 4)
refusal-number n status is one = subst (λ k. k ≡ 6 ⊎ k ≡ 4) (sym is) (refusal-code status one)
