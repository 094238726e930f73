-- The version of a store, before and after.
use Rattle.std.specs.Prelude.{ℕ, ℤ, pos, ◌≡◌, ◌≢◌, ◌⊎◌, Bool, false}

-- unless the keeper failed, it tells each version that it told before
abbrev pub VersionStays : (halted' : Bool) (versions versions' : ℤ → Type 0) → Type 0
VersionStays halted' versions versions' = halted' ≡ false → (v : ℤ) → versions v → versions' v

-- a store of this version was attached: it has version 2 if this is 1, else this version still
abbrev pub IsMigrated : ℤ → (ℤ → Type 0) → Type 0
IsMigrated v versions' = (v ≡ pos 1 → versions' (pos 2)) × (v ≢ pos 1 → versions' v)

-- a store of this version may have been attached: it has this version still, or version 2 if this is 1
abbrev pub MayBeMigrated : ℤ → (ℤ → Type 0) → Type 0
MayBeMigrated v versions' = versions' v ⊎ ((v ≡ pos 1) × versions' (pos 2))

-- the status of a run that may have ended before its store was opened
abbrev pub MayBeUnopened : ℕ → Type 0
MayBeUnopened status = (status ≡ 2) ⊎ ((status ≡ 4) ⊎ ((status ≡ 5) ⊎ ((status ≡ 6) ⊎ (status ≡ 7))))

-- a table: 0, 1, 3, 8, 9: 2; 2: as before; 4, 6: as before, but 2 for 1; 7: as before, or 2 for 1; 5: nothing is said
pub record VersionAtExit (status : ℕ) (versions versions' : ℤ → Type 0) : Type 0 where
  pub opened : (MayBeUnopened status → ⊥) → versions' (pos 2)
  pub unattached : status ≡ 2 → (v : ℤ) → versions v → versions' v
  pub attached : (status ≡ 4) ⊎ (status ≡ 6) → (v : ℤ) → versions v → IsMigrated v versions'
  pub memory : status ≡ 7 → (v : ℤ) → versions v → MayBeMigrated v versions'
