-- The states of a keeper, and the path that it is attached to.
use Rattle.std.specs.Prelude.{ℕ, ◌≡◌, ◌⊎◌, List, true, false}
use Rattle.keeper_core.specs.declared.keeper.Keeper.{Ghosts}
use Rattle.keeper_core.specs.Stored.{Stored}

-- the keeper isn't attached, and no call of it has failed: an attach may be called
pub record IsFree {K : Type 0} (g : Ghosts K) (keeper : K) : Type 0 where
  pub unattached : g.attached keeper ≡ false
  pub running : g.stopped keeper ≡ false

-- the keeper is attached, and no call of it has failed: a commit may be called
pub record IsAttached {K : Type 0} (g : Ghosts K) (keeper : K) : Type 0 where
  pub reachable : g.attached keeper ≡ true
  pub running : g.stopped keeper ≡ false

-- the keeper in memory is free: it may be attached
pub record IsFreeInMemory (keeper : Stored) : Type 0 where
  pub unattached : keeper.attached ≡ false
  pub running : keeper.stopped ≡ false

-- the path after is the one that was asked for, or, if this holds, perhaps the one before
abbrev pub IsPlacedUnless : (Unplaced : Type 0) (old new path : List ℕ) → Type 0
IsPlacedUnless Unplaced old new path = (Unplaced × (new ≡ old)) ⊎ (new ≡ path)

-- the path after is the one that was asked for, or, if a program's status is 2 or 7, perhaps the one before
abbrev pub IsPlacedBy : (status : ℕ) (old new path : List ℕ) → Type 0
IsPlacedBy status old new path = IsPlacedUnless ((status ≡ 2) ⊎ (status ≡ 7)) old new path

-- the keeper in memory hasn't stopped
abbrev pub IsRunning : Stored → Type 0
IsRunning keeper = keeper.stopped ≡ false
