-- When a call fails or a status comes, by the counts of faults of the source, the sink and the keeper.
use Rattle.std.specs.Prelude.{ℕ, ◌≡◌, ◌≢◌, ◌↔◌, Bool, true, false}
use Rattle.keeper_core.specs.declared.keeper.Keeper.{Ghosts}
use Rattle.tap_base.specs.Counts.{Rose}
use Rattle.tap_engine.specs.declared.engine.Engine.{Engine}
use Rattle.tap_top.specs.Frames.{KeeperFrame}
use Rattle.tap_top.specs.Premises.{FromEngine}
use Rattle.tap_top.specs.Versions.{VersionStays}

-- Failed is a fault, by the count of faults of the source or the sink
pub record IsFault (Failed : Type 0) (faults faults' : ℕ) : Type 0 where
  -- it came only if the count of faults rose
  pub cause : Failed → Rose faults faults'
  -- otherwise the count is unchanged
  pub calm : (Failed → ⊥) → faults' ≡ faults

-- how a call that performs commands leaves the keeper; Failed says that the keeper failed
pub record LeavesKeeper {K : Type 0} (g : Ghosts K) (engine : Engine) (old new : K) (Failed : Type 0) : Type 0 where
  -- the keeper failed only if its count of faults rose
  pub cause : Failed → Rose (g.faults old) (g.faults new)
  -- it is stopped if and only if it failed
  pub stopped : (g.stopped new ≡ true) ↔ Failed
  -- its path is unchanged, and so is its count of faults unless it is stopped
  pub keeper : KeeperFrame g old new
  -- unless it is stopped, it tells each version that it told of the engine's tables
  pub version : FromEngine g engine old new (λ t. VersionStays (g.stopped new) (g.has_version old) (g.has_version new))

-- 3, 4 and 5 come only if the count of faults of the source, of the sink or of the keeper rose, each its own; with every other
-- status than its own each count is unchanged; 5 comes if and only if the keeper has stopped
pub record Causes (status reads reads' puts puts' keeps keeps' : ℕ) (halted : Bool) : Type 0 where
  pub read_cause : status ≡ 3 → Rose reads reads'
  pub read_calm : status ≢ 3 → reads' ≡ reads
  pub put_cause : status ≡ 4 → Rose puts puts'
  pub put_calm : status ≢ 4 → puts' ≡ puts
  pub keeper_cause : status ≡ 5 → Rose keeps keeps'
  pub keeper_calm : halted ≡ false → keeps' ≡ keeps
  pub stopped : (halted ≡ true) ↔ (status ≡ 5)
