-- What a call leaves of a keeper.
use Rattle.std.specs.Prelude.{◌≡◌, ◌≤◌, false}
use Rattle.keeper_core.specs.declared.keeper.Keeper.{Ghosts}

-- what no call changes of a keeper: its path; its count of faults doesn't fall, and is unchanged unless it has stopped; and
-- if it is honest after, it was before
pub record KeeperFrame {K : Type 0} (g : Ghosts K) (old new : K) : Type 0 where
  pub same : g.path new ≡ g.path old
  pub later : g.faults old ≤ g.faults new
  pub calm : g.stopped new ≡ false → g.faults new ≡ g.faults old
  pub before : g.honest new → g.honest old
