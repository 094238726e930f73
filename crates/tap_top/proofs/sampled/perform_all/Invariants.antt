use Rattle.std.proofs.Common.{◌≡◌, ℤ, length}
use Rattle.std.specs.Vec.Iter.{into_iter_items, into_iter_len}
use Rattle.tap_top.specs.Points.{CanPerform}
use Rattle.tap_top.specs.Premises.{AgreeOn, FromEngine}
use Rattle.tap_top.specs.Frames.{KeeperFrame}
use Rattle.tap_top.proofs.Samples.{Performing}
use Rattle.tap_top.proofs.sampled.perform_all.Given as goal

abbrev pub invariant-loop-command : goal.invariant-loop-command
invariant-loop-command g l = record {
  len : into_iter_len l.command-iterator ≡ length (into_iter_items l.command-iterator);
  performing : FromEngine g.P.Keeper l.fn.engine l.fn.keeper l.keeper (λ t. Performing l.fn.commands (into_iter_items l.command-iterator) t
      l.fn.engine.session (AgreeOn g.P.Keeper l.engine l.keeper) l.tally l.engine.session);
  can : CanPerform g.P.Keeper l.engine l.keeper;
  keeper : KeeperFrame g.P.Keeper l.fn.keeper l.keeper;
  version : FromEngine g.P.Keeper l.fn.engine l.fn.keeper l.keeper (λ t. (v : ℤ) → g.P.Keeper.has_version l.fn.keeper v
      → g.P.Keeper.has_version l.keeper v);
}
