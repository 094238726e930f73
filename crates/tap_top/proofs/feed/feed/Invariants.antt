use Rattle.std.proofs.Common.{◌≡◌, ℤ, length, []}
use Rattle.script_lang.specs.Script.{complete_from}
use Rattle.tap_top.specs.Points.{CanPerform}
use Rattle.tap_top.specs.Premises.{AgreeOn, FromEngine}
use Rattle.tap_top.specs.Frames.{KeeperFrame}
use Rattle.tap_top.proofs.Steps.{Feeding}
use Rattle.tap_top.proofs.feed.feed.Given as goal

abbrev pub invariant-loop-rest : goal.invariant-loop-rest
invariant-loop-rest g l = record {
  feeding : FromEngine g.P.Keeper l.fn.engine l.fn.keeper l.keeper (λ t. Feeding l.piece l.rest l.fn.reader l.reader t
      l.fn.engine.session (g.K.Sink.out l.fn.sink) (g.K.Sink.out l.sink) (AgreeOn g.P.Keeper l.engine l.keeper) l.engine.session l.all_ok);
  ended : complete_from l.reader [] ≡ [];
  can : CanPerform g.P.Keeper l.engine l.keeper;
  same : g.K.Sink.faults l.sink ≡ g.K.Sink.faults l.fn.sink;
  keeper : KeeperFrame g.P.Keeper l.fn.keeper l.keeper;
  version : FromEngine g.P.Keeper l.fn.engine l.fn.keeper l.keeper (λ t. (v : ℤ) → g.P.Keeper.has_version l.fn.keeper v
      → g.P.Keeper.has_version l.keeper v);
}

abbrev pub decreases-loop-rest : goal.decreases-loop-rest
decreases-loop-rest g l = length l.rest
