use Rattle.std.proofs.Common.{◌≡◌, ◌≤◌, ◌-◌, ◌+◌, ℤ, []}
use Rattle.script_lang.specs.Script.{complete_from}
use Rattle.tap_top.specs.declared.top.TheConstants.{SCRIPT_LIMIT}
use Rattle.tap_edges.specs.declared.pieces.TheConstants.{PIECE}
use Rattle.tap_top.specs.Points.{CanPerform}
use Rattle.tap_top.specs.Premises.{AgreeOn, FromEngine}
use Rattle.tap_top.specs.Frames.{KeeperFrame}
use Rattle.peer_edges.specs.Asks.{AskedOnlyWhen}
use Rattle.tap_top.specs.Prompt.{IsUpToDate}
use Rattle.tap_top.proofs.Runs.{Taking, Running}
use Rattle.tap_top.proofs.top.run.Given as goal

abbrev pub invariant-pieces : goal.invariant-pieces
invariant-pieces g l = record {
  taking : Taking (g.S.Peer.left l.fn.source) (g.S.Peer.left l.source) l.taken;
  running : FromEngine g.P.Keeper l.fn.engine l.fn.keeper l.keeper (λ t. Running (g.S.Peer.left l.fn.source) (g.S.Peer.left l.source)
      l.taken l.reader t (g.K.Sink.out l.fn.sink) (g.K.Sink.out l.sink) (AgreeOn g.P.Keeper l.engine l.keeper) l.engine.session l.all_ok);
  prompt : FromEngine g.P.Keeper l.fn.engine l.fn.keeper l.keeper (λ t.
      AskedOnlyWhen (λ left out. IsUpToDate t (g.S.Peer.left l.fn.source) left (g.K.Sink.out l.fn.sink) out)
      (g.S.Peer.was_asked l.fn.source) (g.S.Peer.was_asked l.source));
  few : l.taken ≤ SCRIPT_LIMIT + PIECE;
  ended : complete_from l.reader [] ≡ [];
  can : CanPerform g.P.Keeper l.engine l.keeper;
  reads : g.S.Peer.faults l.source ≡ g.S.Peer.faults l.fn.source;
  puts : g.K.Sink.faults l.sink ≡ g.K.Sink.faults l.fn.sink;
  keeper : KeeperFrame g.P.Keeper l.fn.keeper l.keeper;
  version : FromEngine g.P.Keeper l.fn.engine l.fn.keeper l.keeper (λ t. (v : ℤ) → g.P.Keeper.has_version l.fn.keeper v
      → g.P.Keeper.has_version l.keeper v);
}

abbrev pub decreases-pieces : goal.decreases-pieces
decreases-pieces g l = SCRIPT_LIMIT + 1 - l.taken
