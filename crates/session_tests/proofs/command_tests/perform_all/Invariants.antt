use Rattle.std.proofs.Common.{◌≡◌, length, false}
use Rattle.std.specs.Vec.Iter.{into_iter_items, into_iter_len}
use Rattle.keeper_core.specs.States.{IsAttached}
use Rattle.tap_engine.specs.Ready.{IsReady}
use Rattle.session_tests.proofs.command_tests.perform_all.Given as goal

-- the engine can perform the next command
abbrev pub invariant-loop-command : goal.invariant-loop-command
invariant-loop-command g l = record {
  len : into_iter_len l.command-iterator ≡ length (into_iter_items l.command-iterator);
  running : l.engine.stopped ≡ false;
  ready : IsReady l.engine;
  attached : IsAttached g.P.Keeper l.keeper;
}
