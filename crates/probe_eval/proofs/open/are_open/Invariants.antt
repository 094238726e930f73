use Rattle.std.proofs.Common.{◌≡◌, drop}
use Rattle.probe_eval.specs.Open.{are_open}
use Rattle.probe_eval.proofs.open.are_open.Given as goal

abbrev pub invariant-loop-guard : goal.invariant-loop-guard
invariant-loop-guard l = are_open l.env l.guards ≡ are_open l.env (drop l.guard-index l.guards)
