use Rattle.std.proofs.Common.{◌≡◌, drop}
use Rattle.probe_eval.specs.Open.{are_apart}
use Rattle.probe_eval.proofs.open.are_apart.Given as goal

abbrev pub invariant-loop-guard : goal.invariant-loop-guard
invariant-loop-guard l = are_apart l.env l.var l.guards ≡ are_apart l.env l.var (drop l.guard-index l.guards)
