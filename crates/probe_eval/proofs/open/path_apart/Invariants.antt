use Rattle.std.proofs.Common.{◌≡◌, drop}
use Rattle.probe_eval.specs.Open.{path_apart}
use Rattle.probe_eval.proofs.open.path_apart.Given as goal

abbrev pub invariant-loop-step : goal.invariant-loop-step
invariant-loop-step l = path_apart l.path l.env l.var ≡ path_apart (drop l.step-index l.path) l.env l.var
