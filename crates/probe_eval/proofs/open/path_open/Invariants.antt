use Rattle.std.proofs.Common.{◌≡◌, drop}
use Rattle.probe_eval.specs.Open.{path_open}
use Rattle.probe_eval.proofs.open.path_open.Given as goal

abbrev pub invariant-loop-step : goal.invariant-loop-step
invariant-loop-step l = path_open l.path l.env ≡ path_open (drop l.step-index l.path) l.env
