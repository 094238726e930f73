use Rattle.std.proofs.Common.{◌≡◌, drop}
use Rattle.probe_eval.specs.Tables.{table_in}
use Rattle.probe_eval.proofs.drivers.table_in.Given as goal

abbrev pub invariant-loop-step : goal.invariant-loop-step
invariant-loop-step l = table_in l.path l.var.0 ≡ table_in (drop l.step-index l.path) l.var.0
