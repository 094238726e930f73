use Rattle.std.proofs.Common.{◌≡◌, None, fold, option_copied, drop}
use Rattle.probe_eval.specs.Literals.{rarer}
use Rattle.probe_eval.proofs.literals.rarest.Given as goal

abbrev pub invariant-loop-step : goal.invariant-loop-step
invariant-loop-step l =
    fold (λ best step. fold (rarer l.index l.var) best step.guards) None l.path
    ≡ fold (λ best step. fold (rarer l.index l.var) best step.guards) (option_copied l.best) (drop l.step-index l.path)
