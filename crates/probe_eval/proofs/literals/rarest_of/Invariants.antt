use Rattle.std.proofs.Common.{◌≡◌, fold, option_copied, drop}
use Rattle.probe_eval.specs.Literals.{rarer}
use Rattle.probe_eval.proofs.literals.rarest_of.Given as goal

abbrev pub invariant-loop-guard : goal.invariant-loop-guard
invariant-loop-guard l = fold (rarer l.index l.var) (option_copied l.before) l.guards
    ≡ fold (rarer l.index l.var) (option_copied l.best) (drop l.guard-index l.guards)
