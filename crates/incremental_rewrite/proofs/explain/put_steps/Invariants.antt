use Rattle.std.proofs.Common.{◌≡◌, ◌++◌, drop, codes}
use Rattle.std.specs.List.{flat_map}
use Rattle.incremental_rewrite.specs.Lines.{step_text}
use Rattle.incremental_rewrite.proofs.explain.put_steps.Given as goal

-- what is left follows what was put
abbrev pub invariant-loop-step : goal.invariant-loop-step
invariant-loop-step l = l.fn.into ++ flat_map (λ step. codes ", " ++ step_text step) l.steps
    ≡ l.into ++ flat_map (λ step. codes ", " ++ step_text step) (drop l.step-index l.steps)
