use Rattle.std.proofs.Common.{◌≡◌, ◌++◌}
use Rattle.std.specs.Prelude.{map}
use Rattle.delta_rewrite.specs.Asking.{below_step}
use Rattle.delta_rewrite.proofs.delta.all_below.Given as goal

-- the probes are those so far and those of the probes that are left
abbrev pub invariant-loop-probe : goal.invariant-loop-probe
invariant-loop-probe l = map (below_step l.steps) l.fn.probes ≡ l.lower ++ map (below_step l.steps) l.probe-iterator.rest.items
