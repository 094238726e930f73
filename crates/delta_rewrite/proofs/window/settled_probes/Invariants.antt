use Rattle.std.proofs.Common.{◌≡◌, ◌++◌, true}
use Rattle.time_marks.specs.Kept.{are_kept}
use Rattle.time_marks.specs.Views.{probes_in}
use Rattle.delta_rewrite.specs.Asking.{settled_probes}
use Rattle.delta_rewrite.proofs.window.settled_probes.Given as goal

-- the probes are those so far and those of the probes that are left
abbrev pub invariant-loop-probe : goal.invariant-loop-probe
invariant-loop-probe l = record {
  probes : settled_probes (probes_in l.fn.pool l.fn.probes)
      ≡ probes_in l.pool l.out ++ settled_probes (probes_in l.pool l.probe-iterator.rest.items);
  kept : are_kept l.pool l.out ≡ true;
  left : are_kept l.pool l.probe-iterator.rest.items ≡ true;
}
