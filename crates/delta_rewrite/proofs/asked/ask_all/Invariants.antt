use Rattle.std.proofs.Common.{◌≡◌, ◌++◌, true}
use Rattle.std.specs.Prelude.{map}
use Rattle.tql_core.specs.Condition.{condition}
use Rattle.tql_core.specs.Trees.{KeepsTrees}
use Rattle.time_marks.specs.Kept.{are_kept}
use Rattle.time_marks.specs.Views.{probes_in}
use Rattle.delta_rewrite.specs.Asking.{asked}
use Rattle.delta_rewrite.proofs.asked.ask_all.Given as goal

-- the probes are those so far and those of the probes that are left
abbrev pub invariant-loop-probe : goal.invariant-loop-probe
invariant-loop-probe l = record {
  probes : map (asked l.ask (condition l.cond)) (probes_in l.fn.pool l.fn.probes)
      ≡ probes_in l.pool l.out ++ map (asked l.ask (condition l.cond)) (probes_in l.pool l.probe-iterator.rest.items);
  nodes : KeepsTrees l.fn.pool l.pool;
  kept : are_kept l.pool l.out ≡ true;
  left : are_kept l.pool l.probe-iterator.rest.items ≡ true;
}
