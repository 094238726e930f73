use Rattle.std.proofs.Common.{◌≡◌, ◌++◌, drop, true}
use Rattle.tql_core.specs.Condition.{condition}
use Rattle.time_marks.specs.Kept.{are_kept}
use Rattle.time_marks.specs.Views.{probes_in}
use Rattle.monotone_rewrite.proofs.Bounded.{bounded_marks}
use Rattle.monotone_rewrite.proofs.ProbeLists.{probes_for}
use Rattle.monotone_rewrite.proofs.window_query.window_query.Given as goal

-- the probes are those so far and those of the marks that are left
abbrev pub invariant-loop-mark : goal.invariant-loop-mark
invariant-loop-mark l = record {
  probes : probes_for (condition l.cond) l.mark-items
      ≡ probes_in l.pool l.probes ++ probes_for (condition l.cond) (drop l.mark-index l.mark-items);
  kept : are_kept l.pool l.probes ≡ true;
  bounded : bounded_marks (drop l.mark-index l.mark-items) ≡ true;
}
