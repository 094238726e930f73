use Rattle.std.proofs.Common.{◌≡◌, ◌++◌, drop, map, true}
use Rattle.time_marks.specs.KeptParts.{parts_kept}
use Rattle.time_marks.specs.Views.{probe_in}
use Rattle.incremental_rewrite.specs.Lines.{probe_line}
use Rattle.incremental_rewrite.proofs.explain.lines_of.Given as goal

-- the lines of the parts that are left follow those that were made
abbrev pub invariant-loop-part : goal.invariant-loop-part
invariant-loop-part l = record {
  lines : map (λ part. probe_line (probe_in l.pool part.probe)) l.parts
      ≡ l.lines ++ map (λ part. probe_line (probe_in l.pool part.probe)) (drop l.part-index l.parts);
  kept : parts_kept l.pool (drop l.part-index l.parts) ≡ true;
}
