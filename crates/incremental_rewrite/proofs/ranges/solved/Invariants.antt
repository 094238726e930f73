use Rattle.std.proofs.Common.{◌≡◌}
use Rattle.time_marks.specs.Distinct.{distinct, distinct_onto}
use Rattle.incremental_rewrite.specs.Solved.{same_numbers, part_probes}
use Rattle.incremental_rewrite.proofs.ranges.solved.Given as goal

-- the probes that are left stay unless they equal earlier ones
abbrev pub invariant-loop-probe : goal.invariant-loop-probe
invariant-loop-probe l = distinct same_numbers l.fn.probes ≡ distinct_onto same_numbers (part_probes l.parts) l.probe-iterator.rest.items
