use Rattle.std.proofs.Common.{◌+◌, ◌<◌, ◌≤◌, Bool, false, length}
use Rattle.std.specs.Prelude.{◌≡◌}
use Rattle.std.specs.Fn.{ComputesKey}
use Rattle.std.specs.List.{AllWithin}
use Rattle.std.specs.List.Sorted.{IsPartitionedBy}
use denote.Param.Always.{always_mut}
use Rattle.row_index.proofs.from_end.partition_point_from_end.Given as goal

-- What is left is asked of the rows before the end: from there on none passes.
abbrev pub invariant-loop-width : goal.invariant-loop-width
invariant-loop-width g l =
    (l.end ≤ length l.rows)
    × (0 < l.width)
    × (l.width + l.end ≤ length l.rows + 1)
    × always_mut g.P.FnMut l.pred
    × ((p : g.row.T.Denot → Bool) → ComputesKey g.P.FnMut p l.initial.pred → IsPartitionedBy p l.rows
    → ComputesKey g.P.FnMut p l.pred × AllWithin (λ y. p y ≡ false) l.rows l.end (length l.rows))

abbrev pub decreases-loop-width : goal.decreases-loop-width
decreases-loop-width g l = l.end
