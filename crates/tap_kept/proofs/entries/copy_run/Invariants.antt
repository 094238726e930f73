use Rattle.std.proofs.Common.{◌≡◌, take}
use Rattle.tap_model.specs.Replies.{entries_in_run}
use Rattle.tap_kept.proofs.entries.copy_run.Given as goal

-- those of the run among the entries before this place are copied
abbrev pub invariant-loop-place : goal.invariant-loop-place
invariant-loop-place l = l.copy ≡ entries_in_run l.run (take l.place l.entries)
