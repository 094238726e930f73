use Rattle.std.proofs.Common.{◌≡◌, take}
use Rattle.tap_kept.proofs.entries.copy_entries.Given as goal

-- the entries before this place are copied
abbrev pub invariant-loop-place : goal.invariant-loop-place
invariant-loop-place l = l.copy ≡ take l.place l.entries
