use Rattle.std.proofs.Common.{◌≤◌, ◌-◌, length}
use Rattle.library_tests.proofs.script_tests.read_into.Given as goal

-- the place is within the script
abbrev pub invariant-loop-at : goal.invariant-loop-at
invariant-loop-at l = l.at ≤ length l.script

abbrev pub decreases-loop-at : goal.decreases-loop-at
decreases-loop-at l = length l.script - l.at
