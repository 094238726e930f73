use Rattle.std.proofs.Common.{◌≡◌, ◌++◌, length}
use Rattle.mail_fields.specs.Digests.{lined}
use Rattle.tap_kept.proofs.lines.text_lines.Given as goal

-- the lines are those so far and those of what is left
abbrev pub invariant-lines : goal.invariant-lines
invariant-lines l = lined l.text ≡ l.lines ++ lined l.rest

abbrev pub decreases-lines : goal.decreases-lines
decreases-lines l = length l.rest
