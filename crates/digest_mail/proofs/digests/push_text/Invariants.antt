use Rattle.std.proofs.Common.{◌≡◌, ◌++◌, map, length}
use Rattle.mail_fields.specs.Digests.{lined, from_quoted}
use Rattle.digest_mail.proofs.digests.push_text.Given as goal

-- the lines are those so far and those of what is left
abbrev pub invariant-lines : goal.invariant-lines
invariant-lines l = l.fn.lines ++ map from_quoted (lined l.fn.text) ≡ l.lines ++ map from_quoted (lined l.rest)

abbrev pub decreases-lines : goal.decreases-lines
decreases-lines l = length l.rest
