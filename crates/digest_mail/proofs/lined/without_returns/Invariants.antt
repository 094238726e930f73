use Rattle.std.proofs.Common.{◌≡◌, length}
use Rattle.mail_fields.specs.Digests.{without_returns}
use Rattle.digest_mail.proofs.lined.without_returns.Given as goal

-- what is cut off is CRs
abbrev pub invariant-returns : goal.invariant-returns
invariant-returns l = without_returns l.front ≡ without_returns l.fn.line

abbrev pub decreases-returns : goal.decreases-returns
decreases-returns l = length l.front
