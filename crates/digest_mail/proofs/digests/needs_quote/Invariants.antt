use Rattle.std.proofs.Common.{◌≡◌, drop, length}
use Rattle.mail_lines.specs.Mbox.{quotes}
use Rattle.digest_mail.proofs.digests.needs_quote.Given as goal

-- what is passed over is quotes
abbrev pub invariant-quotes : goal.invariant-quotes
invariant-quotes l = drop (quotes l.rest) l.rest ≡ drop (quotes l.fn.line) l.fn.line

abbrev pub decreases-quotes : goal.decreases-quotes
decreases-quotes l = length l.rest
