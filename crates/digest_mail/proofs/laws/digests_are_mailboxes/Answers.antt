use Rattle.digest_mail.proofs.Mailboxes.{digests-are-mailboxes}
use Rattle.digest_mail.proofs.laws.digests_are_mailboxes.Goals as goal

pub returns : goal.returns
returns c = digests-are-mailboxes
