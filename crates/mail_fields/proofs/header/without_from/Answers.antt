use Rattle.tap_base.proofs.EndLaws.{whole-end}
use Rattle.mail_fields.proofs.header.without_from.Goals as goal

pub returns-then-is_empty-clause-end : goal.returns-then-is_empty-clause-end
returns-then-is_empty-clause-end c = whole-end c.args.text.now

pub returns-else-starts_with-clause-end : goal.returns-else-starts_with-clause-end
returns-else-starts_with-clause-end c = whole-end c.args.text.now
