use Rattle.tap_base.proofs.EndLaws.{end-of-end}
use Rattle.mail_fields.proofs.header.read_header.Goals as goal

pub returns-clause-end : goal.returns-clause-end
returns-clause-end c =
    end-of-end _ _ _ (end-of-end _ _ _ c.without_empty.ensures.end c.in_ok-rest.ensures.end) c.without_from-text.ensures.end
