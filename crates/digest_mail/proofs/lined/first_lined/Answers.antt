use Rattle.std.proofs.Common.{ap, sym, ◌∙◌, ◌∷◌}
use Rattle.mail_fields.specs.Digests.{lined}
use Rattle.digest_mail.proofs.Returns.{first-of}
use Rattle.digest_mail.proofs.lined.first_lined.Goals as goal

pub returns-clause-lines : goal.returns-clause-lines
returns-clause-lines c =
    first-of c.args.text.now c.first_line-first.result.line.now c.first_line-first.result.rest.now c.first_line-first.ensures.lines
    ∙ ap (λ line. line ∷ lined c.first_line-first.result.rest.now) (sym c.without_returns.ensures)
