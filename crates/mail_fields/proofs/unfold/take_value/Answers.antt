use Rattle.std.proofs.Common.{◌∙◌, sym}
use Rattle.std.specs.Str.Lines.{lines}
use Rattle.tap_base.proofs.EndLaws.{whole-end}
use Rattle.mail_fields.proofs.HeaderLaws.{value-stays, lines-stay}
use Rattle.mail_fields.proofs.unfold.take_value.Goals as goal

pub returns-then-not-goes_on-clause-value : goal.returns-then-not-goes_on-clause-value
returns-then-not-goes_on-clause-value c =
    value-stays c.args.value.now (lines c.args.text.now) (sym c.goes_on.ensures ∙ c.if-not-goes_on.true)

pub returns-then-not-goes_on-clause-rest : goal.returns-then-not-goes_on-clause-rest
returns-then-not-goes_on-clause-rest c = lines-stay (lines c.args.text.now) (sym c.goes_on.ensures ∙ c.if-not-goes_on.true)

pub returns-then-not-goes_on-clause-end : goal.returns-then-not-goes_on-clause-end
returns-then-not-goes_on-clause-end c = whole-end c.args.text.now
