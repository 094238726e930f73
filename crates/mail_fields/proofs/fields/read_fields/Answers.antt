use Rattle.std.proofs.Common.{subst}
use Rattle.tap_base.specs.Bytes.{IsEndOf}
use Rattle.mail_fields.proofs.fields.read_fields.Goals as goal

pub fields_in-requires-clause-end : goal.fields_in-requires-clause-end
fields_in-requires-clause-end c = subst (λ text. IsEndOf c.in_ok-body.body.now text) c.as_slice.ensures c.in_ok-body.ensures.end
