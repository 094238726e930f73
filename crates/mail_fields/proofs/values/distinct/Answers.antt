use Rattle.std.proofs.Common.{rules, ◌≡◌, true}
use Rattle.mail_fields.specs.Different.{are_different}
use Rattle.mail_fields.proofs.FieldLaws.{different-stay}
use Rattle.mail_fields.proofs.values.distinct.Goals as goal

pub returns-then-are_different : goal.returns-then-are_different
returns-then-are_different c =
    let e : are_different c.args.texts ≡ true = search rules in
    different-stay c.args.texts e
