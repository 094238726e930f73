use Rattle.std.proofs.Common.{rules, refl}
use Rattle.tap_base.specs.Bytes.{IsEndOf}
use Rattle.tap_base.proofs.EndLaws.{whole-end, end-of-end}
use Rattle.mail_fields.proofs.header.take_fields.Goals as goal

pub fields-init : goal.fields-init
fields-init c = record { fields = refl; body = refl; start = c.requires; place = whole-end c.args.text.now }

pub fields-preserved : goal.fields-preserved
fields-preserved c =
    let place : IsEndOf c.in-Some.after.now c.fields.rest.now = search rules in
    record {
      fields = search rules;
      body = search rules;
      start = search rules;
      place = end-of-end _ _ _ place c.fields.invariant.place;
    }
