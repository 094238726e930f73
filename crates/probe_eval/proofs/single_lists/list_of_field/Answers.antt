use Rattle.std.specs.Prelude.{option_copied}
use Rattle.std.proofs.Common.{rules, ◌≡◌, ap}
use Rattle.probe_eval.specs.declared.kinds.FieldKind.TheVariants.{OfDocs, OfNotes}
use Rattle.probe_eval.specs.Kinds.{field_kind}
use Rattle.probe_eval.specs.SingleLists.{text_key}
use Rattle.probe_eval.proofs.SingleListLaws.{under_field, no_text_key}
use Rattle.probe_eval.proofs.single_lists.list_of_field.Goals as goal

pub returns-in-OfDocs-clause-some : goal.returns-in-OfDocs-clause-some
returns-in-OfDocs-clause-some c =
    let k : field_kind c.args.field ≡ OfDocs c.in-OfDocs.kind = search rules in
    under_field c.args.field c.in-OfDocs.kind (option_copied c.args.text) c.args.index.now k c.list_under.result c.list_under.ensures.some

pub returns-in-OfDocs-clause-none : goal.returns-in-OfDocs-clause-none
returns-in-OfDocs-clause-none c h =
    let k : field_kind c.args.field ≡ OfDocs c.in-OfDocs.kind = search rules in
    no_text_key (field_kind c.args.field) c.in-OfDocs.kind (option_copied c.args.text) k (c.list_under.ensures.none h)

pub returns-in-OfNotes-clause-none : goal.returns-in-OfNotes-clause-none
returns-in-OfNotes-clause-none c h =
    let k : field_kind c.args.field ≡ OfNotes c.in-OfNotes._own = search rules in
    ap (λ z. text_key z (option_copied c.args.text)) k
