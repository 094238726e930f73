use Rattle.std.specs.Prelude.{option_copied}
use Rattle.std.proofs.Common.{rules, ◌≡◌, ap}
use Rattle.tql_core.specs.declared.atom.NumField.TheVariants.{Size}
use Rattle.access_plan.specs.declared.access.Access.TheVariants.{ByNumber}
use Rattle.access_plan.specs.Views.{access_at}
use Rattle.probe_eval.proofs.SingleListLaws.{text_reached, none_asked, size_reached, no_size_asked}
use Rattle.probe_eval.proofs.single_lists.single_list.Goals as goal

pub returns-in-ByText-clause-some : goal.returns-in-ByText-clause-some
returns-in-ByText-clause-some c =
    text_reached c.args.index.now c.docs-docs.ensures.places c.args.env.now (access_at c.args.access) c.in-ByText.field c.in-ByText.e.now
    (ap access_at c.in-ByText.is) (option_copied c.text.result) c.text.ensures c.list_of_field.result c.list_of_field.ensures.some

pub returns-in-ByText-clause-none : goal.returns-in-ByText-clause-none
returns-in-ByText-clause-none c h =
    none_asked c.args.index.now c.docs-docs.ensures.places c.args.env.now (access_at c.args.access) c.in-ByText.field c.in-ByText.e.now
    (ap access_at c.in-ByText.is) (option_copied c.text.result) c.text.ensures (c.list_of_field.ensures.none h)

pub returns-in-ByNumber-Size-default-clause-some : goal.returns-in-ByNumber-Size-default-clause-some
returns-in-ByNumber-Size-default-clause-some c =
    let a : access_at c.args.access ≡ ByNumber Size c.in-ByNumber-Size-default.e = search rules in
    size_reached c.args.index.now c.docs-docs.ensures.places c.args.env.now (access_at c.args.access) c.in-ByNumber-Size-default.e
    a c.number.result c.number.ensures c.list_of_size.result c.list_of_size.ensures.some

pub returns-in-ByNumber-Size-default-clause-none : goal.returns-in-ByNumber-Size-default-clause-none
returns-in-ByNumber-Size-default-clause-none c h =
    let a : access_at c.args.access ≡ ByNumber Size c.in-ByNumber-Size-default.e = search rules in
    no_size_asked c.args.index.now c.docs-docs.ensures.places c.args.env.now (access_at c.args.access) c.in-ByNumber-Size-default.e
    a c.number.result c.number.ensures (c.list_of_size.ensures.none h)
