use Rattle.std.specs.Prelude.{option_copied}
use Rattle.std.proofs.Common.{rules, ◌≡◌, false, ap}
use Rattle.access_plan.specs.Views.{access_at}
use Rattle.probe_eval.specs.Shortest.{is_many}
use Rattle.probe_eval.proofs.ShortestLaws.{entry_list, no_entry_list, not_single}
use Rattle.probe_eval.proofs.lists.many_list.Goals as goal

pub returns-in-ByEntry-clause-some : goal.returns-in-ByEntry-clause-some
returns-in-ByEntry-clause-some c =
    entry_list c.args.index.now c.docs-docs.ensures.places c.args.env.now (access_at c.args.access) c.in-ByEntry.list c.in-ByEntry.e.now
    (ap access_at c.in-ByEntry.is) (option_copied c.text.result) c.text.ensures c.list_kind.result c.list_kind.ensures
    c.docs_under.result c.docs_under.ensures.some

pub returns-in-ByEntry-clause-none : goal.returns-in-ByEntry-clause-none
returns-in-ByEntry-clause-none c h s =
    no_entry_list c.args.index.now c.docs-docs.ensures.places c.args.env.now (access_at c.args.access) c.in-ByEntry.list
    c.in-ByEntry.e.now (ap access_at c.in-ByEntry.is) (option_copied c.text.result) c.text.ensures (c.docs_under.ensures.none h)

pub returns-in_default-clause-none : goal.returns-in_default-clause-none
returns-in_default-clause-none c h s =
    let m : is_many (access_at c.args.access) ≡ false = search rules in
    not_single c.args.index.now (access_at c.args.access) c.args.env.now c.docs-docs.ensures.sizes s m
