use Rattle.std.proofs.Common.{rules}
use Rattle.access_plan.specs.Views.{access_at}
use Rattle.probe_eval.specs.SingleLists.{ReachesList}
use Rattle.probe_eval.proofs.ShortestLaws.{single_is_list}
use Rattle.probe_eval.proofs.lists.text_list.Goals as goal

pub returns-in-Some-clause-some : goal.returns-in-Some-clause-some
returns-in-Some-clause-some c =
    let r : ReachesList c.args.index.now (access_at c.args.access) c.args.env.now c.in-Some.found = search rules in
    single_is_list c.args.index.now (access_at c.args.access) c.args.env.now c.in-Some.found r

pub returns-in-None-clause-none : goal.returns-in-None-clause-none
returns-in-None-clause-none c h = c.many_list.ensures.none h (c.single_list.ensures.none c.in-None.is)
