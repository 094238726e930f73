use Rattle.std.proofs.Common.{rules, ◌≡◌, ◌∙◌, true, false, inl, length}
use Rattle.access_plan.specs.Views.{access_at}
use Rattle.probe_eval.specs.Shortest.{IsListOf}
use Rattle.probe_eval.specs.Work.{is_list}
use Rattle.probe_eval.proofs.ShortestLaws.{list_counted, none_counted}
use Rattle.probe_eval.proofs.lists.length_of.Goals as goal

pub other_length-requires : goal.other_length-requires
other_length-requires c =
    let l : is_list (access_at c.args.access) ≡ false = search rules in
    inl l

pub returns-in-None : goal.returns-in-None
returns-in-None c =
    let l : is_list (access_at c.args.access) ≡ true = search rules in
    none_counted c.args.index.now (access_at c.args.access) c.args.env.now l (c.text_list.ensures.none c.in-None.is)

pub returns-in-Some : goal.returns-in-Some
returns-in-Some c =
    let l : IsListOf c.args.index.now (access_at c.args.access) c.args.env.now c.in-Some.docs = search rules in
    let n : c.len.result ≡ length c.in-Some.docs = search rules in
    n ∙ list_counted c.args.index.now (access_at c.args.access) c.args.env.now c.in-Some.docs l
