use Rattle.std.proofs.Common.{rules, ◌≡◌, ◌∙◌, true}
use Rattle.access_plan.specs.Views.{access_at}
use Rattle.probe_eval.specs.Work.{is_list}
use Rattle.probe_eval.proofs.StepLists.{no_rows}
use Rattle.probe_eval.proofs.narrow.other_rows.Goals as goal

pub returns-then-is_list : goal.returns-then-is_list
returns-then-is_list c =
    let l : is_list (access_at c.args.access) ≡ true = search rules in
    c.none.ensures ∙ no_rows c.args.index.now (access_at c.args.access) c.args.mark c.args.env.now l c.requires
