use Rattle.std.proofs.Common.{rules, ◌≡◌, Some, length}
use Rattle.access_plan.specs.Views.{access_at}
use Rattle.probe_eval.proofs.ShortestLaws.{none_more}
use Rattle.probe_eval.proofs.lists.shortest_beside.Goals as goal

pub returns-in-None : goal.returns-in-None
returns-in-None c =
    let e : length c.args.rest.now ≡ 0 = search rules in
    none_more c.args.index.now c.args.env.now (Some (access_at c.args.first)) c.args.rest.now e
