use Rattle.std.proofs.Common.{rules, ◌≡◌, ◌∙◌, ◌∷◌, Some, None, length, refl}
use Rattle.access_plan.specs.Views.{access_at}
use Rattle.probe_eval.specs.Shortest.{shortest_after}
use Rattle.probe_eval.proofs.ShortestLaws.{none_more, one_more, shortest_found}
use Rattle.probe_eval.proofs.lists.shortest.Goals as goal

pub returns-in-None : goal.returns-in-None
returns-in-None c =
    let e : length c.args.accesses.now ≡ 0 = search rules in
    none_more c.args.index.now c.args.env.now None c.args.accesses.now e
    ∙ shortest_found c.args.index.now c.args.env.now c.args.accesses.now

pub returns-in-Some : goal.returns-in-Some
returns-in-Some c =
    let e : c.args.accesses.now ≡ c.in-Some.access.now ∷ c.in-Some.rest.now = search rules in
    let n : Some (access_at c.shortest_beside.result)
    ≡ shortest_after c.args.index.now c.args.env.now (Some c.in-Some.access.now) c.in-Some.rest.now = search rules in
    one_more c.args.index.now c.args.env.now None (Some c.in-Some.access.now) (Some (access_at c.shortest_beside.result))
    c.args.accesses.now c.in-Some.rest.now c.in-Some.access.now e refl n
    ∙ shortest_found c.args.index.now c.args.env.now c.args.accesses.now
