use Rattle.std.proofs.Common.{rules, ◌≡◌, ◌∙◌, Some, None, ap}
use Rattle.std.specs.Prelude.{unwrap_or}
use Rattle.access_plan.specs.Views.{access_at}
use Rattle.probe_eval.specs.Shortest.{shortest_after}
use Rattle.probe_eval.specs.StepRows.{step_accesses}
use Rattle.probe_eval.proofs.ShortestLaws.{shortest_found}
use Rattle.probe_eval.proofs.narrow.shortest_step.Goals as goal

pub returns-in-None : goal.returns-in-None
returns-in-None c =
    let own = step_accesses c.args.path.now c.args.env.now c.args.reach.var c.args.reach.table in
    let e : None ≡ shortest_after c.args.index.now c.args.env.now None own = search rules in
    ap (λ o. unwrap_or o (access_at c.args.reach.access)) (e ∙ shortest_found c.args.index.now c.args.env.now own)

pub returns-in-Some : goal.returns-in-Some
returns-in-Some c =
    let own = step_accesses c.args.path.now c.args.env.now c.args.reach.var c.args.reach.table in
    let e : Some (access_at c.in-Some.access) ≡ shortest_after c.args.index.now c.args.env.now None own = search rules in
    ap (λ o. unwrap_or o (access_at c.args.reach.access)) (e ∙ shortest_found c.args.index.now c.args.env.now own)
