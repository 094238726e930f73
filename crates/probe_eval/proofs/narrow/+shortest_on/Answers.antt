use Rattle.std.proofs.Common.{rules, ◌≡◌, length, ◌∷◌}
use Rattle.access_plan.specs.Accesses.{accesses_by, is_held}
use Rattle.access_plan.specs.Views.{option_access}
use Rattle.probe_eval.specs.Shortest.{shortest_after}
use Rattle.probe_eval.proofs.ShortestLaws.{none_on, more_on}
use Rattle.probe_eval.proofs.narrow.+shortest_on.Goals as goal

pub returns-in-None : goal.returns-in-None
returns-in-None t c =
    let e : length c.args.path.now ≡ 0 = search rules in
    none_on c.args.index.now c.args.env.now (option_access c.args.best) c.args.path.now c.args.var c.args.table e

pub returns-in-Some : goal.returns-in-Some
returns-in-Some t c =
    let e : c.args.path.now ≡ c.in-Some.step.now ∷ c.in-Some.rest.now = search rules in
    let f : option_access c.shortest_by-found.result ≡ shortest_after c.args.index.now c.args.env.now (option_access c.args.best)
    (accesses_by (is_held c.args.env.now) c.args.var c.args.table c.in-Some.step.now.guards) = search rules in
    more_on c.args.index.now c.args.env.now (option_access c.args.best) (option_access c.shortest_by-found.result)
    (option_access c.shortest_on.result) c.args.path.now c.in-Some.rest.now c.in-Some.step.now c.args.var c.args.table e f
    c.shortest_on.ensures
