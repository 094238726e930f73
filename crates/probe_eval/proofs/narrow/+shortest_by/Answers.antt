use Rattle.std.proofs.Common.{rules, ◌≡◌, length, ◌∷◌}
use Rattle.access_plan.specs.Accesses.{is_held}
use Rattle.access_plan.specs.Views.{option_access}
use Rattle.probe_eval.proofs.ShortestLaws.{none_of, more_of}
use Rattle.probe_eval.proofs.narrow.+shortest_by.Goals as goal

pub returns-in-None : goal.returns-in-None
returns-in-None t c =
    let e : length c.args.guards.now ≡ 0 = search rules in
    none_of c.args.index.now c.args.env.now (is_held c.args.env.now) c.args.var c.args.table (option_access c.args.best) c.args.guards.now e

pub returns-in-Some : goal.returns-in-Some
returns-in-Some t c =
    let e : c.args.guards.now ≡ c.in-Some.guard.now ∷ c.in-Some.rest.now = search rules in
    more_of c.args.index.now c.args.env.now (is_held c.args.env.now) c.args.var c.args.table (option_access c.args.best)
    (option_access c.shorter_by-found.result) (option_access c.shortest_by.result)
    c.args.guards.now c.in-Some.rest.now c.in-Some.guard.now e c.shorter_by-found.ensures c.shortest_by.ensures
