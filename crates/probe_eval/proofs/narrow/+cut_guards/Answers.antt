use Rattle.std.proofs.Common.{rules, ◌≡◌, length, ◌∷◌}
use Rattle.tql_core.specs.Row.{OfDoc}
use Rattle.probe_eval.specs.StepRows.{passes_open}
use Rattle.probe_eval.proofs.NarrowLaws.{still_in_order, no_guard_cut, guard_cut}
use Rattle.probe_eval.proofs.narrow.+cut_guards.Goals as goal

pub returns-in-None : goal.returns-in-None
returns-in-None t c =
    let e : length c.args.guards.now ≡ 0 = search rules in
    no_guard_cut c.args.var c.args.env.now c.args.guards.now c.args.docs e

pub cut_guards-requires : goal.cut_guards-requires
cut_guards-requires t c =
    let by = still_in_order (λ d. passes_open c.args.var c.args.env.now c.in-Some.guard.now (OfDoc d))
    c.args.docs c.cut_guard-some.result c.cut_guard-some.ensures c.requires in
    search (rules, by)

pub returns-in-Some : goal.returns-in-Some
returns-in-Some t c =
    let e : c.args.guards.now ≡ c.in-Some.guard.now ∷ c.in-Some.rest.now = search rules in
    guard_cut c.args.var c.args.env.now c.args.guards.now c.in-Some.rest.now c.in-Some.guard.now c.args.docs c.cut_guard-some.result _ e
    c.cut_guard-some.ensures c.cut_guards.ensures
