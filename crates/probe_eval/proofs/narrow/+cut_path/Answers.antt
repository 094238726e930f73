use Rattle.std.proofs.Common.{rules, ◌≡◌, length, ◌∷◌}
use Rattle.tql_core.specs.Row.{OfDoc}
use Rattle.probe_eval.specs.StepRows.{passes_guards}
use Rattle.probe_eval.proofs.NarrowLaws.{still_in_order, no_step_cut, step_cut}
use Rattle.probe_eval.proofs.narrow.+cut_path.Goals as goal

pub returns-in-None : goal.returns-in-None
returns-in-None t c =
    let e : length c.args.path.now ≡ 0 = search rules in
    no_step_cut c.args.var c.args.env.now c.args.path.now c.args.docs e

pub cut_path-requires : goal.cut_path-requires
cut_path-requires t c =
    let by = still_in_order (λ d. passes_guards c.args.var c.args.env.now c.as_slice.result.now (OfDoc d))
    c.args.docs c.cut_guards-some.result c.cut_guards-some.ensures c.requires in
    search (rules, by)

pub returns-in-Some : goal.returns-in-Some
returns-in-Some t c =
    let e : c.args.path.now ≡ c.in-Some.step.now ∷ c.in-Some.rest.now = search rules in
    let g : c.as_slice.result.now ≡ c.in-Some.step.now.guards = search rules in
    step_cut c.args.var c.args.env.now c.args.path.now c.in-Some.rest.now c.in-Some.step.now c.as_slice.result.now
    c.args.docs c.cut_guards-some.result _ e g c.cut_guards-some.ensures c.cut_path.ensures
