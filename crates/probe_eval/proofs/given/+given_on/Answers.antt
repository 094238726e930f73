use Rattle.std.proofs.Common.{rules, ◌≡◌, length, ◌∷◌, sym, subst}
use Rattle.access_plan.specs.Accesses.{accesses_by, is_held}
use Rattle.probe_eval.specs.Given.{IsGiven}
use Rattle.probe_eval.specs.StepRows.{step_accesses}
use Rattle.probe_eval.proofs.GivenLaws.{no_steps}
use Rattle.probe_eval.proofs.given.+given_on.Goals as goal

pub returns-in-None : goal.returns-in-None
returns-in-None t c =
    let e : length c.args.path.now ≡ 0 = search rules in
    no_steps c.args.path.now c.args.env.now c.args.var c.args.table e

pub returns-in-Some : goal.returns-in-Some
returns-in-Some t c =
    let e : c.args.path.now ≡ c.in-Some.step.now ∷ c.in-Some.rest.now = search rules in
    let f : IsGiven c.given_of-first.result (accesses_by (is_held c.args.env.now) c.args.var c.args.table c.in-Some.step.now.guards) =
    search rules in
    subst (λ p. IsGiven c.both.result (step_accesses p c.args.env.now c.args.var c.args.table)) (sym e)
    (c.both.ensures (accesses_by (is_held c.args.env.now) c.args.var c.args.table c.in-Some.step.now.guards)
    (step_accesses c.in-Some.rest.now c.args.env.now c.args.var c.args.table) f c.given_on-more.ensures)
