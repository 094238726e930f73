use Rattle.std.proofs.Common.{rules, ◌≡◌, length, ◌∷◌, sym, subst}
use Rattle.std.specs.Prelude.{option_to_list}
use Rattle.access_plan.specs.Accesses.{access_by, accesses_by, is_held}
use Rattle.probe_eval.specs.Given.{IsGiven}
use Rattle.probe_eval.proofs.GivenLaws.{no_guards}
use Rattle.probe_eval.proofs.given.+given_of.Goals as goal

pub returns-in-None : goal.returns-in-None
returns-in-None t c =
    let e : length c.args.guards.now ≡ 0 = search rules in
    no_guards (is_held c.args.env.now) c.args.var c.args.table c.args.guards.now e

pub returns-in-Some : goal.returns-in-Some
returns-in-Some t c =
    let known = is_held c.args.env.now in
    let e : c.args.guards.now ≡ c.in-Some.guard.now ∷ c.in-Some.rest.now = search rules in
    subst (λ g. IsGiven c.both.result (accesses_by known c.args.var c.args.table g)) (sym e)
    (c.both.ensures (option_to_list (access_by known c.args.var c.args.table c.in-Some.guard.now))
    (accesses_by known c.args.var c.args.table c.in-Some.rest.now) c.given_by-first.ensures c.given_of-more.ensures)
