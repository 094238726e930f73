use Rattle.std.proofs.Common.{rules, ◌≡◌, ◌++◌, sym, subst}
use Rattle.probe_eval.specs.declared.given.Given.TheVariants as G
use Rattle.probe_eval.specs.Given.{IsGiven}
use Rattle.probe_eval.proofs.GivenLaws.{given_none, given_one, given_several, several_and}
use Rattle.probe_eval.proofs.given.both.Goals as goal

pub returns-in-None : goal.returns-in-None
returns-in-None c xs ys h k =
    let e : c.args.some ≡ G.None = search rules in
    subst (λ z. IsGiven c.args.more (z ++ ys)) (sym (given_none c.args.some xs e h)) k

pub returns-in-One : goal.returns-in-One
returns-in-One c xs ys h k =
    let e : c.args.some ≡ G.One c.in-One.access = search rules in
    subst (λ z. IsGiven c.one_and.result (z ++ ys)) (sym (given_one c.args.some xs c.in-One.access e h)) (c.one_and.ensures ys k)

pub returns-in-Several : goal.returns-in-Several
returns-in-Several c xs ys h k =
    let e : c.args.some ≡ G.Several = search rules in
    several_and xs ys (given_several c.args.some xs e h)
