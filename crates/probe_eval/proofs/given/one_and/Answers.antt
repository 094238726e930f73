use Rattle.std.proofs.Common.{rules, ◌≡◌, ◌∷◌, ap}
use Rattle.access_plan.specs.Views.{access_at}
use Rattle.probe_eval.specs.declared.given.Given.TheVariants as G
use Rattle.probe_eval.proofs.GivenLaws.{given_none, given_one, given_several, one_and_one, one_and_more}
use Rattle.probe_eval.proofs.given.one_and.Goals as goal

pub returns-in-None : goal.returns-in-None
returns-in-None c ys h =
    let e : c.args.more ≡ G.None = search rules in
    ap (λ z. access_at c.args.access ∷ z) (given_none c.args.more ys e h)

pub returns-in-One : goal.returns-in-One
returns-in-One c ys h =
    let e : c.args.more ≡ G.One c.in-One._other = search rules in
    one_and_one ys (access_at c.args.access) (access_at c.in-One._other) (given_one c.args.more ys c.in-One._other e h)

pub returns-in-Several : goal.returns-in-Several
returns-in-Several c ys h =
    let e : c.args.more ≡ G.Several = search rules in
    one_and_more ys (access_at c.args.access) (given_several c.args.more ys e h)
