use Rattle.access_plan.specs.Views.{access_at, reach_at}
use Rattle.probe_eval.specs.StepRows.{step_accesses}
use Rattle.probe_eval.proofs.GivenLaws.{given_none, given_one, given_several, sole_none, sole_one, sole_several}
use Rattle.probe_eval.proofs.given.sole_access.Goals as goal

pub returns-in-None : goal.returns-in-None
returns-in-None c =
    let xs = step_accesses c.args.path.now c.args.env.now c.args.reach.var c.args.reach.table in
    sole_none c.args.path.now c.args.env.now (reach_at c.args.reach) (given_none c.given_on.result xs c.in-None.is c.given_on.ensures)

pub returns-in-One : goal.returns-in-One
returns-in-One c =
    let xs = step_accesses c.args.path.now c.args.env.now c.args.reach.var c.args.reach.table in
    sole_one c.args.path.now c.args.env.now (reach_at c.args.reach) (access_at c.in-One.access)
    (given_one c.given_on.result xs c.in-One.access c.in-One.is c.given_on.ensures)

pub returns-in-Several : goal.returns-in-Several
returns-in-Several c =
    let xs = step_accesses c.args.path.now c.args.env.now c.args.reach.var c.args.reach.table in
    sole_several c.args.path.now c.args.env.now (reach_at c.args.reach)
    (given_several c.given_on.result xs c.in-Several.is c.given_on.ensures)
