use Rattle.std.proofs.Common.{rules, ◌≡◌, Some, None}
use Rattle.access_plan.specs.Accesses.{access_by, is_held}
use Rattle.access_plan.specs.Views.{access_at, option_access}
use Rattle.probe_eval.proofs.ShortestLaws.{none_by, one_by}
use Rattle.probe_eval.proofs.narrow.shorter_by.Goals as goal

pub returns-in-None : goal.returns-in-None
returns-in-None c =
    let e : None ≡ access_by (is_held c.args.env.now) c.args.var c.args.table c.args.guard.now = search rules in
    none_by c.args.index.now c.args.env.now (is_held c.args.env.now) c.args.var c.args.table (option_access c.args.best) c.args.guard.now e

pub returns-in-Some : goal.returns-in-Some
returns-in-Some c =
    let e : Some (access_at c.in-Some.access) ≡ access_by (is_held c.args.env.now) c.args.var c.args.table c.args.guard.now =
    search rules in
    one_by c.args.index.now c.args.env.now (is_held c.args.env.now) c.args.var c.args.table (option_access c.args.best)
    (option_access c.shorter_access.result) c.args.guard.now (access_at c.in-Some.access) e c.shorter_access.ensures
