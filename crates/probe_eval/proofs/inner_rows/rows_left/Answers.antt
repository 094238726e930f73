use Rattle.std.proofs.Common.{rules, ◌≡◌, Some, None}
use Rattle.access_plan.specs.Accesses.{inner_accesses}
use Rattle.access_plan.specs.Views.{access_at}
use Rattle.probe_eval.specs.Searches.{condition_at}
use Rattle.probe_eval.specs.Work.{shortest}
use Rattle.probe_eval.proofs.ShortestLaws.{reached_by, reached_whole}
use Rattle.probe_eval.proofs.inner_rows.rows_left.Goals as goal

pub returns-in-None : goal.returns-in-None
returns-in-None c =
    let x = condition_at c.args.search.now c.args.inner.0 in
    let s : shortest c.args.search.now.index.now c.args.env.now (inner_accesses c.args.var c.args.table x) ≡ None = search rules in
    reached_whole c.args.search.now.index.now c.args.var c.args.table x c.args.env.now c.all_rows_by.result s (search rules)

pub returns-in-Some : goal.returns-in-Some
returns-in-Some c =
    let x = condition_at c.args.search.now c.args.inner.0 in
    let s : shortest c.args.search.now.index.now c.args.env.now (inner_accesses c.args.var c.args.table x)
    ≡ Some (access_at c.in-Some.access) = search rules in
    reached_by c.args.search.now.index.now c.args.var c.args.table x c.args.env.now c.cut_list.result (access_at c.in-Some.access) s
    c.cut_list.ensures
