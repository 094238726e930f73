use Rattle.std.proofs.Common.{rules, ◌≡◌, map, filter}
use Rattle.tql_core.specs.Row.{OfDoc}
use Rattle.access_plan.specs.Views.{access_at}
use Rattle.probe_eval.specs.Shortest.{IsListOf}
use Rattle.probe_eval.specs.StepRows.{passes_step}
use Rattle.probe_eval.specs.Work.{rows_by}
use Rattle.probe_eval.proofs.StepLists.{no_list_step, list_step}
use Rattle.probe_eval.proofs.narrow.many_rows.Goals as goal

pub returns-in-None : goal.returns-in-None
returns-in-None c =
    let r : c.other_rows.result ≡ rows_by c.args.mark (access_at c.args.access) c.args.env.now c.args.index.now = search rules in
    no_list_step c.args.index.now (access_at c.args.access) c.args.var c.args.mark c.args.env.now c.args.path.now c.other_rows.result r
    (c.many_list.ensures.none c.in-None.is c.requires)

pub other_rows-requires : goal.other_rows-requires
other_rows-requires c = c.many_list.ensures.none c.in-None.is c.requires

pub docs_beside-requires : goal.docs_beside-requires
docs_beside-requires c =
    let l : IsListOf c.args.index.now (access_at c.args.access) c.args.env.now c.in-Some.docs = search rules in
    l.sorted

pub returns-in-Some : goal.returns-in-Some
returns-in-Some c =
    let l : IsListOf c.args.index.now (access_at c.args.access) c.args.env.now c.in-Some.docs = search rules in
    let e : c.docs_beside.result
    ≡ filter (λ d. passes_step c.args.var c.args.mark c.args.env.now c.args.path.now (OfDoc d)) c.in-Some.docs = search rules in
    let m : c.of_docs.result ≡ map OfDoc c.docs_beside.result = search rules in
    rw m (list_step c.args.index.now (access_at c.args.access)
    c.args.var c.args.mark c.args.env.now c.args.path.now c.in-Some.docs c.docs_beside.result l e)
