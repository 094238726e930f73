use Rattle.std.proofs.Common.{rules, ◌≡◌, ◌∙◌, true, false, inl, map, filter}
use Rattle.tql_core.specs.Row.{OfDoc}
use Rattle.access_plan.specs.Views.{access_at}
use Rattle.probe_eval.specs.Shortest.{IsListOf}
use Rattle.probe_eval.specs.StepRows.{passes_step}
use Rattle.probe_eval.specs.Work.{rows_by, is_list}
use Rattle.probe_eval.proofs.StepLists.{no_rows, no_list_step, list_step}
use Rattle.probe_eval.proofs.narrow.step_rows.Goals as goal

pub returns-then-not-is_list : goal.returns-then-not-is_list
returns-then-not-is_list c =
    let l : is_list (access_at c.args.access) ≡ false = search rules in
    let r : c.rows_by.result ≡ rows_by c.args.mark (access_at c.args.access) c.args.env.now c.args.index.now = search rules in
    no_list_step c.args.index.now (access_at c.args.access) c.args.var c.args.mark c.args.env.now c.args.path.now c.rows_by.result r (inl l)

pub returns-in-None : goal.returns-in-None
returns-in-None c =
    let l : is_list (access_at c.args.access) ≡ true = search rules in
    let n = c.text_list.ensures.none c.in-None.is in
    let r : c.none.result ≡ rows_by c.args.mark (access_at c.args.access) c.args.env.now c.args.index.now =
    c.none.ensures ∙ no_rows c.args.index.now (access_at c.args.access) c.args.mark c.args.env.now l n in
    no_list_step c.args.index.now (access_at c.args.access) c.args.var c.args.mark c.args.env.now c.args.path.now c.none.result r n

pub docs_beside-requires : goal.docs_beside-requires
docs_beside-requires c =
    let l : IsListOf c.args.index.now (access_at c.args.access) c.args.env.now c.in-Some.docs = search rules in
    l.sorted

pub returns-in-Some : goal.returns-in-Some
returns-in-Some c =
    let l : IsListOf c.args.index.now (access_at c.args.access) c.args.env.now c.in-Some.docs = search rules in
    let e : c.docs_beside.result
    ≡ filter (λ d. passes_step c.args.var c.args.mark c.args.env.now c.args.path.now (OfDoc d)) c.in-Some.docs = search rules in
    let m : c.of_docs.result ≡ map OfDoc c.docs_beside.result = search rules in
    rw m (list_step c.args.index.now (access_at c.args.access)
    c.args.var c.args.mark c.args.env.now c.args.path.now c.in-Some.docs c.docs_beside.result l e)
