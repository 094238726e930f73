use Rattle.std.proofs.Common.{rules, ◌≡◌, ◌∙◌, true, false, inl, map, filter}
use Rattle.tql_core.specs.Row.{OfDoc}
use Rattle.time_marks.specs.Marks.{guards_of}
use Rattle.access_plan.specs.Views.{access_at}
use Rattle.probe_eval.specs.Cuts.{passes_cuts}
use Rattle.probe_eval.specs.Searches.{condition_at}
use Rattle.probe_eval.specs.Shortest.{IsListOf}
use Rattle.probe_eval.specs.Work.{is_list}
use Rattle.probe_eval.proofs.ShortestLaws.{no_list_cut, none_cut, list_cut}
use Rattle.probe_eval.proofs.inner_rows.cut_list.Goals as goal

pub returns-then-not-is_list : goal.returns-then-not-is_list
returns-then-not-is_list c =
    let l : is_list (access_at c.args.access) ≡ false = search rules in
    no_list_cut c.args.search.now.index.now (access_at c.args.access)
    c.args.var c.args.env.now (guards_of (condition_at c.args.search.now c.args.inner.0))
    c.all_rows_by.result c.all_rows_by.ensures (inl l)

pub returns-in-None : goal.returns-in-None
returns-in-None c =
    let l : is_list (access_at c.args.access) ≡ true = search rules in
    c.none.ensures ∙ none_cut c.args.search.now.index.now (access_at c.args.access)
    c.args.var c.args.env.now (guards_of (condition_at c.args.search.now c.args.inner.0)) l (c.text_list.ensures.none c.in-None.is)

pub left_docs-requires-clause-docs : goal.left_docs-requires-clause-docs
left_docs-requires-clause-docs c =
    let l : IsListOf c.args.search.now.index.now (access_at c.args.access) c.args.env.now c.in-Some.docs = search rules in
    l.sorted

pub returns-in-Some : goal.returns-in-Some
returns-in-Some c =
    let l : IsListOf c.args.search.now.index.now (access_at c.args.access) c.args.env.now c.in-Some.docs = search rules in
    let e : c.left_docs.result
    ≡ filter (λ d. passes_cuts c.args.var c.args.env.now (guards_of (condition_at c.args.search.now c.args.inner.0)) (OfDoc d))
    c.in-Some.docs = search rules in
    let m : c.of_docs.result ≡ map OfDoc c.left_docs.result = search rules in
    rw m (list_cut c.args.search.now.index.now (access_at c.args.access)
    c.args.var c.args.env.now (guards_of (condition_at c.args.search.now c.args.inner.0)) c.in-Some.docs c.left_docs.result l e)
