use Rattle.std.proofs.Common.{rules, ◌≡◌, ◌∙◌, Bool, refl, sym, ap, map, filter}
use Rattle.tap_rows.specs.declared.rows.Doc.{Doc}
use Rattle.tql_core.specs.Row.{OfDoc}
use Rattle.access_plan.specs.Views.{access_at, reach_at}
use Rattle.probe_eval.specs.StepRows.{passes_step, step_access, step_rows, next_rows}
use Rattle.probe_eval.proofs.ShortestLaws.{single_is_list}
use Rattle.probe_eval.proofs.StepLists.{list_step}
use Rattle.query_eval.specs.Fronts.{AreDocsBehind}
use Rattle.query_eval.proofs.FrontLaws.{behind_none, behind_docs}
use Rattle.query_eval.proofs.behind.open_rows.Goals as goal

pub returns-then-reach-ne0-clause-rows : goal.returns-then-reach-ne0-clause-rows
returns-then-reach-ne0-clause-rows c =
    let s = c.args.search.now in
    let same : c.rows_beside.result ≡ next_rows s.index.now s.probe.now.path c.args.mark c.args.env.now (reach_at c.args.reach) =
    search rules in
    behind_none s c.args.into.now c.args.mark c.args.reach.var _ c.rows_beside.result same

pub many_rows-requires : goal.many_rows-requires
many_rows-requires c = c.single_list.ensures.none c.in-None.is

pub returns-in-None-clause-rows : goal.returns-in-None-clause-rows
returns-in-None-clause-rows c =
    let s = c.args.search.now in
    let chosen : access_at c.step_access-access.result
    ≡ step_access s.index.now s.probe.now.path c.args.env.now (reach_at c.args.reach) = search rules in
    let walked : c.many_rows.result ≡ step_rows (access_at c.step_access-access.result)
    c.args.reach.var c.args.mark c.args.env.now s.probe.now.path s.index.now = search rules in
    let same : c.many_rows.result ≡ next_rows s.index.now s.probe.now.path c.args.mark c.args.env.now (reach_at c.args.reach) =
    walked ∙ ap (λ a. step_rows a c.args.reach.var c.args.mark c.args.env.now s.probe.now.path s.index.now) chosen in
    behind_none s c.args.into.now c.args.mark c.args.reach.var _ c.many_rows.result same

pub returns-in-Some-clause-rows : goal.returns-in-Some-clause-rows
returns-in-Some-clause-rows c =
    let s = c.args.search.now in
    let v = c.args.reach.var in
    let a = access_at c.step_access-access.result in
    let chosen : a ≡ step_access s.index.now s.probe.now.path c.args.env.now (reach_at c.args.reach) = search rules in
    let keeps : Doc → Bool = λ d. passes_step v c.args.mark c.args.env.now s.probe.now.path (OfDoc d) in
    let list = single_is_list s.index.now a c.args.env.now c.in-Some.found c.in-Some.ensures.some in
    let all : map OfDoc (filter keeps c.in-Some.found.docs)
    ≡ next_rows s.index.now s.probe.now.path c.args.mark c.args.env.now (reach_at c.args.reach) =
    list_step s.index.now a v c.args.mark c.args.env.now s.probe.now.path c.in-Some.found.docs (filter keeps c.in-Some.found.docs) list refl
    ∙ ap (λ z. step_rows z v c.args.mark c.args.env.now s.probe.now.path s.index.now) chosen in
    let z : v.0 ≡ 0 = search rules in
    let kept : c.of_docs.result ≡ map OfDoc c.docs_behind.result = search rules in
    let docs : AreDocsBehind s c.args.into.now c.args.mark (filter keeps c.in-Some.found.docs) c.docs_behind.result = search rules in
    behind_docs s c.args.into.now c.args.mark v (filter keeps c.in-Some.found.docs) c.docs_behind.result _ _ z (sym all) kept docs
