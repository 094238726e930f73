use Rattle.std.proofs.Common.{rules, ◌≡◌, ◌∙◌, Bool, ap, sym, subst, take, drop, filter}
use Rattle.tap_rows.specs.declared.rows.Doc.{Doc}
use Rattle.tql_core.specs.Row.{OfDoc}
use Rattle.probe_eval.specs.SingleLists.{IsSorted}
use Rattle.probe_eval.specs.StepRows.{passes_step}
use Rattle.query_eval.specs.Fronts.{AreDoneDocs}
use Rattle.query_eval.proofs.FrontLaws.{front_left, sorted_behind}
use Rattle.query_eval.proofs.behind.docs_behind.Goals as goal

pub docs_beside-requires : goal.docs_beside-requires
docs_beside-requires c =
    subst IsSorted (sym c.skip-docs.ensures) (sorted_behind c.done_front-len.result c.args.found.docs c.requires.list.sorted)

pub returns-clause-rows : goal.returns-clause-rows
returns-clause-rows c =
    let s = c.args.search.now in
    let keeps : Doc → Bool = λ d. passes_step c.args.var c.args.mark c.args.env.now s.probe.now.path (OfDoc d) in
    let d : AreDoneDocs s c.args.into.now c.args.mark (take c.done_front-len.result c.args.found.docs) = search rules in
    let left : c.docs_beside.result ≡ filter keeps c.skip-docs.result = search rules in
    let e : c.docs_beside.result ≡ filter keeps (drop c.done_front-len.result c.args.found.docs) = left
    ∙ ap (filter keeps) c.skip-docs.ensures in
    front_left s c.args.into.now c.args.mark keeps c.args.found.docs c.done_front-len.result c.docs_beside.result d e
