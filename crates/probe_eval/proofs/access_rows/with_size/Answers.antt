use Rattle.std.proofs.Common.{rules, ◌≡◌, ◌∙◌, Some, pos, map}
use Rattle.tql_core.specs.Row.{OfDoc}
use Rattle.row_index.specs.Numbers.{of_size}
use Rattle.probe_eval.proofs.AccessLists.{no_size, docs_of_size}
use Rattle.probe_eval.proofs.access_rows.with_size.Goals as goal

pub returns-in-None : goal.returns-in-None
returns-in-None c =
    c.none.ensures ∙ no_size c.args.index.now.docs c.args.num (c.short.ensures.none c.in-None.is) c.docs-docs.ensures.sizes

pub returns-in-Some : goal.returns-in-Some
returns-in-Some c =
    let k : c.args.num ≡ Some (pos c.in-Some.size) = search rules in
    let e : c.of_docs.result ≡ map OfDoc (of_size c.in-Some.size c.args.index.now.docs) = search rules in
    e ∙ docs_of_size c.args.index.now c.args.num c.in-Some.size k
