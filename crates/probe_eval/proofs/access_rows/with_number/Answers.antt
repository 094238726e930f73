use Rattle.std.proofs.Common.{rules, ◌≡◌, ◌∙◌, Some, pos}
use Rattle.probe_eval.proofs.AccessLists.{no_doc, doc_picked}
use Rattle.probe_eval.proofs.access_rows.with_number.Goals as goal

pub returns-in-None : goal.returns-in-None
returns-in-None c = c.none.ensures ∙ no_doc c.args.index.now.docs c.args.num (c.short.ensures.none c.in-None.is)
    c.docs-docs.ensures.places.numbered c.docs-docs.ensures.places.room

pub returns-in-Some : goal.returns-in-Some
returns-in-Some c =
    let k : c.args.num ≡ Some (pos c.in-Some.num) = search rules in
    c.of_one.ensures ∙ doc_picked c.args.index.now.docs c.args.num c.in-Some.num k c.docs-docs.ensures.places.numbered
