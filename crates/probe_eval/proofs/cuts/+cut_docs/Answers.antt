use Rattle.std.proofs.Common.{rules, ◌≡◌, ◌∙◌, ap, [], ◌∷◌, Some}
use Rattle.tql_core.specs.Condition.{All}
use Rattle.tql_core.specs.Row.{OfDoc}
use Rattle.tql_core.specs.Trees.{tree_at, node_tree}
use Rattle.time_marks.specs.Marks.{guards_of}
use Rattle.probe_eval.specs.Cuts.{passes_cuts}
use Rattle.probe_eval.proofs.CutLaws.{both_cut, one_cut, none_cut}
use Rattle.probe_eval.proofs.NarrowLaws.{still_in_order}
use Rattle.probe_eval.proofs.cuts.+cut_docs.Goals as goal

pub returns-in-Plain : goal.returns-in-Plain
returns-in-Plain t c =
    let e : guards_of (tree_at c.args.pool.now c.args.id.0) ≡ c.in-Plain.guard ∷ [] = search rules in
    one_cut c.args.var c.args.env.now (tree_at c.args.pool.now c.args.id.0) c.in-Plain.guard c.args.docs c.cut_by.result e
    c.cut_by.ensures

pub cut_docs-requires : goal.cut_docs-requires
cut_docs-requires t c =
    let by = still_in_order (λ d. passes_cuts c.args.var c.args.env.now (guards_of (tree_at c.args.pool.now c.in-All.l.0)) (OfDoc d))
    c.args.docs c.cut_docs-some.result c.cut_docs-some.ensures c.requires.docs in
    search (rules, by)

pub returns-in-All : goal.returns-in-All
returns-in-All t c =
    let pool = c.args.pool.now in
    let e : tree_at pool c.args.id.0 ≡ All (tree_at pool c.in-All.l.0) (tree_at pool c.in-All.r.0) = c.node_at.ensures.says
    ∙ ap (λ n. node_tree (Some n) (tree_at pool)) c.in-All.is in
    both_cut c.args.var c.args.env.now (tree_at pool c.args.id.0) (tree_at pool c.in-All.l.0) (tree_at pool c.in-All.r.0)
    c.args.docs c.cut_docs-some.result c.cut_docs.result e c.cut_docs-some.ensures c.cut_docs.ensures

pub returns-in_default : goal.returns-in_default
returns-in_default t c =
    let e : guards_of (tree_at c.args.pool.now c.args.id.0) ≡ [] = search rules in
    none_cut c.args.var c.args.env.now (tree_at c.args.pool.now c.args.id.0) c.args.docs e
