use Rattle.std.proofs.Common.{rules, ◌≡◌, length}
use Rattle.tql_core.specs.Row.{OfDoc}
use Rattle.tql_core.specs.Trees.{tree_at}
use Rattle.time_marks.specs.Marks.{guards_of}
use Rattle.probe_eval.specs.Cuts.{passes_cuts}
use Rattle.probe_eval.proofs.CutLaws.{none_of_none}
use Rattle.probe_eval.proofs.cuts.left_docs.Goals as goal

pub returns-then-none : goal.returns-then-none
returns-then-none c =
    let e : length c.args.docs ≡ 0 = search rules in
    none_of_none (λ d. passes_cuts c.args.var c.args.env.now (guards_of (tree_at c.args.pool.now c.args.id.0)) (OfDoc d)) c.args.docs e
