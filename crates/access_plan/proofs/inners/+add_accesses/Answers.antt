use Rattle.std.proofs.Common.{rules, ◌≡◌, ◌∙◌, ◌++◌, ap, Some}
use Rattle.std.proofs.lemmas.Result.{on_ok_weaker}
use Rattle.tql_core.specs.Condition.{All}
use Rattle.tql_core.specs.Trees.{tree_at, node_tree}
use Rattle.time_marks.specs.Marks.{guards_of}
use Rattle.access_plan.specs.Accesses.{is_other, accesses_by}
use Rattle.access_plan.proofs.InnerLaws.{both_added}
use Rattle.access_plan.proofs.inners.+add_accesses.Goals as goal

pub returns-in_ok-add_accesses-in-All : goal.returns-in_ok-add_accesses-in-All
returns-in_ok-add_accesses-in-All t c =
    let pool = c.args.pool.now in
    let v = c.args.var in
    let e : tree_at pool c.args.id.0 ≡ All (tree_at pool c.in-All.l.0) (tree_at pool c.in-All.r.0) = c.node_at.ensures.says
    ∙ ap (λ n. node_tree (Some n) (tree_at pool)) c.in-All.is in
    let m : c.add_accesses.new.into ≡ c.args.into.now ++ accesses_by (is_other v) v c.args.table (guards_of (tree_at pool c.in-All.l.0)) =
    search rules in
    on_ok_weaker c.add_accesses-in-All.result (λ n. both_added (is_other v) v c.args.table c.args.into.now _ _ _ _ _ e m n)
    c.add_accesses-in-All.ensures
