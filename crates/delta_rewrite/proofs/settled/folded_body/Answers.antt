use Rattle.std.proofs.Common.{rules, [], subst}
use Rattle.tql_core.specs.Trees.{tree_at, IsTreeAt}
use Rattle.monotone_rewrite.specs.Folding.{fold}
use Rattle.delta_rewrite.specs.Delta.{settled}
use Rattle.delta_rewrite.proofs.Settling.{settled_none}
use Rattle.delta_rewrite.proofs.settled.folded_body.Goals as goal

pub returns-clause-tree : goal.returns-clause-tree
returns-clause-tree c =
    let x = tree_at c.args.pool.now c.args.id.0 in
    let t : IsTreeAt c.settled_body.new.pool c.in_ok-folded.folded.0 (fold c.args.at.now (settled [] x)) = search rules in
    subst (λ z. IsTreeAt c.settled_body.new.pool c.in_ok-folded.folded.0 (fold c.args.at.now z)) (settled_none x) t
