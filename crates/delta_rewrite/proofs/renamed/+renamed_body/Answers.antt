use Rattle.std.proofs.Common.{◌≡◌, rules, refl, true, [], ◌∷◌, arith}
use Rattle.node_pool.specs.Pools.{are_below}
use Rattle.tql_core.specs.Condition.{All, Either}
use Rattle.tql_core.specs.Trees.{tree_at}
use Rattle.delta_rewrite.specs.Delta.{renamed}
use Rattle.delta_rewrite.proofs.Parts.{second_below, stays, change_two}
use Rattle.delta_rewrite.proofs.renamed.+renamed_body.Goals as goal

pub renamed_body-requires-in-All : goal.renamed_body-requires-in-All
renamed_body-requires-in-All t c =
    let parts : are_below c.args.id.0 (c.in-All.l.0 ∷ c.in-All.r.0 ∷ []) ≡ true = search rules in
    let low = second_below c.args.id.0 c.in-All.l.0 c.in-All.r.0 parts in
    let there = c.requires in
    let measure : c.args.id.0 ≡ t = c.decreases in
    (omega arith, (stays _ _ c.in_ok-left-in-All.ensures.kept _ (omega arith)).within)

pub all_node-requires-clause-left : goal.all_node-requires-clause-left
all_node-requires-clause-left t c = (c.in_ok-right-in-All.ensures.kept _ _ c.in_ok-left-in-All.ensures.tree).within

pub returns-in_ok-both-in-All-clause-kept : goal.returns-in_ok-both-in-All-clause-kept
returns-in_ok-both-in-All-clause-kept t c id x h =
    c.in_ok-both-in-All.ensures.kept id x (c.in_ok-right-in-All.ensures.kept id x (c.in_ok-left-in-All.ensures.kept id x h))

pub returns-in_ok-both-in-All-clause-tree : goal.returns-in_ok-both-in-All-clause-tree
returns-in_ok-both-in-All-clause-tree t c =
    let P = c.args.pool.now in
    let parts : are_below c.args.id.0 (c.in-All.l.0 ∷ c.in-All.r.0 ∷ []) ≡ true = search rules in
    let low = second_below c.args.id.0 c.in-All.l.0 c.in-All.r.0 parts in
    let there = c.requires in
    let whole : tree_at P c.args.id.0 ≡ All (tree_at P c.in-All.l.0) (tree_at P c.in-All.r.0) = search rules in
    let k = c.in_ok-left-in-All.ensures.kept in
    let k' = c.in_ok-right-in-All.ensures.kept in
    let f = renamed c.args.from c.args.to in
    change_two f P c.renamed_body.new.pool c.renamed_body-in-All.new.pool c.all_node.new.pool c.in-All.l.0 c.in-All.r.0
    _ _ _ All All _ (λ x y. refl) k k' (omega arith) whole
    c.in_ok-left-in-All.ensures.tree c.in_ok-right-in-All.ensures.tree c.in_ok-both-in-All.ensures.tree

pub renamed_body-requires-in-Either-2 : goal.renamed_body-requires-in-Either-2
renamed_body-requires-in-Either-2 t c =
    let parts : are_below c.args.id.0 (c.in-Either.l.0 ∷ c.in-Either.r.0 ∷ []) ≡ true = search rules in
    let low = second_below c.args.id.0 c.in-Either.l.0 c.in-Either.r.0 parts in
    let there = c.requires in
    let measure : c.args.id.0 ≡ t = c.decreases in
    (omega arith, (stays _ _ c.in_ok-left-in-Either.ensures.kept _ (omega arith)).within)

pub either_node-requires-clause-left : goal.either_node-requires-clause-left
either_node-requires-clause-left t c = (c.in_ok-right-in-Either.ensures.kept _ _ c.in_ok-left-in-Either.ensures.tree).within

pub returns-in_ok-either-in-Either-clause-kept : goal.returns-in_ok-either-in-Either-clause-kept
returns-in_ok-either-in-Either-clause-kept t c id x h =
    c.in_ok-either-in-Either.ensures.kept id x (c.in_ok-right-in-Either.ensures.kept id x (c.in_ok-left-in-Either.ensures.kept id x h))

pub returns-in_ok-either-in-Either-clause-tree : goal.returns-in_ok-either-in-Either-clause-tree
returns-in_ok-either-in-Either-clause-tree t c =
    let P = c.args.pool.now in
    let parts : are_below c.args.id.0 (c.in-Either.l.0 ∷ c.in-Either.r.0 ∷ []) ≡ true = search rules in
    let low = second_below c.args.id.0 c.in-Either.l.0 c.in-Either.r.0 parts in
    let there = c.requires in
    let whole : tree_at P c.args.id.0 ≡ Either (tree_at P c.in-Either.l.0) (tree_at P c.in-Either.r.0) = search rules in
    let k = c.in_ok-left-in-Either.ensures.kept in
    let k' = c.in_ok-right-in-Either.ensures.kept in
    let f = renamed c.args.from c.args.to in
    change_two f P c.renamed_body-in-Either.new.pool c.renamed_body-in-Either-2.new.pool c.either_node.new.pool
    c.in-Either.l.0 c.in-Either.r.0 _ _ _ Either Either _ (λ x y. refl) k k' (omega arith) whole
    c.in_ok-left-in-Either.ensures.tree c.in_ok-right-in-Either.ensures.tree c.in_ok-either-in-Either.ensures.tree

pub returns-in_ok-opposite-in-Not-clause-kept : goal.returns-in_ok-opposite-in-Not-clause-kept
returns-in_ok-opposite-in-Not-clause-kept t c id x h = c.in_ok-opposite-in-Not.ensures.kept id x (c.in_ok-inner-in-Not.ensures.kept id x h)

pub returns-in_ok-some-in-Exists-clause-kept : goal.returns-in_ok-some-in-Exists-clause-kept
returns-in_ok-some-in-Exists-clause-kept t c id x h = c.in_ok-some-in-Exists.ensures.kept id x (c.in_ok-inner-in-Exists.ensures.kept id x h)
