use Rattle.std.proofs.Common.{◌≡◌, rules, refl, true, [], ◌∷◌, arith}
use Rattle.node_pool.specs.Pools.{are_below}
use Rattle.tql_core.specs.Condition.{Condition, All, Either}
use Rattle.tql_core.specs.Trees.{tree_at}
use Rattle.monotone_rewrite.specs.Folding.{known, fold_all, fold_either, fold}
use Rattle.delta_rewrite.specs.Delta.{settled}
use Rattle.delta_rewrite.proofs.Parts.{second_below, stays, change_two}
use Rattle.delta_rewrite.proofs.settled.+settled_body.Goals as goal

pub settled_body-requires-in-All : goal.settled_body-requires-in-All
settled_body-requires-in-All t c =
    let parts : are_below c.args.id.0 (c.in-All.l.0 ∷ c.in-All.r.0 ∷ []) ≡ true = search rules in
    let low = second_below c.args.id.0 c.in-All.l.0 c.in-All.r.0 parts in
    let there = c.requires in
    let measure : c.args.id.0 ≡ t = c.decreases in
    (omega arith, (stays _ _ c.in_ok-left-in-All.ensures.kept _ (omega arith)).within)

pub shared_all-requires-clause-left : goal.shared_all-requires-clause-left
shared_all-requires-clause-left t c = (c.in_ok-right-in-All.ensures.kept _ _ c.in_ok-left-in-All.ensures.tree).within

pub returns-in_ok-both-in-All-clause-kept : goal.returns-in_ok-both-in-All-clause-kept
returns-in_ok-both-in-All-clause-kept t c id x h =
    c.in_ok-both-in-All.ensures.kept id x (c.in_ok-right-in-All.ensures.kept id x (c.in_ok-left-in-All.ensures.kept id x h))

pub returns-in_ok-both-in-All-clause-tree : goal.returns-in_ok-both-in-All-clause-tree
returns-in_ok-both-in-All-clause-tree t c =
    let P = c.args.pool.now in
    let parts : are_below c.args.id.0 (c.in-All.l.0 ∷ c.in-All.r.0 ∷ []) ≡ true = search rules in
    let low = second_below c.args.id.0 c.in-All.l.0 c.in-All.r.0 parts in
    let there = c.requires in
    let whole : tree_at P c.args.id.0 ≡ All (tree_at P c.in-All.l.0) (tree_at P c.in-All.r.0) = search rules in
    let k = c.in_ok-left-in-All.ensures.kept in
    let k' = c.in_ok-right-in-All.ensures.kept in
    let f : Condition → Condition = λ z. fold c.args.at.now (settled c.args.path.now z) in
    change_two f P c.settled_body.new.pool c.settled_body-in-All.new.pool c.shared_all.new.pool c.in-All.l.0 c.in-All.r.0
    _ _ _ All (λ x y. fold_all (known x) (known y) x y) _ (λ x y. refl) k k' (omega arith) whole
    c.in_ok-left-in-All.ensures.tree c.in_ok-right-in-All.ensures.tree c.in_ok-both-in-All.ensures.tree

pub settled_body-requires-in-Either-2 : goal.settled_body-requires-in-Either-2
settled_body-requires-in-Either-2 t c =
    let parts : are_below c.args.id.0 (c.in-Either.l.0 ∷ c.in-Either.r.0 ∷ []) ≡ true = search rules in
    let low = second_below c.args.id.0 c.in-Either.l.0 c.in-Either.r.0 parts in
    let there = c.requires in
    let measure : c.args.id.0 ≡ t = c.decreases in
    (omega arith, (stays _ _ c.in_ok-left-in-Either.ensures.kept _ (omega arith)).within)

pub shared_either-requires-clause-left : goal.shared_either-requires-clause-left
shared_either-requires-clause-left t c = (c.in_ok-right-in-Either.ensures.kept _ _ c.in_ok-left-in-Either.ensures.tree).within

pub returns-in_ok-either-in-Either-clause-kept : goal.returns-in_ok-either-in-Either-clause-kept
returns-in_ok-either-in-Either-clause-kept t c id x h =
    c.in_ok-either-in-Either.ensures.kept id x (c.in_ok-right-in-Either.ensures.kept id x (c.in_ok-left-in-Either.ensures.kept id x h))

pub returns-in_ok-either-in-Either-clause-tree : goal.returns-in_ok-either-in-Either-clause-tree
returns-in_ok-either-in-Either-clause-tree t c =
    let P = c.args.pool.now in
    let parts : are_below c.args.id.0 (c.in-Either.l.0 ∷ c.in-Either.r.0 ∷ []) ≡ true = search rules in
    let low = second_below c.args.id.0 c.in-Either.l.0 c.in-Either.r.0 parts in
    let there = c.requires in
    let whole : tree_at P c.args.id.0 ≡ Either (tree_at P c.in-Either.l.0) (tree_at P c.in-Either.r.0) = search rules in
    let k = c.in_ok-left-in-Either.ensures.kept in
    let k' = c.in_ok-right-in-Either.ensures.kept in
    let f : Condition → Condition = λ z. fold c.args.at.now (settled c.args.path.now z) in
    change_two f P c.settled_body-in-Either.new.pool c.settled_body-in-Either-2.new.pool c.shared_either.new.pool
    c.in-Either.l.0 c.in-Either.r.0 _ _ _ Either (λ x y. fold_either (known x) (known y) x y) _ (λ x y. refl) k k' (omega arith) whole
    c.in_ok-left-in-Either.ensures.tree c.in_ok-right-in-Either.ensures.tree c.in_ok-either-in-Either.ensures.tree

pub returns-in_ok-opposite-in-Not-clause-kept : goal.returns-in_ok-opposite-in-Not-clause-kept
returns-in_ok-opposite-in-Not-clause-kept t c id x h = c.in_ok-opposite-in-Not.ensures.kept id x (c.in_ok-inner-in-Not.ensures.kept id x h)

pub returns-in_ok-some-in-Exists-clause-kept : goal.returns-in_ok-some-in-Exists-clause-kept
returns-in_ok-some-in-Exists-clause-kept t c id x h = c.in_ok-some-in-Exists.ensures.kept id x (c.in_ok-inner-in-Exists.ensures.kept id x h)
