use Rattle.std.proofs.Common.{refl}
use Rattle.tql_core.specs.Condition.{condition, All, Not}
use Rattle.tql_core.specs.Trees.{tree_at}
use Rattle.time_marks.specs.Marks.{body}
use Rattle.delta_rewrite.proofs.Parts.{stays, of_two}
use Rattle.delta_rewrite.proofs.asked.asked_body.Goals as goal

pub all_node-requires-clause-left : goal.all_node-requires-clause-left
all_node-requires-clause-left c = (stays _ _ c.in_ok-other-in-Right.ensures.kept _ c.requires.within).within

pub returns-in_ok-both-in-Right-clause-kept : goal.returns-in_ok-both-in-Right-clause-kept
returns-in_ok-both-in-Right-clause-kept c id x h =
    c.in_ok-both-in-Right.ensures.kept id x (c.in_ok-other-in-Right.ensures.kept id x h)

pub returns-in_ok-both-in-Right-clause-tree : goal.returns-in_ok-both-in-Right-clause-tree
returns-in_ok-both-in-Right-clause-tree c =
    let own = tree_at c.args.pool.now c.args.own.0 in
    let x = body (condition c.args.cond.now) c.args.at.now in
    let k = c.in_ok-other-in-Right.ensures.kept in
    rw c.in-Right.is (of_two c.args.pool.now c.body_at.new.pool c.all_node.new.pool c.args.own.0 _ _
    own x All k (record { within = c.requires.within; is = refl })
    c.in_ok-other-in-Right.ensures.tree c.in_ok-both-in-Right.ensures.tree)

pub all_node-requires-in-Left-clause-right : goal.all_node-requires-in-Left-clause-right
all_node-requires-in-Left-clause-right c = (stays _ _ c.in_ok-other-in-Left.ensures.kept _ c.requires.within).within

pub returns-in_ok-both-in-Left-clause-kept : goal.returns-in_ok-both-in-Left-clause-kept
returns-in_ok-both-in-Left-clause-kept c id x h =
    c.in_ok-both-in-Left.ensures.kept id x (c.in_ok-other-in-Left.ensures.kept id x h)

pub returns-in_ok-both-in-Left-clause-tree : goal.returns-in_ok-both-in-Left-clause-tree
returns-in_ok-both-in-Left-clause-tree c =
    let own = tree_at c.args.pool.now c.args.own.0 in
    let x = body (condition c.args.cond.now) c.args.at.now in
    let k = c.in_ok-other-in-Left.ensures.kept in
    rw c.in-Left.is (of_two c.args.pool.now c.body_at-in-Left.new.pool c.all_node-in-Left.new.pool c.args.own.0 _ _
    own x (λ x y. All y x) k (record { within = c.requires.within; is = refl })
    c.in_ok-other-in-Left.ensures.tree c.in_ok-both-in-Left.ensures.tree)

pub all_node-requires-in-NotRight-clause-left : goal.all_node-requires-in-NotRight-clause-left
all_node-requires-in-NotRight-clause-left c = (stays _ _ c.in_ok-other-in-NotRight.ensures.kept _ c.requires.within).within

pub returns-in_ok-both-in-NotRight-clause-kept : goal.returns-in_ok-both-in-NotRight-clause-kept
returns-in_ok-both-in-NotRight-clause-kept c id x h =
    c.in_ok-both-in-NotRight.ensures.kept id x (c.in_ok-other-in-NotRight.ensures.kept id x h)

pub returns-in_ok-both-in-NotRight-clause-tree : goal.returns-in_ok-both-in-NotRight-clause-tree
returns-in_ok-both-in-NotRight-clause-tree c =
    let own = tree_at c.args.pool.now c.args.own.0 in
    let x = Not (body (condition c.args.cond.now) c.args.at.now) in
    let k = c.in_ok-other-in-NotRight.ensures.kept in
    rw c.in-NotRight.is (of_two c.args.pool.now c.not_body.new.pool c.all_node-in-NotRight.new.pool c.args.own.0 _ _
    own x All k (record { within = c.requires.within; is = refl })
    c.in_ok-other-in-NotRight.ensures.tree c.in_ok-both-in-NotRight.ensures.tree)

pub all_node-requires-in-NotLeft-clause-right : goal.all_node-requires-in-NotLeft-clause-right
all_node-requires-in-NotLeft-clause-right c = (stays _ _ c.in_ok-other-in-NotLeft.ensures.kept _ c.requires.within).within

pub returns-in_ok-both-in-NotLeft-clause-kept : goal.returns-in_ok-both-in-NotLeft-clause-kept
returns-in_ok-both-in-NotLeft-clause-kept c id x h =
    c.in_ok-both-in-NotLeft.ensures.kept id x (c.in_ok-other-in-NotLeft.ensures.kept id x h)

pub returns-in_ok-both-in-NotLeft-clause-tree : goal.returns-in_ok-both-in-NotLeft-clause-tree
returns-in_ok-both-in-NotLeft-clause-tree c =
    let own = tree_at c.args.pool.now c.args.own.0 in
    let x = Not (body (condition c.args.cond.now) c.args.at.now) in
    let k = c.in_ok-other-in-NotLeft.ensures.kept in
    rw c.in-NotLeft.is (of_two c.args.pool.now c.not_body-in-NotLeft.new.pool c.all_node-in-NotLeft.new.pool c.args.own.0 _ _
    own x (λ x y. All y x) k (record { within = c.requires.within; is = refl })
    c.in_ok-other-in-NotLeft.ensures.tree c.in_ok-both-in-NotLeft.ensures.tree)

pub returns-in_ok-none-in-NoneCome-clause-kept : goal.returns-in_ok-none-in-NoneCome-clause-kept
returns-in_ok-none-in-NoneCome-clause-kept c id x h = c.in_ok-none-in-NoneCome.ensures.kept id x
    (c.in_ok-some-in-NoneCome.ensures.kept id x (c.in_ok-other-in-NoneCome.ensures.kept id x h))
