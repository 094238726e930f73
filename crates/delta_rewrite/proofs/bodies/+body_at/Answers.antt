use Rattle.std.proofs.Common.{rules}
use Rattle.tap_base.specs.declared.numbers.Op.TheVariants.{Le}
use Rattle.tql_core.specs.declared.atom.Atom.TheVariants.{Times}
use Rattle.tql_core.specs.Condition.{condition, Plain, All, Either, Exists}
use Rattle.tql_core.specs.Trees.{IsTreeAt}
use Rattle.time_marks.specs.Marks.{arrival_term, body}
use Rattle.delta_rewrite.proofs.Parts.{of_one, of_two}
use Rattle.delta_rewrite.proofs.bodies.+body_at.Goals as goal

pub all_node-requires-clause-left : goal.all_node-requires-clause-left
all_node-requires-clause-left t c = (c.in_ok-right-in-All.ensures.kept _ _ c.in_ok-left-in-All.ensures.tree).within

pub either_node-requires-clause-left : goal.either_node-requires-clause-left
either_node-requires-clause-left t c = (c.in_ok-right-in-Either.ensures.kept _ _ c.in_ok-left-in-Either.ensures.tree).within

pub all_node-requires-in-Exists-clause-left : goal.all_node-requires-in-Exists-clause-left
all_node-requires-in-Exists-clause-left t c = (c.in_ok-inner-in-Exists.ensures.kept _ _ c.in_ok-here-in-Exists.ensures.tree).within

pub returns-in_ok-both-in-All-clause-kept : goal.returns-in_ok-both-in-All-clause-kept
returns-in_ok-both-in-All-clause-kept t c id x h =
    c.in_ok-both-in-All.ensures.kept id x (c.in_ok-right-in-All.ensures.kept id x (c.in_ok-left-in-All.ensures.kept id x h))

pub returns-in_ok-both-in-All-clause-tree : goal.returns-in_ok-both-in-All-clause-tree
returns-in_ok-both-in-All-clause-tree t c =
    let at = c.args.at.now in
    let x = body (condition c.in-All.l.value) at in
    let y = body (condition c.in-All.r.value) at in
    let left : IsTreeAt c.body_at.new.pool c.in_ok-left-in-All.left.0 x = search rules in
    let right : IsTreeAt c.body_at-in-All.new.pool c.in_ok-right-in-All.right.0 y = search rules in
    rw c.in-All.is (of_two _ c.body_at-in-All.new.pool c.all_node.new.pool _ _ _ x y All c.in_ok-right-in-All.ensures.kept left
    right c.in_ok-both-in-All.ensures.tree)

pub returns-in_ok-either-in-Either-clause-kept : goal.returns-in_ok-either-in-Either-clause-kept
returns-in_ok-either-in-Either-clause-kept t c id x h =
    c.in_ok-either-in-Either.ensures.kept id x (c.in_ok-right-in-Either.ensures.kept id x (c.in_ok-left-in-Either.ensures.kept id x h))

pub returns-in_ok-either-in-Either-clause-tree : goal.returns-in_ok-either-in-Either-clause-tree
returns-in_ok-either-in-Either-clause-tree t c =
    let at = c.args.at.now in
    let x = body (condition c.in-Either.l.value) at in
    let y = body (condition c.in-Either.r.value) at in
    let left : IsTreeAt c.body_at-in-Either.new.pool c.in_ok-left-in-Either.left.0 x = search rules in
    let right : IsTreeAt c.body_at-in-Either-2.new.pool c.in_ok-right-in-Either.right.0 y = search rules in
    rw c.in-Either.is (of_two _ c.body_at-in-Either-2.new.pool c.either_node.new.pool _ _ _ x y Either c.in_ok-right-in-Either.ensures.kept
    left right c.in_ok-either-in-Either.ensures.tree)

pub returns-in_ok-opposite-in-Not-clause-kept : goal.returns-in_ok-opposite-in-Not-clause-kept
returns-in_ok-opposite-in-Not-clause-kept t c id x h = c.in_ok-opposite-in-Not.ensures.kept id x (c.in_ok-inner-in-Not.ensures.kept id x h)

pub returns-in_ok-some-in-Exists-clause-kept : goal.returns-in_ok-some-in-Exists-clause-kept
returns-in_ok-some-in-Exists-clause-kept t c id x h = c.in_ok-some-in-Exists.ensures.kept id x
    (c.in_ok-both-in-Exists.ensures.kept id x (c.in_ok-inner-in-Exists.ensures.kept id x (c.in_ok-here-in-Exists.ensures.kept id x h)))

pub returns-in_ok-some-in-Exists-clause-tree : goal.returns-in_ok-some-in-Exists-clause-tree
returns-in_ok-some-in-Exists-clause-tree t c =
    let at = c.args.at.now in
    let come = Plain (Times (arrival_term c.in-Exists.var) Le at) in
    let x = body (condition c.in-Exists.x.value) at in
    let here : IsTreeAt c.intern_node-in-Exists.new.pool c.in_ok-here-in-Exists.here.0 come = search rules in
    let inner : IsTreeAt c.body_at-in-Exists.new.pool c.in_ok-inner-in-Exists.inner.0 x = search rules in
    let both = of_two _ c.body_at-in-Exists.new.pool c.all_node-in-Exists.new.pool _ _ _ come x All c.in_ok-inner-in-Exists.ensures.kept
    here inner c.in_ok-both-in-Exists.ensures.tree in
    rw c.in-Exists.is (of_one c.all_node-in-Exists.new.pool c.exists_node.new.pool _ _ (All come x)
    (Exists c.in-Exists.var c.in-Exists.table) both c.in_ok-some-in-Exists.ensures.tree)
