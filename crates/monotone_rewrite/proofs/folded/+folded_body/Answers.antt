use Rattle.std.proofs.Common.{rules}
use Rattle.tap_base.specs.declared.numbers.Op.TheVariants.{Le}
use Rattle.tql_core.specs.declared.atom.Atom.TheVariants.{Times}
use Rattle.tql_core.specs.Condition.{condition}
use Rattle.tql_core.specs.Trees.{IsTreeAt}
use Rattle.time_marks.specs.Marks.{arrival_term, body}
use Rattle.monotone_rewrite.specs.Folding.{known, fold_atom, fold_all, fold}
use Rattle.monotone_rewrite.proofs.SharedNodes.{all_known, either_known, exists_known}
use Rattle.monotone_rewrite.proofs.folded.+folded_body.Goals as goal

pub shared_all-requires-clause-left : goal.shared_all-requires-clause-left
shared_all-requires-clause-left t c = (c.in_ok-right-in-All.ensures.kept _ _ c.in_ok-left-in-All.ensures.tree).within

pub shared_either-requires-clause-left : goal.shared_either-requires-clause-left
shared_either-requires-clause-left t c = (c.in_ok-right-in-Either.ensures.kept _ _ c.in_ok-left-in-Either.ensures.tree).within

pub shared_all-requires-in-Exists-clause-left : goal.shared_all-requires-in-Exists-clause-left
shared_all-requires-in-Exists-clause-left t c = (c.in_ok-inner-in-Exists.ensures.kept _ _ c.in_ok-here-in-Exists.ensures.tree).within

pub returns-in_ok-both-in-All-clause-kept : goal.returns-in_ok-both-in-All-clause-kept
returns-in_ok-both-in-All-clause-kept t c id x h =
    c.in_ok-both-in-All.ensures.kept id x (c.in_ok-right-in-All.ensures.kept id x (c.in_ok-left-in-All.ensures.kept id x h))

pub returns-in_ok-both-in-All-clause-tree : goal.returns-in_ok-both-in-All-clause-tree
returns-in_ok-both-in-All-clause-tree t c =
    let at = c.args.at.now in
    let x = fold at (body (condition c.in-All.l.value) at) in
    let y = fold at (body (condition c.in-All.r.value) at) in
    let left : IsTreeAt c.folded_body.new.pool c.in_ok-left-in-All.left.0 x = search rules in
    let right : IsTreeAt c.folded_body-in-All.new.pool c.in_ok-right-in-All.right.0 y = search rules in
    rw c.in-All.is (all_known c.folded_body-in-All.new.pool c.shared_all.new.pool _ _ _ x y (c.in_ok-right-in-All.ensures.kept _ _ left)
    right c.in_ok-both-in-All.ensures.tree)

pub returns-in_ok-either-in-Either-clause-kept : goal.returns-in_ok-either-in-Either-clause-kept
returns-in_ok-either-in-Either-clause-kept t c id x h =
    c.in_ok-either-in-Either.ensures.kept id x (c.in_ok-right-in-Either.ensures.kept id x (c.in_ok-left-in-Either.ensures.kept id x h))

pub returns-in_ok-either-in-Either-clause-tree : goal.returns-in_ok-either-in-Either-clause-tree
returns-in_ok-either-in-Either-clause-tree t c =
    let at = c.args.at.now in
    let x = fold at (body (condition c.in-Either.l.value) at) in
    let y = fold at (body (condition c.in-Either.r.value) at) in
    let left : IsTreeAt c.folded_body-in-Either.new.pool c.in_ok-left-in-Either.left.0 x = search rules in
    let right : IsTreeAt c.folded_body-in-Either-2.new.pool c.in_ok-right-in-Either.right.0 y = search rules in
    rw c.in-Either.is (either_known c.folded_body-in-Either-2.new.pool c.shared_either.new.pool _ _ _ x y
    (c.in_ok-right-in-Either.ensures.kept _ _ left) right c.in_ok-either-in-Either.ensures.tree)

pub returns-in_ok-opposite-in-Not-clause-kept : goal.returns-in_ok-opposite-in-Not-clause-kept
returns-in_ok-opposite-in-Not-clause-kept t c id x h = c.in_ok-opposite-in-Not.ensures.kept id x (c.in_ok-inner-in-Not.ensures.kept id x h)

pub returns-in_ok-some-in-Exists-clause-kept : goal.returns-in_ok-some-in-Exists-clause-kept
returns-in_ok-some-in-Exists-clause-kept t c id x h = c.in_ok-some-in-Exists.ensures.kept id x
    (c.in_ok-both-in-Exists.ensures.kept id x (c.in_ok-inner-in-Exists.ensures.kept id x (c.in_ok-here-in-Exists.ensures.kept id x h)))

pub returns-in_ok-some-in-Exists-clause-tree : goal.returns-in_ok-some-in-Exists-clause-tree
returns-in_ok-some-in-Exists-clause-tree t c =
    let at = c.args.at.now in
    let come = fold_atom at (Times (arrival_term c.in-Exists.var) Le at) in
    let x = fold at (body (condition c.in-Exists.x.value) at) in
    let here : IsTreeAt c.folded_atom-in-Exists.new.pool c.in_ok-here-in-Exists.here.0 come = search rules in
    let inner : IsTreeAt c.folded_body-in-Exists.new.pool c.in_ok-inner-in-Exists.inner.0 x = search rules in
    let both = all_known c.folded_body-in-Exists.new.pool c.shared_all-in-Exists.new.pool _ _ _ come x
    (c.in_ok-inner-in-Exists.ensures.kept _ _ here) inner c.in_ok-both-in-Exists.ensures.tree in
    rw c.in-Exists.is (exists_known c.shared_all-in-Exists.new.pool c.shared_exists.new.pool _ _
    c.in-Exists.var c.in-Exists.table (fold_all (known come) (known x) come x) both c.in_ok-some-in-Exists.ensures.tree)
