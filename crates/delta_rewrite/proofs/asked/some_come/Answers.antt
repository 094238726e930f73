use Rattle.std.proofs.Common.{rules}
use Rattle.tap_base.specs.declared.numbers.Op.TheVariants.{Le}
use Rattle.tql_core.specs.declared.atom.Atom.TheVariants.{Times}
use Rattle.tql_core.specs.Condition.{Plain, All, Exists}
use Rattle.tql_core.specs.Trees.{tree_at, IsTreeAt}
use Rattle.time_marks.specs.Marks.{arrival_term}
use Rattle.delta_rewrite.proofs.Parts.{stays, of_one, of_two}
use Rattle.delta_rewrite.proofs.asked.some_come.Goals as goal

pub all_node-requires-clause-right : goal.all_node-requires-clause-right
all_node-requires-clause-right c = (stays _ _ c.in_ok-here.ensures.kept _ c.requires).within

pub returns-clause-kept : goal.returns-clause-kept
returns-clause-kept c id x h = c.in_ok-some.ensures.kept id x (c.in_ok-both.ensures.kept id x (c.in_ok-here.ensures.kept id x h))

pub returns-clause-tree : goal.returns-clause-tree
returns-clause-tree c =
    let mid = c.intern_node.new.pool in
    let own = tree_at c.args.pool.now c.args.own.0 in
    let come = Plain (Times (arrival_term c.args.var) Le c.args.at.now) in
    let here : IsTreeAt mid c.in_ok-here.here.0 come = search rules in
    let there = stays c.args.pool.now mid c.in_ok-here.ensures.kept c.args.own.0 c.requires in
    let both = of_two mid mid c.all_node.new.pool _ _ _ come own All (λ id x h. h) here there c.in_ok-both.ensures.tree in
    of_one c.all_node.new.pool c.exists_node.new.pool _ _ (All come own) (Exists c.args.var c.args.table) both c.in_ok-some.ensures.tree
