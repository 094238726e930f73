use Rattle.std.proofs.Common.{◌≡◌, rules, [], ◌∷◌}
use Rattle.tql_tree.specs.declared.table.Table.TheVariants.{Docs}
use Rattle.tql_core.specs.Condition.{condition}
use Rattle.time_marks.specs.Marks.{document_var, step_of}
use Rattle.time_marks.specs.Views.{probes_in}
use Rattle.delta_rewrite.specs.Asking.{probes_below}
use Rattle.delta_rewrite.proofs.Stepped.{under_kept, under_probes}
use Rattle.delta_rewrite.proofs.window.unsettled.Goals as goal

pub returns-clause-kept : goal.returns-clause-kept
returns-clause-kept c =
    let step = step_of document_var Docs (condition c.args.cond.now) in
    let s : c.in_ok-steps.steps ≡ step ∷ [] = search rules in
    under_kept c.probes_below.new.pool step c.in_ok-steps.steps c.in_ok-below.below c.in_ok-out.out s c.in_ok-out.ensures
    c.in_ok-below.ensures.kept

pub returns-clause-probes : goal.returns-clause-probes
returns-clause-probes c =
    let step = step_of document_var Docs (condition c.args.cond.now) in
    let s : c.in_ok-steps.steps ≡ step ∷ [] = search rules in
    let X = probes_below (condition c.args.cond.now) c.args.start in
    let below : probes_in c.probes_below.new.pool c.in_ok-below.below ≡ X = search rules in
    under_probes c.probes_below.new.pool step c.in_ok-steps.steps c.in_ok-below.below c.in_ok-out.out X s c.in_ok-out.ensures below
