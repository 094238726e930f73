use Rattle.std.proofs.Common.{rules, ◌≡◌, ◌≤◌, ◌+◌, Some}
use Rattle.probe_eval.specs.Nested.{new_doc, cost_here}
use Rattle.probe_eval.specs.Searches.{searched}
use Rattle.wake_plan.proofs.DeliverLaws.{unseen_cost}
use Rattle.wake_plan.proofs.delivers.delivers_pair.Goals as goal

pub returns-in-Some-clause-steps : goal.returns-in-Some-clause-steps
returns-in-Some-clause-steps g c =
    let n : Some c.in-Some.field-0 ≡ new_doc c.args.search.now.seen.now c.args.doc.now = search rules in
    let s : c.holds_here.new.steps ≤ c.args.steps.now + cost_here c.args.search.now.index.now (searched c.args.search.now)
    c.args.mark c.args.sure c.args.order.now c.args.env.now = search rules in
    unseen_cost c.args.search.now.seen.now c.args.doc.now c.in-Some.field-0 n c.args.steps.now c.holds_here.new.steps _ s
