use Rattle.std.proofs.Common.{rules, ◌≡◌, ◌≤◌, ◌+◌, Some, sym, subst, if◌then◌else◌}
use Rattle.query_eval.specs.Lowest.{has_lower}
use Rattle.query_eval.proofs.Settled.{new_settled}
use Rattle.probe_eval.specs.Nested.{new_doc, cost_here}
use Rattle.probe_eval.specs.Searches.{searched}
use Rattle.query_eval.proofs.nested.collect_pair.Goals as goal

pub returns-in-Some-clause-steps : goal.returns-in-Some-clause-steps
returns-in-Some-clause-steps g c =
    let cost = cost_here c.args.search.now.index.now (searched c.args.search.now) c.args.mark c.args.sure c.args.order.now c.args.env.now in
    let n : Some c.in-Some.num ≡ new_doc c.args.search.now.seen.now c.args.doc.now = search rules in
    let s : c.collect_new.new.steps ≤ c.args.steps.now
    + (if has_lower c.args.into.now.hits.items (record { doc = c.in-Some.num; first = c.args.mark }) then 0 else cost) = search rules in
    subst (λ f. c.collect_new.new.steps ≤ c.args.steps.now + (if f then 0 else cost))
    (sym (new_settled c.args.search.now.seen.now c.args.into.now.hits.items c.args.mark c.args.doc.now c.in-Some.num n)) s
