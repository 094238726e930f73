use Rattle.std.proofs.Common.{rules, ◌≡◌, ◌≤◌, ◌+◌, true, false, Some, length, refl}
use Rattle.query_eval.specs.Lowest.{with_hit, has_lower}
use Rattle.query_eval.proofs.Settled.{not_found, not_settled}
use Rattle.probe_eval.specs.Nested.{holds_here, cost_here}
use Rattle.query_eval.proofs.HitSteps.{left_out, not_passed}
use Rattle.probe_eval.specs.Searches.{searched}
use Rattle.query_eval.proofs.nested.collect_new.Goals as goal

pub returns-then-has_lower-clause-hits : goal.returns-then-has_lower-clause-hits
returns-then-has_lower-clause-hits g c =
    let h : c.has_lower.result ≡ true = search rules in
    let by = c.has_lower.ensures.same h in
    let k : with_hit (length c.args.into.now.places.items) c.args.into.now.hits.items (record { doc = c.args.num; first = c.args.mark })
    ≡ c.args.into.now.hits.items = search (rules, by) in
    left_out (length c.args.into.now.places.items) c.args.into.now.hits.items _ c.args.mark (Some c.args.num) c.args.num refl k

pub returns-in-False-clause-hits : goal.returns-in-False-clause-hits
returns-in-False-clause-hits g c =
    let x : holds_here c.args.search.now.index.now (searched c.args.search.now) c.args.mark c.args.order.now c.args.env.now ≡ false =
    search rules in
    not_passed (length c.args.into.now.places.items) c.args.into.now.hits.items _ c.args.mark (Some c.args.num) x

pub returns-in-Never-clause-hits : goal.returns-in-Never-clause-hits
returns-in-Never-clause-hits g c =
    let x : holds_here c.args.search.now.index.now (searched c.args.search.now) c.args.mark c.args.order.now c.args.env.now ≡ false =
    search rules in
    not_passed (length c.args.into.now.places.items) c.args.into.now.hits.items _ c.args.mark (Some c.args.num) x

pub returns-in-True-clause-steps : goal.returns-in-True-clause-steps
returns-in-True-clause-steps g c =
    let h : c.has_lower.result ≡ false = search rules in
    let by = c.has_lower.ensures.found in
    let n : has_lower c.args.into.now.hits.items (record { doc = c.args.num; first = c.args.mark }) ≡ false =
    not_found (has_lower c.args.into.now.hits.items (record { doc = c.args.num; first = c.args.mark })) c.has_lower.result
    (search (rules, by)) h in
    let s : c.answer_here.new.steps ≤ c.args.steps.now + cost_here c.args.search.now.index.now (searched c.args.search.now)
    c.args.mark c.args.sure c.args.order.now c.args.env.now = search rules in
    not_settled (has_lower c.args.into.now.hits.items (record { doc = c.args.num; first = c.args.mark }))
    c.args.steps.now c.answer_here.new.steps _ n s

pub returns-in-False-clause-steps : goal.returns-in-False-clause-steps
returns-in-False-clause-steps g c =
    let h : c.has_lower.result ≡ false = search rules in
    let by = c.has_lower.ensures.found in
    let n : has_lower c.args.into.now.hits.items (record { doc = c.args.num; first = c.args.mark }) ≡ false =
    not_found (has_lower c.args.into.now.hits.items (record { doc = c.args.num; first = c.args.mark })) c.has_lower.result
    (search (rules, by)) h in
    let s : c.answer_here.new.steps ≤ c.args.steps.now + cost_here c.args.search.now.index.now (searched c.args.search.now)
    c.args.mark c.args.sure c.args.order.now c.args.env.now = search rules in
    not_settled (has_lower c.args.into.now.hits.items (record { doc = c.args.num; first = c.args.mark }))
    c.args.steps.now c.answer_here.new.steps _ n s

pub returns-in-Never-clause-steps : goal.returns-in-Never-clause-steps
returns-in-Never-clause-steps g c =
    let h : c.has_lower.result ≡ false = search rules in
    let by = c.has_lower.ensures.found in
    let n : has_lower c.args.into.now.hits.items (record { doc = c.args.num; first = c.args.mark }) ≡ false =
    not_found (has_lower c.args.into.now.hits.items (record { doc = c.args.num; first = c.args.mark })) c.has_lower.result
    (search (rules, by)) h in
    let s : c.answer_here.new.steps ≤ c.args.steps.now + cost_here c.args.search.now.index.now (searched c.args.search.now)
    c.args.mark c.args.sure c.args.order.now c.args.env.now = search rules in
    not_settled (has_lower c.args.into.now.hits.items (record { doc = c.args.num; first = c.args.mark }))
    c.args.steps.now c.answer_here.new.steps _ n s
