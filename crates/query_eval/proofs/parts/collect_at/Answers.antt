use Rattle.std.proofs.Common.{rules, ◌≡◌, ◌≤◌, ◌+◌, Some, false, subst, to_z, of_z, w64}
use Rattle.tql_core.specs.Values.{value}
use Rattle.probe_eval.specs.Drivers.{mark_in, marked_cost}
use Rattle.probe_eval.specs.Nested.{work_over}
use Rattle.probe_eval.specs.Searches.{searched}
use Rattle.query_eval.specs.Driven.{is_settled}
use Rattle.query_eval.proofs.parts.collect_at.Goals as goal

pub returns-in-Some-clause-steps : goal.returns-in-Some-clause-steps
returns-in-Some-clause-steps g c =
    let p = searched c.args.search.now in
    let T = c.args.search.now.index.now in
    let settled = is_settled c.args.search.now.seen.now c.args.into.now.hits.items in
    let same : to_z w64 (of_z w64 c.in-Some.mark) ≡ c.in-Some.mark = search rules in
    let m : Some c.in-Some.mark ≡ mark_in c.args.w (value p.at c.args.env.now) = search rules in
    let by = c.collect_hits.ensures.steps (settled (to_z w64 (of_z w64 c.in-Some.mark))) (λ d h. h) in
    let s : c.collect_hits.new.steps ≤ c.args.steps.now + marked_cost settled T c.args.w p c.args.order.now c.args.env.now
    (Some c.in-Some.mark) =
    subst (λ b. c.collect_hits.new.steps ≤ c.args.steps.now + work_over (settled b) T p b false c.args.order.now c.args.env.now) same by in
    subst (λ o. c.collect_hits.new.steps
    ≤ c.args.steps.now + marked_cost settled T c.args.w p c.args.order.now c.args.env.now o) m s
