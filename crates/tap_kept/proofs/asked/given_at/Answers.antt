use Rattle.std.proofs.Common.{rules, ◌≡◌, ◌∙◌, ap, ap₂, subst, IfOk, ℤ, pos, ◌+ℤ◌, w64, to_z, of_z}
use Rattle.time_marks.specs.declared.window.Window.{Window}
use Rattle.tql_core.specs.Condition.{condition}
use Rattle.time_marks.specs.Views.{ranged_probes}
use Rattle.tap_model.specs.Queries.{probes_from}
use Rattle.tap_kept.proofs.AskedLaws.{given-docs, given-steps}
use Rattle.tap_kept.proofs.asked.given_at.Goals as goal

abbrev at : ℤ → ℤ → Window
at low high = record { low = low; high = high }

pub returns-in_err-hits-clause-steps : goal.returns-in_err-hits-clause-steps
returns-in_err-hits-clause-steps g c =
    let s = c.args.second in
    let low : to_z w64 (of_z w64 s) ≡ s = search rules in
    let is : ranged_probes c.in_ok-plan.plan.query
    ≡ probes_from (condition c.args.cond.now) (to_z w64 (of_z w64 s)) = search rules in
    let here = is ∙ ap (λ (z : ℤ). probes_from (condition c.args.cond.now) z) low in
    let plus : to_z w64 (of_z w64 (s +ℤ pos 1)) ≡ s +ℤ pos 1 = search rules in
    let high = ap (λ (z : ℤ). to_z w64 (of_z w64 (z +ℤ pos 1))) low ∙ plus in
    given-steps (condition c.args.cond.now) s c.args.index.now _ _ c.in_ok-plan.plan.query _ _ c.new-none.ensures here (ap₂ at low high)
    c.run-found.ensures.steps

pub returns-clause-docs : goal.returns-clause-docs
returns-clause-docs g c =
    let s = c.args.second in
    let low : to_z w64 (of_z w64 s) ≡ s = search rules in
    let is : ranged_probes c.in_ok-plan.plan.query
    ≡ probes_from (condition c.args.cond.now) (to_z w64 (of_z w64 s)) = search rules in
    let here = is ∙ ap (λ (z : ℤ). probes_from (condition c.args.cond.now) z) low in
    let plus : to_z w64 (of_z w64 (s +ℤ pos 1)) ≡ s +ℤ pos 1 = search rules in
    let high = ap (λ (z : ℤ). to_z w64 (of_z w64 (z +ℤ pos 1))) low ∙ plus in
    let same : c.as_slice.result.now ≡ c.in_ok-hits.hits = search rules in
    subst (λ ys. IfOk c.docs_of-docs.result (λ docs. docs ≡ ys))
    (given-docs (condition c.args.cond.now) s c.args.index.now _ _ _ c.as_slice.result.now c.requires.scoped c.requires.second.0
    c.docs-docs.ensures.arrived c.new-none.ensures here (ap₂ at low high) (same ∙ c.in_ok-hits.ensures.hits))
    c.docs_of-docs.ensures

pub returns-clause-steps : goal.returns-clause-steps
returns-clause-steps g c =
    let s = c.args.second in
    let low : to_z w64 (of_z w64 s) ≡ s = search rules in
    let is : ranged_probes c.in_ok-plan.plan.query
    ≡ probes_from (condition c.args.cond.now) (to_z w64 (of_z w64 s)) = search rules in
    let here = is ∙ ap (λ (z : ℤ). probes_from (condition c.args.cond.now) z) low in
    let plus : to_z w64 (of_z w64 (s +ℤ pos 1)) ≡ s +ℤ pos 1 = search rules in
    let high = ap (λ (z : ℤ). to_z w64 (of_z w64 (z +ℤ pos 1))) low ∙ plus in
    given-steps (condition c.args.cond.now) s c.args.index.now _ _ c.in_ok-plan.plan.query _ _ c.new-none.ensures here (ap₂ at low high)
    c.run-found.ensures.steps
