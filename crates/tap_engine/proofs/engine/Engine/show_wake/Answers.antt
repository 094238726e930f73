use Rattle.std.proofs.Common.{rules, ◌∙◌, sym, ap, subst, ◌≤◌, ◌+◌}
use Rattle.tap_engine.specs.Standing.{wake_refusal, cached_named, cached_wake, RefusedBy}
use Rattle.tap_engine.proofs.ReadLaws.{wake-refuses, answers-wake}
use Rattle.tap_engine.specs.Costs.{cached_wake_work}
use Rattle.tap_engine.proofs.CostLaws.{most-wake}
use Rattle.tap_engine.proofs.engine.Engine.show_wake.Goals as goal

pub returns-in_err-moment-clause-refusal : goal.returns-in_err-moment-clause-refusal
returns-in_err-moment-clause-refusal g c =
    let by = wake-refuses c.args.self.now c.args.name c.in_err-moment.field-0.0 (subst
    (λ n. RefusedBy (wake_refusal c.args.self.now n) c.in_err-moment.field-0.0) c.as_slice.ensures c.in_err-moment.ensures.refusal) in
    search (rules, by)

pub returns-clause-ok : goal.returns-clause-ok
returns-clause-ok g c = record {
  answer = λ t represents sound. answers-wake c.args.self.now t c.args.name c.in_ok-moment.moment represents sound
      (sym (ap (wake_refusal c.args.self.now) c.as_slice.ensures) ∙ c.in_ok-moment.ensures.look)
      (c.in_ok-moment.ensures.moment ∙ ap (λ n. cached_wake c.args.self.now (cached_named c.args.self.now n)) c.as_slice.ensures);
  short = search rules;
  accepted = search rules;
}

pub returns-in_err-moment-clause-most : goal.returns-in_err-moment-clause-most
returns-in_err-moment-clause-most g c =
    most-wake c.args.self.now c.args.name c.wake_named.new.steps c.args.steps.now (subst (λ n. c.wake_named.new.steps ≤ c.args.steps.now
    + cached_wake_work c.args.self.now (cached_named c.args.self.now n)) c.as_slice.ensures c.wake_named.ensures.steps)

pub returns-clause-most : goal.returns-clause-most
returns-clause-most g c =
    most-wake c.args.self.now c.args.name c.wake_named.new.steps c.args.steps.now (subst (λ n. c.wake_named.new.steps ≤ c.args.steps.now
    + cached_wake_work c.args.self.now (cached_named c.args.self.now n)) c.as_slice.ensures c.wake_named.ensures.steps)
