use Rattle.std.proofs.Common.{rules, ◌∙◌, sym, ap, subst, ◌≤◌, ◌+◌}
use Rattle.tap_engine.specs.Standing.{look_refusal, digest_refusal, cached_named, RefusedAfter}
use Rattle.tap_engine.specs.Lists.{cached_digest}
use Rattle.tap_engine.proofs.ReadLaws.{digest-refuses, answers-digest}
use Rattle.tap_engine.specs.Costs.{cached_digest_work}
use Rattle.tap_engine.proofs.CostLaws.{most-digest}
use Rattle.tap_engine.proofs.engine.Engine.show_digest.Goals as goal

pub returns-in_err-lines-clause-refusal : goal.returns-in_err-lines-clause-refusal
returns-in_err-lines-clause-refusal g c =
    let by = digest-refuses c.args.self.now c.args.name c.args.ordinal c.in_err-lines.field-0.0 (subst
    (λ n. RefusedAfter (look_refusal c.args.self.now n) (digest_refusal c.args.self.now n c.args.ordinal) c.in_err-lines.field-0.0)
    c.as_slice.ensures c.in_err-lines.ensures.refusal) in
    search (rules, by)

pub returns-clause-ok : goal.returns-clause-ok
returns-clause-ok g c = record {
  answer = λ t represents sound. answers-digest c.args.self.now t c.args.name c.args.ordinal c.in_ok-lines.lines represents sound
      (sym (ap (λ n. digest_refusal c.args.self.now n c.args.ordinal) c.as_slice.ensures) ∙ c.in_ok-lines.ensures.look)
      (c.in_ok-lines.ensures.lines
      ∙ ap (λ n. cached_digest c.args.self.now n c.args.ordinal (cached_named c.args.self.now n)) c.as_slice.ensures);
  short = search rules;
  accepted = search rules;
}

pub returns-in_err-lines-clause-most : goal.returns-in_err-lines-clause-most
returns-in_err-lines-clause-most g c = most-digest c.args.self.now c.args.name c.args.ordinal c.digest_named.new.steps c.args.steps.now
    (subst (λ n. c.digest_named.new.steps ≤ c.args.steps.now + cached_digest_work c.args.ordinal (cached_named c.args.self.now n))
    c.as_slice.ensures c.digest_named.ensures.steps)

pub returns-clause-most : goal.returns-clause-most
returns-clause-most g c = most-digest c.args.self.now c.args.name c.args.ordinal c.digest_named.new.steps c.args.steps.now
    (subst (λ n. c.digest_named.new.steps ≤ c.args.steps.now + cached_digest_work c.args.ordinal (cached_named c.args.self.now n))
    c.as_slice.ensures c.digest_named.ensures.steps)
