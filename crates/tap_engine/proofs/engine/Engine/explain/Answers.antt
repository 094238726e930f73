use Rattle.std.proofs.Common.{rules, ◌∙◌, sym, ap, subst}
use Rattle.tap_engine.specs.Standing.{look_refusal, cached_named, RefusedBy}
use Rattle.tap_engine.specs.Lists.{cached_lines}
use Rattle.tap_engine.proofs.FilterLaws.{lines-refuses, answers-lines}
use Rattle.tap_engine.proofs.engine.Engine.explain.Goals as goal

pub returns-in_err-lines-clause-refusal : goal.returns-in_err-lines-clause-refusal
returns-in_err-lines-clause-refusal c =
    let by = lines-refuses c.args.self.now c.args.name c.in_err-lines.field-0.0 (subst
    (λ n. RefusedBy (look_refusal c.args.self.now n) c.in_err-lines.field-0.0) c.as_slice.ensures c.in_err-lines.ensures.refusal) in
    search (rules, by)

pub returns-clause-ok : goal.returns-clause-ok
returns-clause-ok c = record {
  answer = λ t represents sound. answers-lines c.args.self.now t c.args.name c.in_ok-lines.lines represents
      (sym (ap (look_refusal c.args.self.now) c.as_slice.ensures) ∙ c.in_ok-lines.ensures.look)
      (c.in_ok-lines.ensures.lines ∙ ap (λ n. cached_lines (cached_named c.args.self.now n)) c.as_slice.ensures);
  short = search rules;
  accepted = search rules;
}
