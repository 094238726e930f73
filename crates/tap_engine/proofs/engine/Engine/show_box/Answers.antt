use Rattle.std.proofs.Common.{rules, ◌∙◌, sym, ap, subst}
use Rattle.tap_engine.specs.Standing.{look_refusal, cached_named, cached_entries, RefusedBy}
use Rattle.tap_engine.proofs.CheckLaws.{box-refuses, answers-box}
use Rattle.tap_engine.proofs.engine.Engine.show_box.Goals as goal

pub returns-in_err-entries-clause-refusal : goal.returns-in_err-entries-clause-refusal
returns-in_err-entries-clause-refusal c =
    let by = box-refuses c.args.self.now c.args.name c.in_err-entries.field-0.0 (subst (λ n.
    RefusedBy (look_refusal c.args.self.now n) c.in_err-entries.field-0.0) c.as_slice.ensures c.in_err-entries.ensures.refusal) in
    search (rules, by)

pub returns-clause-ok : goal.returns-clause-ok
returns-clause-ok c = record {
  answer = λ t represents sound. answers-box c.args.self.now t c.args.name c.in_ok-entries.entries represents sound
      (sym (ap (look_refusal c.args.self.now) c.as_slice.ensures) ∙ c.in_ok-entries.ensures.look)
      (c.in_ok-entries.ensures.entries ∙ ap (λ n. cached_entries (cached_named c.args.self.now n)) c.as_slice.ensures);
  short = search rules;
  accepted = search rules;
}
