use Rattle.std.proofs.Common.{rules, ◌∙◌, sym, ap, subst, ◌≤◌, ◌+◌}
use Rattle.tap_engine.specs.Standing.{look_refusal, cached_named, RefusedBy}
use Rattle.tap_engine.specs.Lists.{cached_rows}
use Rattle.tap_engine.proofs.FilterLaws.{list-refuses, answers-list}
use Rattle.tap_engine.specs.Costs.{cached_list_work}
use Rattle.tap_engine.proofs.CostLaws.{most-list}
use Rattle.tap_engine.proofs.engine.Engine.show_list.Goals as goal

pub returns-in_err-rows-clause-refusal : goal.returns-in_err-rows-clause-refusal
returns-in_err-rows-clause-refusal g c =
    let by = list-refuses c.args.self.now c.args.name c.in_err-rows.field-0.0 (subst
    (λ n. RefusedBy (look_refusal c.args.self.now n) c.in_err-rows.field-0.0) c.as_slice.ensures c.in_err-rows.ensures.refusal) in
    search (rules, by)

pub returns-clause-ok : goal.returns-clause-ok
returns-clause-ok g c = record {
  answer = λ t represents sound. answers-list c.args.self.now t c.args.name c.in_ok-rows.rows represents sound
      (sym (ap (look_refusal c.args.self.now) c.as_slice.ensures) ∙ c.in_ok-rows.ensures.look)
      (c.in_ok-rows.ensures.rows ∙ ap (λ n. cached_rows c.args.self.now (cached_named c.args.self.now n)) c.as_slice.ensures);
  short = search rules;
  accepted = search rules;
}

pub returns-in_err-rows-clause-most : goal.returns-in_err-rows-clause-most
returns-in_err-rows-clause-most g c =
    most-list c.args.self.now c.args.name c.rows_named.new.steps c.args.steps.now (subst (λ n. c.rows_named.new.steps
    ≤ c.args.steps.now + cached_list_work (cached_named c.args.self.now n)) c.as_slice.ensures c.rows_named.ensures.steps)

pub returns-clause-most : goal.returns-clause-most
returns-clause-most g c = most-list c.args.self.now c.args.name c.rows_named.new.steps c.args.steps.now (subst (λ n. c.rows_named.new.steps
    ≤ c.args.steps.now + cached_list_work (cached_named c.args.self.now n)) c.as_slice.ensures c.rows_named.ensures.steps)
