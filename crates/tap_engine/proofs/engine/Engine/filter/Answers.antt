use Rattle.std.proofs.Common.{rules, ◌∙◌, sym, ap, length, ◌∷◌, []}
use Rattle.tap_engine.proofs.UndoLaws.{undo-filter}
use Rattle.tap_engine.proofs.MemoryRefusals.{filter-memory}
use Rattle.tap_engine.proofs.FilterLaws.{filter-verdict, filter-refuses, filter-moment, answers-filter, represents-filter}
use Rattle.tap_engine.proofs.engine.Engine.filter.Goals as goal

pub returns-in_err-row-clause-refusal : goal.returns-in_err-row-clause-refusal
returns-in_err-row-clause-refusal c =
    let by = filter-refuses c.args.self.now c.args.block _ c.in_err-row.ensures.refusal in
    search (rules, by)

pub returns-in_err-change-clause-refusal : goal.returns-in_err-change-clause-refusal
returns-in_err-change-clause-refusal c =
    let by = filter-memory c.args.self.now c.args.block c.in_ok-row.ensures.checks in
    search (rules, by)

pub returns-clause-ok : goal.returns-clause-ok
returns-clause-ok c = record {
  answer = λ t represents sound.
      let none = sym (filter-verdict c.args.self.now t c.args.block represents) ∙ c.in_ok-row.ensures.checks in
      answers-filter t c.args.self.now.session c.args.block (length c.args.self.now.filters)
      c.len-count.result c.in_ok-row.row c.in_ok-change.change c.add_filter.new.self.session none
      (ap length represents.filters) c.in_ok-row.ensures.row (c.len-count.ensures ∙ ap length c.in_ok-row.ensures.rules)
      c.in_ok-change.ensures.change (ap (λ e. e.session) c.in_ok-change.ensures.engine);
  represents = λ t represents sound.
      rw (c.in_ok-change.ensures.engine, c.in_ok-change.ensures.change)
      (represents-filter c.args.self.now t c.in_ok-row.row represents
      (filter-moment c.args.self.now c.args.block c.in_ok-row.ensures.checks));
  undo = rw c.in_ok-change.ensures.engine
      (undo-filter c.args.self.now (c.in_ok-row.row ∷ []) c.in_ok-row.row.owner _
      c.len.result c.len-2.result c.len.ensures c.len-2.ensures);
  ready = rw c.in_ok-change.ensures.engine (record {
    docs = c.requires.ready.docs;
    notes = c.requires.ready.notes;
    queries = c.requires.ready.queries;
    moment = c.requires.ready.moment;
    room = c.requires.ready.room;
    fronts = c.requires.ready.fronts;
  });
  running = search rules;
  short = search rules;
  accepted = search rules;
}
