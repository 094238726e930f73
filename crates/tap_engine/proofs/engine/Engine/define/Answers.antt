use Rattle.std.proofs.Common.{rules, arith, ◌≡◌, ◌∙◌, sym, ap, subst, length, ◌+◌, ◌∷◌, []}
use Rattle.std.proofs.lemmas.List.{length-map}
use Rattle.tap_kept.specs.Keeping.{cached_query, never_run}
use Rattle.tap_kept.proofs.BoxFrontLaws.{fronts-query}
use Rattle.tap_engine.proofs.UndoLaws.{undo-query}
use Rattle.tap_engine.proofs.MemoryRefusals.{define-memory}
use Rattle.tap_model.proofs.SoundLaws.{start-moment}
use Rattle.tap_engine.proofs.ReadyLaws.{kept-more, moment_or_zero-moment}
use Rattle.tap_engine.proofs.CheckLaws.{define-verdict, define-refuses, answers-define, define-moment}
use Rattle.tap_engine.proofs.StandingLaws.{represents-query}
use Rattle.tap_engine.proofs.engine.Engine.define.Goals as goal
use Rattle.tap_base.specs.Numbers.{IsMoment}

pub returns-in_err-row-clause-refusal : goal.returns-in_err-row-clause-refusal
returns-in_err-row-clause-refusal c =
    let by = define-refuses c.args.self.now c.args.name c.args.source _ c.in_err-row.ensures.refusal in
    search (rules, by)

pub returns-in_err-shown-clause-refusal : goal.returns-in_err-shown-clause-refusal
returns-in_err-shown-clause-refusal c =
    let by = define-memory c.args.self.now c.args.name c.args.source c.in_ok-row.ensures.checks in
    search (rules, by)

pub returns-in_err-change-clause-refusal : goal.returns-in_err-change-clause-refusal
returns-in_err-change-clause-refusal c =
    let by = define-memory c.args.self.now c.args.name c.args.source c.in_ok-row.ensures.checks in
    search (rules, by)

pub returns-clause-ok : goal.returns-clause-ok
returns-clause-ok c = record {
  answer = λ t represents sound.
      let none = sym (define-verdict c.args.self.now t c.args.name c.args.source represents) ∙ c.in_ok-row.ensures.checks in
      answers-define t c.args.self.now.session c.args.name c.args.source c.in_ok-shown.shown (length c.args.self.now.queries)
      c.in_ok-row.row c.in_ok-change.change c.add_query.new.self.session none
      (ap length represents.queries ∙ length-map t.queries (cached_query t))
      c.in_ok-row.ensures.row c.in_ok-shown.ensures c.in_ok-change.ensures.change (ap (λ e. e.session) c.in_ok-change.ensures.engine);
  represents = λ t represents sound.
      let count = ap length represents.queries ∙ length-map t.queries (cached_query t) in
      rw (c.in_ok-change.ensures.engine, c.in_ok-change.ensures.change)
      (represents-query c.args.self.now t c.in_ok-row.row represents sound.formed (ap (λ r. r.num.0) c.in_ok-row.ensures.row
      ∙ ap (λ n. n + 1) count) (define-moment c.args.self.now c.args.name c.args.source c.in_ok-row.ensures.checks));
  undo = rw c.in_ok-change.ensures.engine (undo-query c.args.self.now (never_run c.in_ok-row.row ∷ [])
      c.in_ok-row.row.owner _ c.len.result c.len-2.result c.len.ensures c.len-2.ensures);
  ready = let is : c.in_ok-row.row.num.0 ≡ length c.args.self.now.queries + 1 = ap (λ r. r.num.0) c.in_ok-row.ensures.row in
      let moment : IsMoment c.in_ok-row.row.arrival =
      subst IsMoment (sym (ap (λ r. r.arrival) c.in_ok-row.ensures.row)) (moment_or_zero-moment c.args.self.now c.requires.ready
      (define-moment c.args.self.now c.args.name c.args.source c.in_ok-row.ensures.checks)) in
      rw c.in_ok-change.ensures.engine (record {
        docs = c.requires.ready.docs;
        notes = c.requires.ready.notes;
        queries = kept-more 1 c.args.self.now.run_count c.args.self.now.queries c.in_ok-row.row c.requires.ready.queries (omega (arith, is))
            (start-moment c.in_ok-row.row moment);
        moment = c.requires.ready.moment;
        room = c.requires.ready.room;
        fronts = fronts-query c.args.self.now.index.docs c.args.self.now.queries c.in_ok-row.row c.args.self.now.hits.fronts is
            c.requires.ready.fronts;
      });
  running = search rules;
  short = search rules;
  accepted = search rules;
}
