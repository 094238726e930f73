use Rattle.std.proofs.Common.{rules, arith, ◌≡◌, ◌∙◌, sym, refl, ap, subst, ◌-◌, ◌<◌, length, map, ◌+◌}
use Rattle.std.specs.Prelude.{slice_set, slice_index_or, IfSome}
use Rattle.script_lang.specs.declared.command.Command.TheVariants.{Run}
use Rattle.script_lang.specs.declared.refusal.Refusal.TheVariants.{Memory}
use Rattle.tap_kept.specs.Keeping.{never_run, after_run, AreNew}
use Rattle.tap_rows.specs.Results.{entry_at}
use Rattle.tap_rows.specs.Tables.{after}
use Rattle.tap_engine.specs.Standing.{Represents}
use Rattle.tap_engine.specs.Ready.{IsReady}
use Rattle.tap_model.proofs.SoundLaws.{sound-asked}
use Rattle.tap_engine.specs.declared.engine.Engine.{Engine}
use Rattle.tap_kept.specs.declared.cached_query.CachedQuery.{CachedQuery}
use Rattle.tap_kept.proofs.BoxFrontLaws.{fronts-run}
use Rattle.tap_engine.specs.Answering.{IsUnchangedButHits, UndoRestores, undo_run}
use Rattle.tap_engine.proofs.UndoLaws.{for-memory}
use Rattle.tap_engine.proofs.CheckLaws.{run-verdict, run-refuses, run-moment}
use Rattle.tap_engine.proofs.ReadyLaws.{due-at, kept-run, undo-run, moment_or_zero-moment, ready-still}
use Rattle.tap_engine.proofs.DueLaws.{due-is, represents-run, answers-run, run_rows}
use Rattle.tap_engine.proofs.CostLaws.{most-run}
use Rattle.tap_engine.proofs.engine.Engine.run.Goals as goal
use Rattle.tap_base.specs.Numbers.{IsMoment}

pub returns-in_err-due-clause-refusal : goal.returns-in_err-due-clause-refusal
returns-in_err-due-clause-refusal g c =
    let by = run-refuses c.args.self.now c.args.name.now c.in_err-due.field-0.0 c.in_err-due.ensures.refusal in
    search (rules, by)

pub overflow_cast-ordinal : goal.overflow_cast-ordinal
overflow_cast-ordinal g c =
    let d = due-at c.args.self.now c.args.name.now c.in_ok-due.due c.requires.ready c.in_ok-due.ensures.due in
    omega (arith, ap (λ x. x.runs) d.is, d.at.few, c.in_ok-due.ensures.few)

pub overflow_add-ordinal : goal.overflow_add-ordinal
overflow_add-ordinal g c =
    let d = due-at c.args.self.now c.args.name.now c.in_ok-due.due c.requires.ready c.in_ok-due.ensures.due in
    omega (arith, ap (λ x. x.runs) d.is, d.at.few, c.in_ok-due.ensures.few)

pub overflow_sub-due : goal.overflow_sub-due
overflow_sub-due g c =
    let d = due-at c.args.self.now c.args.name.now c.in_ok-due.due c.requires.ready c.in_ok-due.ensures.due in
    omega (arith, ap (λ x. x.query.0) d.is, d.at.low)

pub undo_run-undo-requires : goal.undo_run-undo-requires
undo_run-undo-requires g c =
    let d = due-at c.args.self.now c.args.name.now c.in_ok-due.due c.requires.ready c.in_ok-due.ensures.due in
    omega (arith, ap (λ k. length k.queries) c.due_run.ensures.still.same, ap (λ x. x.query.0) d.is, d.at.low, d.at.high)

pub deliver-requires-clause-first : goal.deliver-requires-clause-first
deliver-requires-clause-first g c =
    let d = due-at c.args.self.now c.args.name.now c.in_ok-due.due c.requires.ready c.in_ok-due.ensures.due in
    omega (arith, ap (λ x. x.query.0) d.is, d.at.low)

pub deliver-requires-clause-place : goal.deliver-requires-clause-place
deliver-requires-clause-place g c =
    let d = due-at c.args.self.now c.args.name.now c.in_ok-due.due c.requires.ready c.in_ok-due.ensures.due in
    omega (arith, ap (λ k. length k.queries) c.due_run.ensures.still.same, ap (λ x. x.query.0) d.is, d.at.high)

pub deliver-requires-clause-runs : goal.deliver-requires-clause-runs
deliver-requires-clause-runs g c = λ x.
    let d = due-at c.args.self.now c.args.name.now c.in_ok-due.due c.requires.ready c.in_ok-due.ensures.due in
    let at : slice_index_or c.args.self.now.queries (c.in_ok-due.due.query.0 - 1) x ≡ d.kept =
    d.at.at (c.in_ok-due.due.query.0 - 1) x (omega (arith, ap (λ x. x.query.0) d.is, d.at.low)) in
    omega (
      arith,
      ap (λ k. (slice_index_or k.queries (c.in_ok-due.due.query.0 - 1) x).runs) c.due_run.ensures.still.same,
      ap (λ k. k.runs) at,
      d.at.few,
      c.in_ok-due.ensures.few,
    )

pub deliver-requires-clause-new : goal.deliver-requires-clause-new
deliver-requires-clause-new g c = λ x.
    let e = c.args.self.now in
    let due = c.in_ok-due.due in
    let d = due-at e c.args.name.now due c.requires.ready c.in_ok-due.ensures.due in
    let at : slice_index_or e.queries (due.query.0 - 1) x ≡ d.kept =
    d.at.at (due.query.0 - 1) x (omega (arith, ap (λ x. x.query.0) d.is, d.at.low)) in
    let new : AreNew d.kept.entries due.hits =
    subst (λ o. IfSome o (λ kept. AreNew kept.entries due.hits)) d.named c.in_ok-due.ensures.new in
    let same : c.as_slice.result.now ≡ due.hits = search rules in
    subst (λ (k : CachedQuery). AreNew k.entries c.as_slice.result.now)
    (sym (ap (λ k. slice_index_or k.queries (due.query.0 - 1) x) c.due_run.ensures.still.same ∙ at))
    (subst (AreNew d.kept.entries) (sym same) new)

pub deliver-requires-clause-few : goal.deliver-requires-clause-few
deliver-requires-clause-few g c = omega (arith, ap (λ k. k.run_count) c.due_run.ensures.still.same, c.in_ok-due.ensures.few)

pub returns-in_err-change-clause-refusal : goal.returns-in_err-change-clause-refusal
returns-in_err-change-clause-refusal g c =
    let by = run-refuses c.args.self.now c.args.name.now Memory (for-memory _ c.in_ok-due.ensures.verdict) in
    search (rules, by)

pub returns-in_err-change-clause-err : goal.returns-in_err-change-clause-err
returns-in_err-change-clause-err g c =
    let by = subst (λ k. IsUnchangedButHits k c.args.self.now) (sym c.in_err-change.ensures.err) c.due_run.ensures.still in
    search (rules, by)

pub returns-clause-ok : goal.returns-clause-ok
returns-clause-ok g c = record {
  answer = λ t represents sound-for.
      let e = c.args.self.now in
      let sound = sound-asked (Run c.args.name.now) t e.session refl sound-for in
      let due = c.in_ok-due.due in
      let same = c.due_run.ensures.still.same in
      let none = sym (run-verdict e t c.args.name.now represents sound) ∙ c.in_ok-due.ensures.verdict in
      let d = due-is e t c.args.name.now due represents sound (run-moment e c.args.name.now c.in_ok-due.ensures.verdict)
      c.in_ok-due.ensures.due in
      let raw : c.in_ok-change.change ≡ run_rows c.due_run.new.self.run_count c.due_run.new.self.pick_count due = search rules in
      let change : c.in_ok-change.change ≡ run_rows e.run_count e.pick_count due = raw
      ∙ ap (λ k. run_rows k.run_count k.pick_count due) same in
      let answers = answers-run e t c.args.name.now due c.in_ok-change.change c.deliver.new.self.session represents none d change
      (ap (λ k. k.session) (c.in_ok-change.ensures.engine (never_run d.q)) ∙ ap (λ k. k.session) same) in
      search (rules, answers);
  represents = λ t represents sound-for.
      let e = c.args.self.now in
      let sound = sound-asked (Run c.args.name.now) t e.session refl sound-for in
      let due = c.in_ok-due.due in
      let next : Engine → CachedQuery → Engine = λ k x. record k {
        queries = slice_set k.queries (due.query.0 - 1)
            (after_run due.moment (map (entry_at (due.runs + 1)) due.hits) (slice_index_or k.queries (due.query.0 - 1) x));
        run_count = k.run_count + 1;
        pick_count = k.pick_count + length due.hits;
      } in
      let same = c.due_run.ensures.still.same in
      let there = run-moment e c.args.name.now c.in_ok-due.ensures.verdict in
      let d = due-is e t c.args.name.now due represents sound there c.in_ok-due.ensures.due in
      let raw-change : c.in_ok-change.change ≡ run_rows c.due_run.new.self.run_count c.due_run.new.self.pick_count due = search rules in
      let change : c.in_ok-change.change ≡ run_rows e.run_count e.pick_count due = raw-change
      ∙ ap (λ k. run_rows k.run_count k.pick_count due) same in
      let raw : (x : CachedQuery) → c.deliver.new.self ≡ next c.due_run.new.self x = search rules in
      subst (λ change. Represents c.deliver.new.self (after t change)) (sym change)
      (represents-run e t c.args.name.now due c.due_run.new.self.hits c.deliver.new.self represents sound.kept d there (λ x. raw x
      ∙ ap (λ k. next k x) same));
  undo = let e = c.args.self.now in
      let due = c.in_ok-due.due in
      let next : Engine → CachedQuery → Engine = λ k x. record k {
        queries = slice_set k.queries (due.query.0 - 1)
            (after_run due.moment (map (entry_at (due.runs + 1)) due.hits) (slice_index_or k.queries (due.query.0 - 1) x));
        run_count = k.run_count + 1;
        pick_count = k.pick_count + length due.hits;
      } in
      let raw : (x : CachedQuery) → c.deliver.new.self ≡ next c.due_run.new.self x = search rules in
      let same = c.due_run.ensures.still.same in
      let d = due-at e c.args.name.now due c.requires.ready c.in_ok-due.ensures.due in
      let place : due.query.0 - 1 < length e.queries = omega (arith, ap (λ x. x.query.0) d.is, d.at.low, d.at.high) in
      subst (λ undo. UndoRestores undo c.deliver.new.self e) (sym (c.undo_run-undo.ensures d.kept
      ∙ ap (λ k. undo_run k (due.query.0 - 1) (slice_index_or k.queries (due.query.0 - 1) d.kept)) same))
      (undo-run e c.deliver.new.self c.due_run.new.self.hits (due.query.0 - 1) due.moment (map (entry_at (due.runs + 1)) due.hits)
      (e.run_count + 1) (e.pick_count + length due.hits) d.kept place c.due_run.ensures.still.room c.due_run.ensures.still.fronts
      (raw d.kept ∙ ap (λ k. next k d.kept) same));
  ready = let e = c.args.self.now in
      let due = c.in_ok-due.due in
      let same = c.due_run.ensures.still.same in
      let d = due-at e c.args.name.now due c.requires.ready c.in_ok-due.ensures.due in
      let moment : IsMoment due.moment = subst IsMoment (sym (ap (λ x. x.moment) d.is))
      (moment_or_zero-moment e c.requires.ready (run-moment e c.args.name.now c.in_ok-due.ensures.verdict)) in
      let ready : IsReady c.due_run.new.self = ready-still e c.due_run.new.self c.requires.ready c.due_run.ensures.still in
      subst IsReady (sym (c.in_ok-change.ensures.engine d.kept)) (record {
        docs = ready.docs;
        notes = ready.notes;
        queries = kept-run 1 c.due_run.new.self.run_count (due.query.0 - 1) c.due_run.new.self.queries _ _
            d.kept ready.queries (search (rules, moment));
        moment = ready.moment;
        room = ready.room;
        fronts = fronts-run c.due_run.new.self.index.docs (due.query.0 - 1) c.due_run.new.self.queries _ _ d.kept
            c.due_run.new.self.hits.fronts ready.fronts;
      });
  running = let d = due-at c.args.self.now c.args.name.now c.in_ok-due.due c.requires.ready c.in_ok-due.ensures.due in
      ap (λ e. e.stopped) (c.in_ok-change.ensures.engine d.kept) ∙ ap (λ e. e.stopped) c.due_run.ensures.still.same;
  short = search rules;
  accepted = search rules;
}

pub returns-in_err-due-clause-steps : goal.returns-in_err-due-clause-steps
returns-in_err-due-clause-steps g c = record {
  quiet = search rules;
  due = search rules;
  most = most-run c.args.self.now c.args.name.now c.due_run.new.steps c.args.steps.now c.due_run.ensures.most;
}

pub returns-in_err-change-clause-steps : goal.returns-in_err-change-clause-steps
returns-in_err-change-clause-steps g c = record {
  quiet = search rules;
  due = search rules;
  most = most-run c.args.self.now c.args.name.now c.due_run.new.steps c.args.steps.now c.due_run.ensures.most;
}

pub returns-clause-steps : goal.returns-clause-steps
returns-clause-steps g c = record {
  quiet = search rules;
  due = search rules;
  most = most-run c.args.self.now c.args.name.now c.due_run.new.steps c.args.steps.now c.due_run.ensures.most;
}
