use Rattle.std.specs.Prelude.{◌≤ℤ◌}
use Rattle.std.proofs.Common.{rules, ◌≡◌, ◌≤◌, ◌∙◌, sym, ap, subst, ◌+◌, ◌++◌, length, w64, to_z, of_z}
use Rattle.tap_rows.specs.declared.change.Change.TheVariants.{Docs}
use Rattle.tap_rows.specs.Kept.{Each}
use Rattle.tap_rows.specs.Tables.{after}
use Rattle.row_index.specs.Orders.{doc_arrival}
use Rattle.tap_model.specs.Verdicts.{bytes_of_all}
use Rattle.tap_model.specs.Replies.{docs_from, some_docs, tables_after}
use Rattle.tap_engine.specs.declared.undo.Undo.TheVariants.{Docs as Rows}
use Rattle.tap_engine.specs.Answering.{UndoRestores}
use Rattle.tap_engine.specs.Standing.{Represents}
use Rattle.tap_engine.specs.Ready.{IsReady}
use Rattle.tap_engine.proofs.AddedRows.{docs-are}
use Rattle.tap_engine.proofs.UndoLaws.{undo-docs, some-undo}
use Rattle.tap_engine.proofs.MemoryRefusals.{mbox-memory}
use Rattle.tap_engine.proofs.ReadyLaws.{ready-docs, rows-by, moment_or_zero-moment}
use Rattle.tap_engine.proofs.MboxLaws.{mbox-verdict, mbox-refuses, mbox-moment, answers-mbox, represents-more}
use Rattle.tap_engine.proofs.engine.Engine.mbox.Goals as goal
use Rattle.tap_base.specs.Numbers.{IsMoment}

pub returns-in_err-moment-clause-refusal : goal.returns-in_err-moment-clause-refusal
returns-in_err-moment-clause-refusal c =
    let by = mbox-refuses c.args.self.now c.args.block c.in_err-moment.field-0.0 c.in_err-moment.ensures.refusal in
    search (rules, by)

pub returns-in_err-change-clause-refusal : goal.returns-in_err-change-clause-refusal
returns-in_err-change-clause-refusal c =
    let by = mbox-memory c.args.self.now c.args.block c.in_ok-moment.ensures.checks in
    search (rules, by)

pub returns-clause-ok : goal.returns-clause-ok
returns-clause-ok c = record {
  answer = λ t represents sound.
      let none = sym (mbox-verdict c.args.self.now t c.args.block represents) ∙ c.in_ok-moment.ensures.checks in
      let first : c.from-first.result + 1 ≡ length c.args.self.now.index.docs + 1 = search rules in
      let change : c.in_ok-change.change
      ≡ some_docs (docs_from (length c.args.self.now.index.docs + 1) c.in_ok-moment.moment c.in_ok-moment.texts) = search rules in
      answers-mbox t c.args.self.now.session c.args.block c.in_ok-moment.texts c.len.result (c.from-first.result + 1)
      (length c.args.self.now.index.docs) c.in_ok-moment.moment c.in_ok-change.change c.add_docs.new.self.session
      none c.in_ok-moment.ensures.texts c.in_ok-moment.ensures.moment c.len.ensures (ap length (docs-are represents)) first change
      (ap (λ e. e.session) c.in_ok-change.ensures.engine);
  represents = λ t represents sound.
      let change : c.in_ok-change.change
      ≡ some_docs (docs_from (length c.args.self.now.index.docs + 1) c.in_ok-moment.moment c.in_ok-moment.texts) = search rules in
      let engine : c.add_docs.new.self ≡ record c.args.self.now {
        index =
            after c.args.self.now.index
            (Docs (docs_from (length c.args.self.now.index.docs + 1) c.in_ok-moment.moment c.in_ok-moment.texts));
        hits = c.add_docs.new.self.hits;
        bytes = c.args.self.now.bytes + bytes_of_all c.in_ok-moment.texts;
      } = search rules in
      rw change (subst (λ e. Represents e
      (tables_after (some_docs (docs_from (length c.args.self.now.index.docs + 1) c.in_ok-moment.moment c.in_ok-moment.texts)) t))
      (sym engine) (represents-more c.args.self.now t c.add_docs.new.self.hits c.in_ok-moment.moment c.in_ok-moment.texts represents
      (mbox-moment c.args.self.now c.args.block c.in_ok-moment.ensures.checks)));
  undo = let engine : c.add_docs.new.self ≡ record c.args.self.now {
    index =
        after c.args.self.now.index (Docs (docs_from (length c.args.self.now.index.docs + 1) c.in_ok-moment.moment c.in_ok-moment.texts));
    hits = c.add_docs.new.self.hits;
    bytes = c.args.self.now.bytes + bytes_of_all c.in_ok-moment.texts;
  } = search rules in
      some-undo c.in_ok-change.change (subst (λ e. UndoRestores (Rows c.docs.result c.args.self.now.bytes) e c.args.self.now) (sym engine)
      (undo-docs c.args.self.now (docs_from (length c.args.self.now.index.docs + 1) c.in_ok-moment.moment c.in_ok-moment.texts)
      c.add_docs.new.self.hits (c.args.self.now.bytes + bytes_of_all c.in_ok-moment.texts)
      c.docs.result c.docs.ensures.count c.add_docs.ensures.more c.add_docs.ensures.fronts));
  ready = let engine : c.add_docs.new.self ≡ record c.args.self.now {
    index =
        after c.args.self.now.index (Docs (docs_from (length c.args.self.now.index.docs + 1) c.in_ok-moment.moment c.in_ok-moment.texts));
    hits = c.add_docs.new.self.hits;
    bytes = c.args.self.now.bytes + bytes_of_all c.in_ok-moment.texts;
  } = search rules in
      let room :
      length (c.args.self.now.index.docs ++ docs_from (length c.args.self.now.index.docs + 1) c.in_ok-moment.moment c.in_ok-moment.texts)
      ≤ c.add_docs.new.self.hits.room =
      subst (λ e. length e.index.docs ≤ c.add_docs.new.self.hits.room) engine c.in_ok-change.ensures.room in
      subst IsReady (sym engine)
      (subst (λ m. IsReady (record c.args.self.now {
        index =
            after c.args.self.now.index (Docs (docs_from (length c.args.self.now.index.docs + 1) m c.in_ok-moment.texts));
        hits = c.add_docs.new.self.hits;
        bytes = c.args.self.now.bytes + bytes_of_all c.in_ok-moment.texts;
      }))
      (sym c.in_ok-moment.ensures.moment)
      (ready-docs c.args.self.now c.add_docs.new.self.hits c.in_ok-moment.texts (c.args.self.now.bytes + bytes_of_all c.in_ok-moment.texts)
      c.requires.ready (mbox-moment c.args.self.now c.args.block c.in_ok-moment.ensures.checks)
      (subst (λ m. length (c.args.self.now.index.docs ++ docs_from (length c.args.self.now.index.docs + 1) m c.in_ok-moment.texts)
      ≤ c.add_docs.new.self.hits.room) c.in_ok-moment.ensures.moment room) c.add_docs.ensures.fronts));
  running = search rules;
  short = search rules;
  accepted = search rules;
}

pub add_docs-requires-clause-arrives : goal.add_docs-requires-clause-arrives
add_docs-requires-clause-arrives c =
    let same : to_z w64 (of_z w64 c.in_ok-moment.moment) ≡ c.in_ok-moment.moment = search rules in
    let at = mbox-moment c.args.self.now c.args.block c.in_ok-moment.ensures.checks in
    record {
      moment = subst IsMoment (sym (same ∙ c.in_ok-moment.ensures.moment)) (moment_or_zero-moment c.args.self.now c.requires.ready at);
      after = subst (λ m. Each (λ other. other.arrival ≤ℤ m) c.args.self.now.index.docs) (sym (same ∙ c.in_ok-moment.ensures.moment))
          (rows-by doc_arrival c.args.self.now c.args.self.now.index.docs c.requires.ready.docs at);
    }
