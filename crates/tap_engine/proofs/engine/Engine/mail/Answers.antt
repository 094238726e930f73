use Rattle.std.proofs.Common.{rules, ◌≡◌, ◌≤◌, sym, ap, subst, ◌+◌, ◌++◌, ◌∷◌, [], length, Some, None}
use Rattle.tap_rows.specs.declared.change.Change.TheVariants.{Docs}
use Rattle.tap_rows.specs.Tables.{after}
use Rattle.script_lang.specs.declared.command.Command.TheVariants.{Mail}
use Rattle.tap_model.specs.Sessions.{moment_or_zero}
use Rattle.tap_model.specs.Verdicts.{block_text, bytes_of_all, verdict}
use Rattle.tap_model.specs.Replies.{docs_from, some_docs, tables_after}
use Rattle.tap_engine.specs.declared.undo.Undo.TheVariants.{Docs as Rows}
use Rattle.tap_engine.specs.Answering.{UndoRestores}
use Rattle.tap_engine.specs.Standing.{Represents}
use Rattle.tap_engine.specs.Ready.{IsReady}
use Rattle.tap_engine.proofs.AddedRows.{docs-are}
use Rattle.tap_engine.proofs.UndoLaws.{undo-docs, some-undo}
use Rattle.tap_engine.proofs.MboxLaws.{answers-mail, represents-more}
use Rattle.tap_engine.proofs.ReadyLaws.{ready-docs, some-moment}
use Rattle.tap_engine.proofs.engine.Engine.mail.Goals as goal

pub returns-clause-ok : goal.returns-clause-ok
returns-clause-ok c =
    let there : c.args.self.now.session.moment ≡ Some c.in-Some.moment = search rules in
    let at : c.in-Some.moment ≡ moment_or_zero c.args.self.now.session = search rules in
    let change : c.in_ok-change.change
    ≡ some_docs (docs_from (length c.args.self.now.index.docs + 1) c.in-Some.moment c.from_ref.result.now) = search rules in
    let engine : c.add_docs.new.self ≡ record c.args.self.now {
      index =
          after c.args.self.now.index (Docs (docs_from (length c.args.self.now.index.docs + 1) c.in-Some.moment c.from_ref.result.now));
      hits = c.add_docs.new.self.hits;
      bytes = c.args.self.now.bytes + bytes_of_all c.from_ref.result.now;
    } = search rules in
    record {
      answer = λ t represents sound.
          let none : verdict (Mail c.args.block) c.args.self.now.session t ≡ None = search rules in
          let one : c.from_ref.result.now ≡ block_text c.args.block ∷ [] = search rules in
          let num : c.docs-2.result + 1 ≡ length c.args.self.now.index.docs + 1 = search rules in
          answers-mail t c.args.self.now.session c.args.block c.from_ref.result.now (c.docs-2.result + 1)
          (length c.args.self.now.index.docs) c.in-Some.moment c.in_ok-change.change c.add_docs.new.self.session
          none one at (ap length (docs-are represents)) num change (ap (λ e. e.session) c.in_ok-change.ensures.engine);
      represents = λ t represents sound.
          rw change (subst (λ e. Represents e
          (tables_after (some_docs (docs_from (length c.args.self.now.index.docs + 1) c.in-Some.moment c.from_ref.result.now)) t))
          (sym engine) (represents-more c.args.self.now t c.add_docs.new.self.hits c.in-Some.moment c.from_ref.result.now represents
          (some-moment c.args.self.now.session.moment c.in-Some.moment there)));
      undo = some-undo c.in_ok-change.change
          (subst (λ e. UndoRestores (Rows c.docs-3.result c.args.self.now.bytes) e c.args.self.now) (sym engine)
          (undo-docs c.args.self.now (docs_from (length c.args.self.now.index.docs + 1) c.in-Some.moment c.from_ref.result.now)
          c.add_docs.new.self.hits (c.args.self.now.bytes + bytes_of_all c.from_ref.result.now)
          c.docs-3.result c.docs-3.ensures.count c.add_docs.ensures.more c.add_docs.ensures.fronts));
      ready = let room :
          length (c.args.self.now.index.docs ++ docs_from (length c.args.self.now.index.docs + 1) c.in-Some.moment c.from_ref.result.now)
          ≤ c.add_docs.new.self.hits.room =
          subst (λ e. length e.index.docs ≤ c.add_docs.new.self.hits.room) engine c.in_ok-change.ensures.room in
          subst IsReady (sym engine)
          (subst (λ m. IsReady (record c.args.self.now {
            index = after c.args.self.now.index (Docs (docs_from (length c.args.self.now.index.docs + 1) m c.from_ref.result.now));
            hits = c.add_docs.new.self.hits;
            bytes = c.args.self.now.bytes + bytes_of_all c.from_ref.result.now;
          })) (sym at)
          (ready-docs c.args.self.now c.add_docs.new.self.hits c.from_ref.result.now
          (c.args.self.now.bytes + bytes_of_all c.from_ref.result.now)
          c.requires.ready (some-moment c.args.self.now.session.moment c.in-Some.moment there)
          (subst (λ m. length (c.args.self.now.index.docs ++ docs_from (length c.args.self.now.index.docs + 1) m c.from_ref.result.now)
          ≤ c.add_docs.new.self.hits.room) at room) c.add_docs.ensures.fronts));
      running = search rules;
      short = search rules;
      accepted = search rules;
    }
