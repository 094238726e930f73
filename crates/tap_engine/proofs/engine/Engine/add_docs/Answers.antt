use Rattle.std.proofs.Common.{rules, ◌≡◌, ◌∙◌, ap, length, ◌+◌, ◌≤◌, Some, false}
use Rattle.std.specs.Prelude.{◌==◌}
use Rattle.tap_rows.specs.declared.change.Change.TheVariants.{Docs}
use Rattle.tap_model.specs.Replies.{docs_from}
use Rattle.tap_rows.specs.Tables.{after}
use Rattle.tap_engine.proofs.AddedRows.{docs-room}
use Rattle.tap_engine.proofs.MboxLaws.{docs-there}
use Rattle.tap_engine.proofs.engine.Engine.add_docs.Goals as goal

pub returns-clause-change : goal.returns-clause-change
returns-clause-change c =
    let rows : c.in_ok-rows.rows ≡ docs_from (length c.args.self.now.index.docs + 1) c.args.moment c.args.texts.now = search rules in
    let some : (length c.args.texts.now == 0) ≡ false = search rules in
    ap (λ docs. Some (Docs docs)) rows ∙ docs-there (length c.args.self.now.index.docs + 1) c.args.moment c.args.texts.now some

pub returns-clause-room : goal.returns-clause-room
returns-clause-room c =
    let new : c.add_all.new.index
    ≡ after c.args.self.now.index (Docs (docs_from (length c.args.self.now.index.docs + 1) c.args.moment c.args.texts.now)) =
    search rules in
    let room : length c.args.self.now.index.docs + length c.args.texts.now ≤ c.grow.new.self.room = search rules in
    docs-room c.args.self.now.index c.add_all.new.index (length c.args.self.now.index.docs + 1)
    c.args.moment c.args.texts.now c.grow.new.self.room new room
