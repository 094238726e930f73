use Rattle.std.proofs.Common.{◌≡◌, ◌+◌, ◌++◌, drop}
use Rattle.tap_model.specs.Replies.{docs_from}
use Rattle.tap_engine.proofs.docs.make_rows.Given as goal

-- the documents so far, and those of the messages that are left
abbrev pub invariant-loop-text : goal.invariant-loop-text
invariant-loop-text l = record {
  rows : docs_from l.first l.moment l.texts ≡ l.rows ++ docs_from l.num l.moment (drop l.text-index l.texts);
  num : l.num ≡ l.first + l.text-index;
}
