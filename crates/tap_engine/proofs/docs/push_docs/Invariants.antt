use Rattle.std.proofs.Common.{◌≡◌, ◌+◌, drop, take, length, true}
use Rattle.std.specs.Prelude.{◌≤ℤ◌}
use Rattle.tap_rows.specs.declared.change.Change.TheVariants.{Docs}
use Rattle.tap_rows.specs.Kept.{Each}
use Rattle.tap_rows.specs.Tables.{after}
use Rattle.tap_model.specs.Replies.{docs_from}
use Rattle.tap_model.specs.Verdicts.{are_short}
use Rattle.tap_engine.proofs.docs.push_docs.Given as goal

-- the documents that were added, and those of the messages that are left, which are short
abbrev pub invariant-loop-text : goal.invariant-loop-text
invariant-loop-text l = record {
  rows : after l.fn.index (Docs (docs_from (length l.fn.index.docs + 1) l.moment l.texts))
      ≡ after l.index (Docs (docs_from (length l.index.docs + 1) l.moment (drop l.text-index l.texts)));
  back : record l.index { docs = take (length l.fn.index.docs) l.index.docs } ≡ l.fn.index;
  count : length l.index.docs ≡ length l.fn.index.docs + l.text-index;
  by : Each (λ other. other.arrival ≤ℤ l.moment) l.index.docs;
  short : are_short (drop l.text-index l.texts) ≡ true;
}
