use Rattle.std.proofs.Common.{◌≡◌, ℕ, List}
use Rattle.tap_rows.specs.declared.rows.Doc.{Doc}
use Rattle.tap_rows.specs.declared.results.Hit.{Hit}
use Rattle.tap_rows.specs.declared.results.Entry.{Entry}
use Rattle.query_eval.specs.BoxFronts.{AddsFronts}
use Rattle.query_eval.specs.RunFronts.{ArePassed}
use Rattle.query_eval.proofs.fronts.store_boxes.Given as goal

abbrev pub invariant-loop-front : goal.invariant-loop-front
invariant-loop-front l = record {
  query : l.boxes.query ≡ l.fn.boxes.query;
  fronts : (entries : List Entry) (docs : List Doc) (n : ℕ) (kept : List Hit) → ArePassed entries docs n kept l.fronts
      → AddsFronts l.fn.boxes.query entries docs l.fn.boxes.fronts.items l.boxes.fronts.items;
}
