use Rattle.std.proofs.Common.{rules, arith, length, ◌+◌, ◌≡◌, ◌∷◌, [], w64, to_z, of_z}
use Rattle.std.proofs.lemmas.Int.{ints}
use Rattle.tap_rows.specs.declared.change.Change.TheVariants.{Docs}
use Rattle.tap_rows.specs.Tables.{after}
use Rattle.tap_model.specs.Replies.{docs_from}
use Rattle.tap_engine.proofs.AddedRows.{push-rows, push-back, push-count, push-by, push-short}
use Rattle.tap_engine.proofs.docs.push_docs.Goals as goal

pub push_doc-requires-clause-short : goal.push_doc-requires-clause-short
push_doc-requires-clause-short c = (push-short c.args.texts.now c.text-item.result c.loop-text.text-index c.loop-text-test.true
    c.text-item.is c.loop-text.invariant.short).0

pub loop-text-preserved : goal.loop-text-preserved
loop-text-preserved c =
    let m = to_z w64 (of_z w64 c.args.moment) in
    let now = c.loop-text.index in
    let text = c.text-item.result in
    let new : c.push_doc.new.index ≡ after now (Docs (docs_from (length now.docs + 1) m (text ∷ []))) = search rules in
    record {
      rows = push-rows _ now c.push_doc.new.index m c.args.texts.now text c.loop-text.text-index c.loop-text-test.true c.text-item.is new
          c.loop-text.invariant.rows;
      back = push-back c.args.index.now now c.push_doc.new.index _ (length c.args.index.now.docs)
          (omega (arith, c.loop-text.invariant.count)) new c.loop-text.invariant.back;
      count = push-count now c.push_doc.new.index (record { num = record { 0 = length now.docs + 1 }; arrival = m; text = text })
          (length c.args.index.now.docs) c.loop-text.text-index new c.loop-text.invariant.count;
      by = push-by now c.push_doc.new.index m (record { num = record { 0 = length now.docs + 1 }; arrival = m; text = text }) new
          (omega (arith, ints)) c.loop-text.invariant.by;
      short = (push-short c.args.texts.now text c.loop-text.text-index c.loop-text-test.true c.text-item.is c.loop-text.invariant.short).1;
    }
