use Rattle.std.proofs.Common.{◌∙◌, refl}
use Rattle.std.specs.Prelude.{slice_index_or}
use Rattle.query_eval.proofs.BoxLaws.{adds_none, box_stored}
use Rattle.query_eval.proofs.FrontLaws.{item_in}
use Rattle.query_eval.proofs.fronts.store_boxes.Goals as goal

pub loop-front-init : goal.loop-front-init
loop-front-init c = record {
  query = refl;
  fronts = λ entries docs n kept a. adds_none c.args.boxes.now.query entries docs c.args.boxes.now.fronts.items;
}

pub loop-front-preserved : goal.loop-front-preserved
loop-front-preserved c =
    let fronts = c.args.fronts.now in
    let i = c.loop-front.front-index in
    record {
      query = c.store_box.ensures.query ∙ c.loop-front.invariant.query;
      fronts = λ entries docs n kept a.
          box_stored entries docs n kept fronts (slice_index_or fronts i _) c.args.boxes.now.query c.args.boxes.now.fronts.items
          c.loop-front.boxes.fronts.items c.store_box.new.boxes.fronts.items a (item_in fronts i _ c.loop-front-test.true)
          (c.loop-front.invariant.fronts entries docs n kept a) c.store_box.ensures.fronts;
    }
