use Rattle.std.proofs.Common.{rules, refl, ◌≡◌, ◌+◌, ◌≤◌, ◌<◌, ◌∷◌, ◌∙◌, Some, length, drop, arith, subst, sym, ap}
use Rattle.std.specs.Prelude.{slice_get, slice_index_or, option_to_list}
use Rattle.tql_core.specs.Trees.{tree_at}
use Rattle.time_marks.specs.Found.{nested}
use Rattle.time_marks.specs.Views.{probe_in}
use Rattle.query_eval.specs.Lowest.{keeping}
use Rattle.probe_eval.specs.Drivers.{seek_var, seek_hits}
use Rattle.probe_eval.specs.Runs.{part_order, part_hits}
use Rattle.query_eval.specs.Driven.{turn_cost, part_turn}
use Rattle.query_eval.proofs.TurnCosts.{turn_step}
use Rattle.probe_eval.proofs.Founds.{part_fits}
use Rattle.probe_eval.proofs.Steps.{get_in}
use Rattle.probe_eval.proofs.Steps.{rest_at, item_at}
use Rattle.query_eval.proofs.Steps.{hits_step}
use Rattle.query_eval.specs.declared.box_fronts.BoxFronts.{BoxFronts}
use Rattle.query_eval.proofs.BoxLaws.{adds_none, added_alike, stored_more}
use Rattle.query_eval.proofs.FrontLaws.{passed_empty}
use Rattle.query_eval.proofs.runs.collect_parts.Goals as goal

pub collect_part-requires-clause-search : goal.collect_part-requires-clause-search
collect_part-requires-clause-search g c =
    let q = c.args.plan.now.query in
    let part = c.part-item.result in
    let below : c.loop-place.place < length q.parts = search rules in
    let is : part ≡ slice_index_or q.parts c.loop-place.place part = search rules in
    let s : slice_get q.parts c.loop-place.place ≡ Some part = item_at q.parts c.loop-place.place part part below is in
    let o : c.order_at.result.now ≡ part_order part = c.order_at.ensures part s in
    let f = part_fits q c.requires.run.probes part (get_in q.parts c.loop-place.place part s) in
    record {
      node = f.node;
      room = subst (λ z. length (option_to_list (seek_var part.seek)) + length z + nested (tree_at q.pool part.probe.body.0) ≤ 16) (sym o)
          f.room;
    }

pub collect_part-requires-clause-fronts : goal.collect_part-requires-clause-fronts
collect_part-requires-clause-fronts g c = record {
  passed = passed_empty _ _ _ _ _ c.clear.ensures.fronts;
  boxes = added_alike _ _ c.args.fronts.now.boxes c.loop-place.fronts.boxes c.clear.new.self.boxes c.clear.ensures.boxes
      c.loop-place.invariant.query c.loop-place.invariant.fronts c.requires.fronts;
}

pub loop-place-init : goal.loop-place-init
loop-place-init g c = record {
  hits = refl;
  ready = c.requires.ready;
  places = refl;
  query = refl;
  fronts = adds_none _ _ _ c.args.fronts.now.boxes.fronts.items;
  steps = omega arith;
  more = omega arith;
}

pub collect_part-requires-clause-window : goal.collect_part-requires-clause-window
collect_part-requires-clause-window g c =
    let q = c.args.plan.now.query in
    let part = c.part-item.result in
    let below : c.loop-place.place < length q.parts = search rules in
    let is : part ≡ slice_index_or q.parts c.loop-place.place part = search rules in
    let s : slice_get q.parts c.loop-place.place ≡ Some part = item_at q.parts c.loop-place.place part part below is in
    let f = part_fits q c.requires.run.probes part (get_in q.parts c.loop-place.place part s) in
    record { window = c.requires.run.window; plus = f.plus }

pub loop-place-preserved : goal.loop-place-preserved
loop-place-preserved g c =
    let q = c.args.plan.now.query in
    let part = c.part-item.result in
    let entries = c.args.seen.now in
    let T = c.args.index.now in
    let w = c.args.w in
    let p = probe_in q.pool part.probe in
    let below : c.loop-place.place < length q.parts = search rules in
    let is : part ≡ slice_index_or q.parts c.loop-place.place part = search rules in
    let s : slice_get q.parts c.loop-place.place ≡ Some part = item_at q.parts c.loop-place.place part part below is in
    let o : c.order_at.result.now ≡ part_order part = c.order_at.ensures part s in
    let e : drop c.loop-place.place q.parts ≡ part ∷ drop (c.loop-place.place + 1) q.parts = rest_at q.parts c.loop-place.place part s in
    let h : c.collect_part.new.into.hits.items ≡ keeping (length c.loop-place.into.places.items)
    c.loop-place.into.hits.items (seek_hits entries T w p c.order_at.result.now part.seek (seek_var part.seek)) = search rules in
    let n = length c.loop-place.into.places.items in
    let k : c.collect_part.new.steps ≤ c.loop-place.steps + turn_cost (keeping n) entries T w p
    c.order_at.result.now c.loop-place.into.hits.items part.seek (seek_var part.seek) = search rules in
    let h' : c.collect_part.new.into.hits.items ≡ keeping (length c.loop-place.into.places.items)
    c.loop-place.into.hits.items (part_hits entries T w q.pool part) = h ∙ ap (λ z. keeping (length c.loop-place.into.places.items)
    c.loop-place.into.hits.items (seek_hits entries T w p z part.seek (seek_var part.seek))) o in
    let k' : c.collect_part.new.steps ≤ c.loop-place.steps + part_turn (keeping n) entries T w q.pool c.loop-place.into.hits.items part =
    subst (λ z. c.collect_part.new.steps
    ≤ c.loop-place.steps + turn_cost (keeping n) entries T w p z c.loop-place.into.hits.items part.seek (seek_var part.seek)) o k in
    let i = c.loop-place.invariant.more in
    let m = c.collect_part.ensures.more in
    let same = ap (λ (z : BoxFronts). z.query) (c.collect_part.ensures.boxes ∙ c.clear.ensures.boxes) in
    record {
      hits = hits_step (part_hits entries T w q.pool) _ _ _ _ _ _ _ part c.loop-place.invariant.hits e h' c.collect_part.ensures.places;
      ready = c.collect_part.ensures.ready;
      places = c.collect_part.ensures.places ∙ c.loop-place.invariant.places;
      query = c.store.ensures.query ∙ same ∙ c.loop-place.invariant.query;
      fronts = stored_more entries T.docs c.args.fronts.now.boxes c.loop-place.fronts.boxes c.collect_part.new.fronts.boxes
          c.store.new.self.boxes.fronts.items (c.collect_part.ensures.boxes ∙ c.clear.ensures.boxes) c.loop-place.invariant.query
          c.loop-place.invariant.fronts (c.store.ensures.fronts entries T.docs _ _ c.collect_part.ensures.fronts.passed);
      steps = turn_step n (length c.collect_part.new.into.places.items) (λ n. part_turn (keeping n) entries T w q.pool)
          (part_hits entries T w q.pool) _ _ _ _ _ _ _ part c.loop-place.invariant.steps e k' h' c.collect_part.ensures.places;
      more = omega (arith, i, m);
    }
