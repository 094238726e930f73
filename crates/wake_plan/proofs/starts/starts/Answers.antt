use Rattle.std.proofs.Common.{rules, ◌≡◌, ◌+◌, ◌≤◌, ◌<◌, [], ◌∷◌, ◌++◌, ◌∙◌, Some, length, drop, arith, subst, sym, ap}
use Rattle.std.specs.Prelude.{slice_get, slice_index_or, option_to_list, vec_capacity}
use Rattle.tql_core.specs.Trees.{tree_at}
use Rattle.time_marks.specs.declared.window.Window.{Window}
use Rattle.time_marks.specs.Found.{nested}
use Rattle.time_marks.specs.Views.{probe_in}
use Rattle.probe_eval.specs.Drivers.{seek_var, seek_hits, seek_cost}
use Rattle.probe_eval.specs.Runs.{part_order, part_hits, part_cost}
use Rattle.probe_eval.proofs.Founds.{part_fits}
use Rattle.probe_eval.proofs.Steps.{get_in, rest_at, item_at}
use Rattle.wake_plan.specs.Turns.{hits_left, cost_left, IsTurn}
use Rattle.wake_plan.specs.Wakes.{IsUpTo}
use Rattle.wake_plan.proofs.PartLaws.{each_pushed, pushed_hits, all_pushed, pushed_cost, pushed_room}
use Rattle.wake_plan.proofs.starts.starts.Goals as goal

pub start-requires-clause-search : goal.start-requires-clause-search
start-requires-clause-search g c =
    let q = c.args.plan.now.query in
    let part = c.index-parts-place.result in
    let below : c.loop-place.place < length q.parts = search rules in
    let is : part ≡ slice_index_or q.parts c.loop-place.place part = search rules in
    let s : slice_get q.parts c.loop-place.place ≡ Some part = item_at q.parts c.loop-place.place part part below is in
    let o : c.order_at.result.now ≡ part_order part = c.order_at.ensures part s in
    let f = part_fits q c.requires.probes part (get_in q.parts c.loop-place.place part s) in
    record {
      node = f.node;
      room = subst (λ z. length (option_to_list (seek_var part.seek)) + length z + nested (tree_at q.pool part.probe.body.0) ≤ 16) (sym o)
          f.room;
    }

pub loop-place-preserved : goal.loop-place-preserved
loop-place-preserved g c =
    let q = c.args.plan.now.query in
    let part = c.index-parts-place.result in
    let entries = c.args.seen.now in
    let T = c.args.index.now in
    let w = c.args.w in
    let p = probe_in q.pool part.probe in
    let below : c.loop-place.place < length q.parts = search rules in
    let is : part ≡ slice_index_or q.parts c.loop-place.place part = search rules in
    let s : slice_get q.parts c.loop-place.place ≡ Some part = item_at q.parts c.loop-place.place part part below is in
    let o : c.order_at.result.now ≡ part_order part = c.order_at.ensures part s in
    let e : drop c.loop-place.place q.parts ≡ part ∷ drop (c.loop-place.place + 1) q.parts = rest_at q.parts c.loop-place.place part s in
    let n : c.push.new.self.items ≡ c.loop-place.turns.items ++ c.start.result ∷ [] = search rules in
    let h : hits_left w c.start.result ≡ seek_hits entries T w p c.order_at.result.now part.seek (seek_var part.seek) = search rules in
    let h' : hits_left w c.start.result ≡ part_hits entries T w q.pool part = h
    ∙ ap (λ z. seek_hits entries T w p z part.seek (seek_var part.seek)) o in
    let k : (u : Window) → IsUpTo w u → c.start.new.steps + cost_left u c.start.result
    ≤ c.loop-place.steps + (1 + part_cost entries T u q.pool part) = λ u v. subst (λ z. c.start.new.steps + cost_left u c.start.result
    ≤ c.loop-place.steps + (1 + seek_cost entries T u p z part.seek (seek_var part.seek))) o (c.start.ensures.cost u v) in
    let r : vec_capacity c.loop-place.turns ≤ vec_capacity c.push.new.self = search rules in
    let i = c.loop-place.invariant.more in
    let m = c.start.ensures.more in
    record {
      turns = each_pushed (IsTurn w) c.loop-place.turns.items _ c.start.result c.loop-place.invariant.turns c.start.ensures.turn n;
      hits = pushed_hits (hits_left w) (part_hits entries T w q.pool) c.loop-place.turns.items _ c.start.result _ _ part _
          c.loop-place.invariant.hits e h' n;
      cost = λ u v. pushed_cost (cost_left u) (part_cost entries T u q.pool) c.loop-place.turns.items _ c.start.result _ _ part _ _ _
          (c.loop-place.invariant.cost u v) e (k u v) n;
      room = pushed_room c.loop-place.turns.items _ c.start.result _ _ part _ _ c.loop-place.invariant.room e n r;
      more = omega (arith, i, m);
    }

pub returns-clause-hits : goal.returns-clause-hits
returns-clause-hits g c =
    let l : length c.args.plan.now.query.parts ≤ c.loop-place.place = search rules in
    all_pushed (hits_left c.args.w) (part_hits c.args.seen.now c.args.index.now c.args.w c.args.plan.now.query.pool)
    c.loop-place.turns.items c.args.plan.now.query.parts c.loop-place.place _ c.loop-place.invariant.hits l
