use Rattle.std.proofs.Common.{rules, ◌≡◌, ◌≤◌, ◌+◌, [], ◌∷◌, ◌∙◌, arith, length}
use Rattle.tql_core.specs.Bindings.{row_of}
use Rattle.tql_core.specs.Values.{bind}
use Rattle.query_eval.specs.Lowest.{keeping}
use Rattle.probe_eval.specs.Drivers.{hits_at, cost_at}
use Rattle.probe_eval.specs.Nexts.{IsNearestIfKnown}
use Rattle.probe_eval.proofs.NextRows.{next_alike}
use Rattle.query_eval.specs.Driven.{is_settled, row_cost}
use Rattle.query_eval.proofs.TurnCosts.{turn_step}
use Rattle.query_eval.proofs.Steps.{hits_step}
use Rattle.probe_eval.specs.Searches.{searched}
use Rattle.query_eval.proofs.parts.collect_driven.Goals as goal

pub loop-row-preserved : goal.loop-row-preserved
loop-row-preserved g c =
    let e : c.loop-row.rows ≡ row_of c.in-Some.row ∷ c.next.new.self = search rules in
    let s : c.next.new.steps ≡ c.loop-row.steps + 1 = search rules in
    let p = searched c.args.search.now in
    let x = bind c.args.var (row_of c.in-Some.row) [] in
    let h : c.collect_at.new.into.hits.items ≡ keeping (length c.loop-row.into.places.items)
    c.loop-row.into.hits.items (hits_at c.args.search.now.seen.now c.args.search.now.index.now c.args.w p c.args.order.now x) =
    search rules in
    let k : c.collect_at.new.steps ≤ c.next.new.steps + cost_at (is_settled c.args.search.now.seen.now c.loop-row.into.hits.items)
    c.args.search.now.index.now c.args.w p c.args.order.now x = search rules in
    let taken : c.collect_at.new.steps ≤ c.loop-row.steps + (1 + cost_at (is_settled c.args.search.now.seen.now c.loop-row.into.hits.items)
    c.args.search.now.index.now c.args.w p c.args.order.now x) = omega (arith, s, k) in
    let i = c.loop-row.invariant.more in
    let m = c.collect_at.ensures.more in
    let n : IsNearestIfKnown c.args.search.now.probe.now.path x c.collect_at.new.next = search rules in
    record {
      hits = hits_step _ _ _ _ _ _ _ _ (row_of c.in-Some.row) c.loop-row.invariant.hits e h c.collect_at.ensures.places;
      ready = c.collect_at.ensures.ready;
      places = c.collect_at.ensures.places ∙ c.loop-row.invariant.places;
      fronts = c.collect_at.ensures.fronts;
      boxes = c.collect_at.ensures.boxes ∙ c.loop-row.invariant.boxes;
      steps = turn_step (length c.loop-row.into.places.items) (length c.collect_at.new.into.places.items)
          (λ n. row_cost (keeping n) c.args.search.now.seen.now c.args.search.now.index.now c.args.w p c.args.order.now c.args.var)
          (λ row. hits_at c.args.search.now.seen.now c.args.search.now.index.now c.args.w p c.args.order.now (bind c.args.var row [])) _ _ _
          _ _ _ _ (row_of c.in-Some.row) c.loop-row.invariant.steps e taken h c.collect_at.ensures.places;
      more = omega (arith, i, s, m);
      next = λ row. next_alike c.args.search.now.probe.now.path c.args.var (row_of c.in-Some.row) row [] c.collect_at.new.next n;
    }

pub collect_at-requires : goal.collect_at-requires
collect_at-requires g c =
    let by = c.loop-row.invariant.next (row_of c.in-Some.row) in
    search (rules, by)
