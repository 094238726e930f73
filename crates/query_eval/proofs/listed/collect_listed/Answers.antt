use Rattle.std.proofs.Common.{rules, ◌≡◌, ◌+◌, ◌∷◌, ◌∙◌, arith, length, ap}
use Rattle.tql_core.specs.Bindings.{row_of}
use Rattle.query_eval.specs.Lowest.{keeping}
use Rattle.probe_eval.specs.Listed.{listed_hits}
use Rattle.query_eval.proofs.Steps.{hits_step}
use Rattle.probe_eval.specs.Searches.{searched}
use Rattle.query_eval.proofs.listed.collect_listed.Goals as goal

pub loop-row-preserved : goal.loop-row-preserved
loop-row-preserved g c =
    let e : c.loop-row.rows ≡ row_of c.in-Some.row ∷ c.next.new.self = search rules in
    let s : c.next.new.steps ≡ c.loop-row.steps + 1 = search rules in
    let p = searched c.args.search.now in
    let h : c.collect_marked.new.into.hits.items ≡ keeping (length c.loop-row.into.places.items)
    c.loop-row.into.hits.items (listed_hits c.args.search.now.seen.now c.args.w p c.args.var (row_of c.in-Some.row)) = search rules in
    let i = c.loop-row.invariant.more in
    let k = c.loop-row.invariant.steps in
    let n = ap length e in
    record {
      hits = hits_step _ _ _ _ _ _ _ _ (row_of c.in-Some.row) c.loop-row.invariant.hits e h c.collect_marked.ensures.places;
      ready = c.collect_marked.ensures.ready;
      places = c.collect_marked.ensures.places ∙ c.loop-row.invariant.places;
      steps = omega (arith, k, s, n);
      more = omega (arith, i, s);
    }
