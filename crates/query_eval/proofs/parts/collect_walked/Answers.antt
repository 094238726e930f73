use Rattle.std.proofs.Common.{rules, ◌≡◌, ◌∙◌, ◌+◌, ◌≤◌, [], length, true, ap, sym, arith}
use Rattle.std.specs.List.{flat_map}
use Rattle.tql_core.specs.Values.{bind}
use Rattle.probe_eval.specs.Drivers.{hits_at, walked}
use Rattle.query_eval.specs.Driven.{row_cost}
use Rattle.probe_eval.specs.Listed.{goes_by_list, listed_hits}
use Rattle.probe_eval.proofs.ListedRows.{listed_rows}
use Rattle.query_eval.specs.Lowest.{keeping}
use Rattle.query_eval.proofs.TurnCosts.{rows_in_turn}
use Rattle.query_eval.proofs.FrontLaws.{done_on}
use Rattle.probe_eval.specs.Searches.{searched}
use Rattle.query_eval.proofs.parts.collect_walked.Goals as goal

pub returns-then-goes_by_list-clause-hits : goal.returns-then-goes_by_list-clause-hits
returns-then-goes_by_list-clause-hits g c =
    let s = c.args.search.now in
    let p = searched s in
    let b : goes_by_list p c.args.seek c.args.var ≡ true = search rules in
    let e = listed_rows s.seen.now s.index.now c.args.w p c.args.order.now c.args.var c.args.seek b in
    let h : c.collect_listed.new.into.hits.items ≡ keeping (length c.args.into.now.places.items) c.args.into.now.hits.items
    (flat_map (listed_hits s.seen.now c.args.w p c.args.var) (walked s.index.now c.args.w p c.args.seek c.args.var)) = search rules in
    h ∙ ap (keeping (length c.args.into.now.places.items) c.args.into.now.hits.items) (sym e)

pub returns-then-goes_by_list-clause-steps : goal.returns-then-goes_by_list-clause-steps
returns-then-goes_by_list-clause-steps g c =
    let s = c.args.search.now in
    let p = searched s in
    let rows = walked s.index.now c.args.w p c.args.seek c.args.var in
    let k : c.collect_listed.new.steps ≤ c.args.steps.now + length rows = search rules in
    let l = rows_in_turn (keeping (length c.args.into.now.places.items))
    (row_cost (keeping (length c.args.into.now.places.items)) s.seen.now s.index.now c.args.w p c.args.order.now c.args.var)
    (λ row. hits_at s.seen.now s.index.now c.args.w p c.args.order.now (bind c.args.var row [])) c.args.into.now.hits.items rows
    (λ found row. omega arith) in
    omega (arith, k, l)

pub returns-then-goes_by_list-clause-fronts : goal.returns-then-goes_by_list-clause-fronts
returns-then-goes_by_list-clause-fronts g c =
    let s = c.args.search.now in
    let p = searched s in
    let n = length c.args.into.now.places.items in
    let hits = flat_map (listed_hits s.seen.now c.args.w p c.args.var) (walked s.index.now c.args.w p c.args.seek c.args.var) in
    let h : c.collect_listed.new.into.hits.items ≡ keeping n c.args.into.now.hits.items hits = search rules in
    done_on s c.args.into.now c.collect_listed.new.into c.args.fronts.now hits c.collect_listed.ensures.places h c.requires.fronts
