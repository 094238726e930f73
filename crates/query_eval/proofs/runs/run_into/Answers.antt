use Rattle.std.proofs.Common.{rules, ◌≡◌, ◌∙◌, ◌≤◌, [], length, ap, arith}
use Rattle.query_eval.specs.Lowest.{lowest}
use Rattle.query_eval.specs.Hits.{HitsWithRoom}
use Rattle.probe_eval.specs.Nested.{was_seen}
use Rattle.probe_eval.specs.Runs.{query_hits}
use Rattle.time_marks.specs.Views.{ranged_probes}
use Rattle.probe_eval.proofs.Founds.{query_found}
use Rattle.query_eval.proofs.BoxLaws.{in_box_from, adds_from}
use Rattle.query_eval.proofs.Plans.{hits_kept, placed_fit, taken_run, taken_quiet, taken_due}
use Rattle.query_eval.proofs.runs.run_into.Goals as goal

pub invariant_of-into : goal.invariant_of-into
invariant_of-into g c =
    let n = c.finish.ensures.count in
    let p = c.finish.ensures.places in
    let fit = placed_fit _ _ c.collect_parts.ensures.ready.placed in
    let within : length c.finish.new.self.hits.items ≤ length c.finish.new.self.places.items = search (rules, arith) in
    (c.finish.ensures.room, within)

pub returns-clause-hits : goal.returns-clause-hits
returns-clause-hits g c =
    let q = c.args.plan.now.query in
    let r : length c.args.index.now.docs ≤ length c.clear.new.self.places.items = search (rules, arith) in
    let k : c.collect_parts.new.into.hits.items ≡ lowest [] (query_hits c.args.seen.now c.args.index.now c.args.w q) =
    hits_kept q c.args.seen.now c.args.index.now c.args.w _ c.requires.run.probes c.docs-docs.ensures.places.numbered r _ _
    c.clear.ensures.hits c.collect_parts.ensures.hits in
    c.finish.ensures.meaning (was_seen c.args.seen.now) (ranged_probes q)
    c.args.index.now c.args.w (query_hits c.args.seen.now c.args.index.now c.args.w q) k
    c.docs-docs.ensures.arrived (query_found q c.requires.run.probes c.args.seen.now c.args.index.now c.args.w)

pub returns-clause-steps : goal.returns-clause-steps
returns-clause-steps g c =
    let r : length c.args.index.now.docs ≤ length c.clear.new.self.places.items = search (rules, arith) in
    taken_run c.args.plan.now.query c.args.seen.now c.args.index.now c.args.w _ c.requires.run.probes c.docs-docs.ensures.places.numbered r
    _ _ _ c.clear.ensures.hits c.collect_parts.ensures.steps

pub returns-clause-quiet : goal.returns-clause-quiet
returns-clause-quiet g c = taken_quiet c.args.plan.now.query c.requires.run.probes c.args.seen.now c.args.index.now c.args.w _ _
    (returns-clause-steps g c) c.collect_parts.ensures.more

pub returns-clause-due : goal.returns-clause-due
returns-clause-due g c =
    taken_due c.args.plan.now.query c.requires.run.probes c.args.seen.now c.args.index.now c.args.w _ _ (returns-clause-steps g c)

pub collect_parts-requires-clause-fronts : goal.collect_parts-requires-clause-fronts
collect_parts-requires-clause-fronts g c =
    let same : c.begin.new.self.boxes.fronts.items ≡ c.args.into.now.fronts = c.begin.ensures.boxes
    ∙ ap (λ (hits : HitsWithRoom). hits.fronts) c.into.view_is in
    in_box_from c.args.query c.args.seen.now c.args.index.now.docs c.begin.new.self.boxes c.args.into.now.fronts c.begin.ensures.query
    same c.requires.fronts

pub returns-clause-fronts : goal.returns-clause-fronts
returns-clause-fronts g c =
    let same : c.begin.new.self.boxes.fronts.items ≡ c.args.into.now.fronts = c.begin.ensures.boxes
    ∙ ap (λ (hits : HitsWithRoom). hits.fronts) c.into.view_is in
    adds_from c.args.query c.args.seen.now c.args.index.now.docs c.begin.new.self.boxes c.args.into.now.fronts c.begin.ensures.query
    same _ c.collect_parts.ensures.fronts
