use Rattle.std.proofs.Common.{rules, ◌≡◌, ◌≤◌, ◌+◌, ◌∷◌, ◌∙◌, Some, true, false, arith, sym, ap, subst, to_z, of_z, w64, if◌then◌else◌}
use Rattle.std.specs.Prelude.{option_to_list}
use Rattle.std.specs.List.{flat_map}
use Rattle.tql_core.specs.Bindings.{row_of}
use Rattle.tql_core.specs.Row.{OfDoc, OfNote}
use Rattle.tql_core.specs.Values.{bind, lookup}
use Rattle.access_plan.specs.Views.{option_access, reach_at}
use Rattle.probe_eval.specs.Nexts.{IsSole}
use Rattle.probe_eval.specs.Levels.{IsLevel, level_cost, rows_at}
use Rattle.probe_eval.specs.Nested.{was_seen, new_doc, hit_if, holds_here, hits_over, work_over, cost_here}
use Rattle.probe_eval.proofs.Steps.{cost_step}
use Rattle.probe_eval.proofs.HitSteps.{doc_hits, note_hits, doc_cost}
use Rattle.probe_eval.proofs.LevelLaws.{level_steps}
use Rattle.wake_plan.specs.Turns.{has_hit}
use Rattle.wake_plan.proofs.DeliverLaws.{next_row, found_row}
use Rattle.probe_eval.specs.Searches.{searched}
use Rattle.wake_plan.proofs.delivers.+delivers.Goals as goal

pub rows_beside-rows-requires : goal.rows_beside-rows-requires
rows_beside-rows-requires g t c =
    let mark = to_z w64 (of_z w64 c.args.mark) in
    let v : IsLevel c.args.search.now.seen.now c.args.search.now.index.now (searched c.args.search.now) mark
    c.args.order.now c.args.env.now c.in-Some.level = search rules in
    let p : c.as_slice-path.result.now ≡ c.args.search.now.probe.now.path = search rules in
    subst (λ z. IsSole z c.args.env.now (reach_at c.in-Some.level.reach) (option_access c.in-Some.level.sole)) (sym p) v.sole

pub loop-row-init : goal.loop-row-init
loop-row-init g t c =
    let mark = to_z w64 (of_z w64 c.args.mark) in
    let p = searched c.args.search.now in
    let v : IsLevel c.args.search.now.seen.now c.args.search.now.index.now p mark c.args.order.now c.args.env.now c.in-Some.level =
    search rules in
    let q : c.rows_beside-rows.result ≡ rows_at c.args.search.now.index.now p.path mark c.args.env.now c.in-Some.level = search rules in
    let s : c.next_level.new.steps + level_cost (was_seen c.args.search.now.seen.now) c.args.search.now.index.now p mark
    c.args.env.now (Some c.in-Some.level) ≤ c.args.steps.now + work_over (was_seen c.args.search.now.seen.now)
    c.args.search.now.index.now p mark c.args.sure c.args.order.now c.args.env.now = search rules in
    record {
      same = ap has_hit (v.hits ∙ ap (flat_map (λ row. hits_over c.args.search.now.seen.now c.args.search.now.index.now p mark
          c.in-Some.level.rest.now (bind c.in-Some.level.reach.var row c.args.env.now))) (sym q));
      steps = level_steps (was_seen c.args.search.now.seen.now) c.args.search.now.index.now p mark
          c.args.env.now c.in-Some.level c.rows_beside-rows.result _ _ q s;
      more = c.next_level.ensures.more;
    }

pub loop-row-preserved : goal.loop-row-preserved
loop-row-preserved g t c =
    let e : c.loop-row.rows ≡ row_of c.in-Some-next.row ∷ c.next.new.self = search rules in
    let s : c.next.new.steps ≡ c.loop-row.steps + 1 = search rules in
    let mark = to_z w64 (of_z w64 c.args.mark) in
    let p = searched c.args.search.now in
    let x = bind c.in-Some.level.reach.var (row_of c.in-Some-next.row) c.args.env.now in
    let h : c.delivers.result
    ≡ has_hit (hits_over c.args.search.now.seen.now c.args.search.now.index.now p mark c.in-Some.level.rest.now x) = search rules in
    let n : c.delivers.result ≡ false = search rules in
    let k : c.delivers.new.steps ≤ c.next.new.steps + work_over (was_seen c.args.search.now.seen.now) c.args.search.now.index.now p mark
    c.in-Some.level.sure c.in-Some.level.rest.now x = search rules in
    let i = c.loop-row.invariant.more in
    let m = c.delivers.ensures.more in
    record {
      same = next_row _ _ _ _ (row_of c.in-Some-next.row) _ c.loop-row.invariant.same e h n;
      steps = cost_step _ _ _ _ _ _ _ (row_of c.in-Some-next.row) c.loop-row.invariant.steps e s k;
      more = omega (arith, i, s, m);
    }

pub returns-then-delivers-clause-hits : goal.returns-then-delivers-clause-hits
returns-then-delivers-clause-hits g t c =
    let e : c.loop-row.rows ≡ row_of c.in-Some-next.row ∷ c.next.new.self = search rules in
    let mark = to_z w64 (of_z w64 c.args.mark) in
    let p = searched c.args.search.now in
    let x = bind c.in-Some.level.reach.var (row_of c.in-Some-next.row) c.args.env.now in
    let h : c.delivers.result
    ≡ has_hit (hits_over c.args.search.now.seen.now c.args.search.now.index.now p mark c.in-Some.level.rest.now x) = search rules in
    let n : c.delivers.result ≡ true = search rules in
    let same : mark ≡ c.args.mark = search rules in
    subst (λ b. true ≡ has_hit (hits_over c.args.search.now.seen.now c.args.search.now.index.now p b c.args.order.now c.args.env.now)) same
    (found_row _ _ _ _ (row_of c.in-Some-next.row) _ c.loop-row.invariant.same e h n)

pub returns-in-Some-OfDoc-clause-hits : goal.returns-in-Some-OfDoc-clause-hits
returns-in-Some-OfDoc-clause-hits g t c =
    let p = searched c.args.search.now in
    let e : lookup 0 c.args.env.now ≡ Some (OfDoc c.in-Some-OfDoc.doc.now) = search rules in
    let h : c.delivers_pair.result
    ≡ has_hit (option_to_list (hit_if (holds_here c.args.search.now.index.now p c.args.mark c.args.order.now c.args.env.now)
    c.args.mark (new_doc c.args.search.now.seen.now c.in-Some-OfDoc.doc.now))) = search rules in
    h ∙ ap has_hit (sym (doc_hits c.args.search.now.seen.now c.args.search.now.index.now p
    c.args.mark c.args.order.now c.args.env.now c.in-Some-OfDoc.doc.now e))

pub returns-in-Some-OfDoc-clause-steps : goal.returns-in-Some-OfDoc-clause-steps
returns-in-Some-OfDoc-clause-steps g t c =
    let p = searched c.args.search.now in
    let T = c.args.search.now.index.now in
    let d = c.in-Some-OfDoc.doc.now in
    let seen = was_seen c.args.search.now.seen.now in
    let e : lookup 0 c.args.env.now ≡ Some (OfDoc d) = search rules in
    let s : c.delivers_pair.new.steps
    ≤ c.args.steps.now + (if seen d then 0 else cost_here T p c.args.mark c.args.sure c.args.order.now c.args.env.now) = search rules in
    subst (λ z. c.delivers_pair.new.steps ≤ c.args.steps.now + z)
    (sym (doc_cost seen T p c.args.mark c.args.sure c.args.order.now c.args.env.now d e)) s

pub returns-in-Some-OfNote-clause-hits : goal.returns-in-Some-OfNote-clause-hits
returns-in-Some-OfNote-clause-hits g t c =
    let p = searched c.args.search.now in
    let e : lookup 0 c.args.env.now ≡ Some (OfNote c.in-Some-OfNote.field-0-0.now) = search rules in
    ap has_hit (sym (note_hits c.args.search.now.seen.now c.args.search.now.index.now p
    c.args.mark c.args.order.now c.args.env.now (OfNote c.in-Some-OfNote.field-0-0.now) e (λ d z. absurd cc)))

pub delivers-requires : goal.delivers-requires
delivers-requires g t c κs within =
    let mark = to_z w64 (of_z w64 c.args.mark) in
    let p = searched c.args.search.now in
    let v : IsLevel c.args.search.now.seen.now c.args.search.now.index.now p mark c.args.order.now c.args.env.now c.in-Some.level =
    search rules in
    let sure = v.sure (row_of c.in-Some-next.row) in
    let fewer = v.fewer in
    search (rules, sure, fewer)
