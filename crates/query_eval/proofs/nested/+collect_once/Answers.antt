use Rattle.std.proofs.Common.{rules, true, ◌≡◌, ◌≤◌, ◌+◌, ◌∷◌, ◌∙◌, Some, Bool, arith, length, refl, sym, ap, subst, to_z, of_z, w64}
use Rattle.std.proofs.Common.{if◌then◌else◌}
use Rattle.std.specs.Prelude.{option_to_list}
use Rattle.tap_rows.specs.declared.rows.Doc.{Doc}
use Rattle.tql_core.specs.Bindings.{row_of}
use Rattle.tql_core.specs.Row.{OfDoc, OfNote}
use Rattle.tql_core.specs.Values.{bind, lookup}
use Rattle.query_eval.specs.Lowest.{keeping}
use Rattle.query_eval.specs.Collecting.{AreSettled}
use Rattle.query_eval.specs.Driven.{is_settled}
use Rattle.query_eval.proofs.Settled.{settled_stays, settled_less}
use Rattle.probe_eval.specs.Levels.{IsLevel, level_cost, rows_at}
use Rattle.probe_eval.specs.Nexts.{IsNearestIfKnown}
use Rattle.probe_eval.specs.Nested.{new_doc, hit_if, holds_here, hits_over, work_over, cost_here}
use Rattle.probe_eval.proofs.Steps.{cost_step}
use Rattle.probe_eval.proofs.NextRows.{next_alike}
use Rattle.query_eval.proofs.Steps.{hits_step, hits_end}
use Rattle.probe_eval.specs.Answers.{IsNever, query_var}
use Rattle.probe_eval.proofs.AnswerLaws.{never_hits}
use Rattle.probe_eval.proofs.HitSteps.{doc_hits, note_hits, doc_cost}
use Rattle.probe_eval.proofs.LevelLaws.{level_steps}
use Rattle.query_eval.specs.Fronts.{AreBehind}
use Rattle.query_eval.proofs.HitSteps.{level_hits}
use Rattle.query_eval.proofs.FrontLaws.{behind_hits, behind_cost, done_on}
use Rattle.probe_eval.specs.Searches.{searched}
use Rattle.query_eval.proofs.nested.+collect_once.Goals as goal

pub open_rows-rows-requires-clause-sole : goal.open_rows-rows-requires-clause-sole
open_rows-rows-requires-clause-sole g t c =
    let mark = to_z w64 (of_z w64 c.args.mark) in
    let v : IsLevel c.args.search.now.seen.now c.args.search.now.index.now (searched c.args.search.now) mark
    c.args.order.now c.args.env.now c.in-Some.level = search rules in
    v.sole

pub loop-row-init : goal.loop-row-init
loop-row-init g t c =
    let mark = to_z w64 (of_z w64 c.args.mark) in
    let T = c.args.search.now.index.now in
    let p = searched c.args.search.now in
    let level = c.in-Some.level in
    let all = rows_at T p.path mark c.args.env.now level in
    let n = length c.args.into.now.places.items in
    let kept = c.args.into.now.hits.items in
    let v : IsLevel c.args.search.now.seen.now T p mark c.args.order.now c.args.env.now level = search rules in
    let q : AreBehind c.args.search.now c.args.into.now mark level.reach.var all c.open_rows-rows.result = search rules in
    let s : (passed : Doc → Bool) → c.next_level.new.steps + level_cost passed T p mark c.args.env.now (Some level)
    ≤ c.args.steps.now + work_over passed T p mark c.args.sure c.args.order.now c.args.env.now = λ passed. search rules in
    record {
      hits = level_hits c.args.search.now.seen.now T p mark c.args.order.now c.args.env.now level all n kept v refl
          ∙ behind_hits c.args.search.now c.args.into.now mark level.rest.now c.args.env.now level.reach.var all _ q;
      ready = c.requires.collect.ready;
      places = refl;
      fronts = c.open_rows-rows.ensures.fronts;
      boxes = c.open_rows-rows.ensures.boxes;
      steps = λ passed a.
          let walk = level_steps passed T p mark c.args.env.now level all _ _ refl (s passed) in
          let fewer = behind_cost (λ row. 1 + work_over passed T p mark level.sure level.rest.now (bind level.reach.var row c.args.env.now))
          c.args.search.now c.args.into.now mark level.reach.var all _ q in
          omega (arith, walk, fewer);
      settled = λ d e. e;
      more = c.next_level.ensures.more;
      next = λ row. tt;
    }

pub loop-row-preserved : goal.loop-row-preserved
loop-row-preserved g t c =
    let e : c.loop-row.rows ≡ row_of c.in-Some-next.row ∷ c.next.new.self = search rules in
    let s : c.next.new.steps ≡ c.loop-row.steps + 1 = search rules in
    let mark = to_z w64 (of_z w64 c.args.mark) in
    let p = searched c.args.search.now in
    let x = bind c.in-Some.level.reach.var (row_of c.in-Some-next.row) c.args.env.now in
    let hits = hits_over c.args.search.now.seen.now c.args.search.now.index.now p mark c.in-Some.level.rest.now x in
    let h : c.collect_once.new.into.hits.items ≡ keeping (length c.loop-row.into.places.items) c.loop-row.into.hits.items hits =
    search rules in
    let k : (passed : Doc → Bool) → AreSettled c.args.search.now c.loop-row.into mark passed → c.collect_once.new.steps
    ≤ c.next.new.steps + work_over passed c.args.search.now.index.now p mark c.in-Some.level.sure c.in-Some.level.rest.now x =
    λ passed a. search (rules, c.collect_once.ensures.steps passed a) in
    let i = c.loop-row.invariant.more in
    let m = c.collect_once.ensures.more in
    let n : IsNearestIfKnown c.args.search.now.probe.now.path x c.collect_once.new.next = search rules in
    record {
      hits = hits_step _ _ _ _ _ _ _ _ (row_of c.in-Some-next.row) c.loop-row.invariant.hits e h c.collect_once.ensures.places;
      ready = c.collect_once.ensures.ready;
      places = c.collect_once.ensures.places ∙ c.loop-row.invariant.places;
      fronts = c.collect_once.ensures.fronts;
      boxes = c.collect_once.ensures.boxes ∙ c.loop-row.invariant.boxes;
      steps = λ passed a. cost_step _ _ _ _ _ _ _ (row_of c.in-Some-next.row) (c.loop-row.invariant.steps passed a) e s
          (k passed (λ d y. c.loop-row.invariant.settled d (a d y)));
      settled = λ d y. settled_stays c.args.search.now.seen.now (length c.loop-row.into.places.items) c.loop-row.into.hits.items
          c.collect_once.new.into.hits.items hits h mark d (c.loop-row.invariant.settled d y);
      more = omega (arith, i, s, m);
      next = λ row. next_alike c.args.search.now.probe.now.path c.in-Some.level.reach.var (row_of c.in-Some-next.row) row
          c.args.env.now c.collect_once.new.next n;
    }

pub returns-in-Some-OfDoc-clause-hits : goal.returns-in-Some-OfDoc-clause-hits
returns-in-Some-OfDoc-clause-hits g t c =
    let p = searched c.args.search.now in
    let e : lookup 0 c.args.env.now ≡ Some (OfDoc c.in-Some-OfDoc.doc.now) = search rules in
    let h : c.collect_pair.new.into.hits.items ≡ keeping (length c.args.into.now.places.items) c.args.into.now.hits.items
    (option_to_list (hit_if (holds_here c.args.search.now.index.now p c.args.mark c.args.order.now c.args.env.now)
    c.args.mark (new_doc c.args.search.now.seen.now c.in-Some-OfDoc.doc.now))) = search rules in
    h ∙ ap (keeping (length c.args.into.now.places.items) c.args.into.now.hits.items) (sym (doc_hits c.args.search.now.seen.now
    c.args.search.now.index.now p c.args.mark c.args.order.now c.args.env.now c.in-Some-OfDoc.doc.now e))

pub returns-in-Some-OfDoc-clause-fronts : goal.returns-in-Some-OfDoc-clause-fronts
returns-in-Some-OfDoc-clause-fronts g t c =
    let p = searched c.args.search.now in
    let n = length c.args.into.now.places.items in
    let hits = option_to_list (hit_if (holds_here c.args.search.now.index.now p c.args.mark c.args.order.now c.args.env.now)
    c.args.mark (new_doc c.args.search.now.seen.now c.in-Some-OfDoc.doc.now)) in
    let h : c.collect_pair.new.into.hits.items ≡ keeping n c.args.into.now.hits.items hits = search rules in
    done_on c.args.search.now c.args.into.now c.collect_pair.new.into c.args.fronts.now hits c.collect_pair.ensures.places h
    c.requires.fronts

pub returns-in-Some-OfDoc-clause-steps : goal.returns-in-Some-OfDoc-clause-steps
returns-in-Some-OfDoc-clause-steps g t c =
    let p = searched c.args.search.now in
    let T = c.args.search.now.index.now in
    let d = c.in-Some-OfDoc.doc.now in
    let cost = cost_here T p c.args.mark c.args.sure c.args.order.now c.args.env.now in
    let e : lookup 0 c.args.env.now ≡ Some (OfDoc d) = search rules in
    let s : c.collect_pair.new.steps ≤ c.args.steps.now
    + (if is_settled c.args.search.now.seen.now c.args.into.now.hits.items c.args.mark d then 0 else cost) = search rules in
    λ passed a.
    subst (λ z. c.collect_pair.new.steps ≤ c.args.steps.now + z)
    (sym (doc_cost passed T p c.args.mark c.args.sure c.args.order.now c.args.env.now d e))
    (settled_less (passed d) (is_settled c.args.search.now.seen.now c.args.into.now.hits.items c.args.mark d)
    c.args.steps.now c.collect_pair.new.steps cost (a d) s)

pub returns-in-Some-OfNote-clause-hits : goal.returns-in-Some-OfNote-clause-hits
returns-in-Some-OfNote-clause-hits g t c =
    let p = searched c.args.search.now in
    let e : lookup 0 c.args.env.now ≡ Some (OfNote c.in-Some-OfNote.field-0-0.now) = search rules in
    ap (keeping (length c.args.into.now.places.items) c.args.into.now.hits.items)
    (sym (note_hits c.args.search.now.seen.now c.args.search.now.index.now p
    c.args.mark c.args.order.now c.args.env.now (OfNote c.in-Some-OfNote.field-0-0.now) e (λ d z. absurd cc)))

pub collect_once-requires : goal.collect_once-requires
collect_once-requires g t c κs within =
    let mark = to_z w64 (of_z w64 c.args.mark) in
    let p = searched c.args.search.now in
    let by = c.loop-row.invariant.next (row_of c.in-Some-next.row) in
    let v : IsLevel c.args.search.now.seen.now c.args.search.now.index.now p mark c.args.order.now c.args.env.now c.in-Some.level =
    search rules in
    let sure = v.sure (row_of c.in-Some-next.row) in
    let fewer = v.fewer in
    let fronts = c.loop-row.invariant.fronts in
    search (rules, by, sure, fewer, fronts)

pub returns-then-level-eq0-clause-hits : goal.returns-then-level-eq0-clause-hits
returns-then-level-eq0-clause-hits g t c =
    let e : c.loop-row.rows ≡ row_of c.in-Some-next.row ∷ c.next.new.self = search rules in
    let mark = to_z w64 (of_z w64 c.args.mark) in
    let p = searched c.args.search.now in
    let v = c.in-Some.level.reach.var in
    let x = bind v (row_of c.in-Some-next.row) c.args.env.now in
    let z : v.0 ≡ 0 = search rules in
    let h : c.collect_once.new.into.hits.items ≡ keeping (length c.loop-row.into.places.items)
    c.loop-row.into.hits.items (hits_over c.args.search.now.seen.now c.args.search.now.index.now p mark c.in-Some.level.rest.now x) =
    search rules in
    let r : c.collect_once.result ≡ true = search rules in
    let by = c.collect_once.ensures.never r in
    let n : IsNever c.args.search.now.index.now query_var p.body x = search (rules, by) in
    let f = never_hits c.args.search.now.seen.now c.args.search.now.index.now p mark c.in-Some.level.rest.now c.args.env.now v
    (row_of c.in-Some-next.row) z n c.next.new.self in
    let a = hits_end _ _ _ _ _ _ _ _ (row_of c.in-Some-next.row) c.loop-row.invariant.hits e h c.collect_once.ensures.places f in
    search (rules, a)
