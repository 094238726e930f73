use Rattle.std.proofs.Common.{rules, ◌≡◌, Some, length, to_z, of_z, w64}
use Rattle.std.specs.Prelude.{slice_get}
use Rattle.row_index.specs.Orders.{doc_num}
use Rattle.query_eval.proofs.BoxLaws.{boxes_alike}
use Rattle.query_eval.proofs.FrontLaws.{known_here, passed_here, passed_of, front_more}
use Rattle.query_eval.proofs.behind.done_front.Goals as goal

pub returns-then-len-lt-LONG-clause-done : goal.returns-then-len-lt-LONG-clause-done
returns-then-len-lt-LONG-clause-done c = tt

pub returns-in-None-clause-done : goal.returns-in-None-clause-done
returns-in-None-clause-done c = tt

pub done_from-len-requires-clause-done : goal.done_from-len-requires-clause-done
done_from-len-requires-clause-done c =
    let list = c.requires.list in
    let entries = c.args.search.now.seen.now in
    let docs = c.args.search.now.index.now.docs in
    let count = length c.args.into.now.places.items in
    let kept = c.args.into.now.hits.items in
    let mark = to_z w64 (of_z w64 c.args.mark) in
    let n : Some c.in-Some.first ≡ doc_num (slice_get c.args.found.now.docs 0) = search rules in
    let k = c.known_front-known.ensures.passed count kept c.requires.fronts.passed in
    let d = c.done_at.ensures entries docs count kept k in
    let p = passed_of entries docs count kept c.known_front-known.result c.args.found.now.kind c.in-Some.first.0 mark c.done_at.result
    c.known_front-known.ensures.own d in
    let by = known_here docs c.args.found.now.kind list.key c.args.found.now.docs c.in-Some.first list.kind list.docs n entries count kept
    mark c.done_at.result p in
    search (rules, by)

pub returns-in-Some-clause-fronts : goal.returns-in-Some-clause-fronts
returns-in-Some-clause-fronts c =
    let list = c.requires.list in
    let entries = c.args.search.now.seen.now in
    let docs = c.args.search.now.index.now.docs in
    let count = length c.args.into.now.places.items in
    let kept = c.args.into.now.hits.items in
    let mark = to_z w64 (of_z w64 c.args.mark) in
    let n : Some c.in-Some.first ≡ doc_num (slice_get c.args.found.now.docs 0) = search rules in
    let k = c.known_front-known.ensures.passed count kept c.requires.fronts.passed in
    let p = passed_here docs c.args.found.now.kind list.key c.args.found.now.docs c.in-Some.first list.kind list.docs n list.single
    c.docs-docs.ensures.places entries count kept mark c.done_from-len.result c.done_from-len.ensures in
    let front = front_more entries docs count kept c.known_front-known.result c.args.found.now.kind c.in-Some.first mark
    c.done_from-len.result c.known_front-known.ensures.own k p in
    record {
      passed = c.put.ensures.fronts entries docs count kept c.requires.fronts.passed front;
      boxes = boxes_alike entries docs c.args.fronts.now.boxes _ c.put.ensures.boxes c.requires.fronts.boxes;
    }
