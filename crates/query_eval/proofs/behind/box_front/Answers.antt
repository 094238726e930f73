use Rattle.std.proofs.Common.{rules, to_z, of_z, w64}
use Rattle.query_eval.proofs.FrontLaws.{boxed_known, box_front_passed}
use Rattle.query_eval.proofs.behind.box_front.Goals as goal

pub boxed_from-boxed-requires : goal.boxed_from-boxed-requires
boxed_from-boxed-requires c =
    let list = c.requires.list in
    let docs = c.args.search.now.index.now.docs in
    let entries = c.args.search.now.seen.now in
    boxed_known docs c.args.found.now.kind list.key c.args.found.now.docs c.args.first list.kind list.docs c.requires.first entries
    c.boxed-known.result (c.boxed-known.ensures entries docs c.requires.boxes)

pub returns-clause-passed : goal.returns-clause-passed
returns-clause-passed c = λ n kept.
    let list = c.requires.list in
    let mark = to_z w64 (of_z w64 c.args.mark) in
    let by = box_front_passed c.args.search.now.index.now.docs c.args.found.now.kind list.key c.args.found.now.docs c.args.first list.kind
    list.docs c.requires.first list.single c.docs-docs.ensures.places c.args.search.now.seen.now n kept mark c.boxed_from-boxed.result
    c.boxed_from-boxed.ensures in
    search (rules, by)
