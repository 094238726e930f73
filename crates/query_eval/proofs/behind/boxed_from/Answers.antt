use Rattle.std.proofs.Common.{rules, arith, ◌≡◌, ◌<◌, true, length}
use Rattle.query_eval.proofs.FrontLaws.{boxed_more}
use Rattle.query_eval.proofs.behind.boxed_from.Goals as goal

pub walk-preserved : goal.walk-preserved
walk-preserved c =
    let t : c.is_boxed_at.result ≡ true = search rules in
    let l : c.walk.boxed < length c.args.docs.now = search (rules, arith) in
    let by = boxed_more c.args.search.now.seen.now c.args.docs.now c.walk.boxed c.walk.invariant l (c.is_boxed_at.ensures t) in
    search (rules, by)
