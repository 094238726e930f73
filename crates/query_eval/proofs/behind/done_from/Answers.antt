use Rattle.std.proofs.Common.{rules, ◌≡◌, true, length, to_z, of_z, w64}
use Rattle.query_eval.specs.Fronts.{IsDone}
use Rattle.query_eval.proofs.FrontLaws.{each_longer}
use Rattle.query_eval.proofs.behind.done_from.Goals as goal

pub walk-preserved : goal.walk-preserved
walk-preserved c =
    let t : c.is_done_at.result ≡ true = search rules in
    let done = IsDone c.args.search.now.seen.now (length c.args.into.now.places.items)
    c.args.into.now.hits.items (to_z w64 (of_z w64 c.args.mark)) in
    let by = each_longer done c.args.docs.now c.walk.done c.walk.invariant (c.is_done_at.ensures t) in
    search (rules, by)
