use Rattle.std.proofs.Common.{rules}
use Rattle.probe_eval.proofs.WalkedLaws.{walked_hits}
use Rattle.probe_eval.specs.Searches.{searched}
use Rattle.query_eval.proofs.parts.collect_part.Goals as goal

pub returns-in-Some-clause-hits : goal.returns-in-Some-clause-hits
returns-in-Some-clause-hits g c =
    let p = searched c.args.search.now in
    let by = walked_hits c.args.search.now.index.now c.args.w p c.args.seek c.in-Some.var c.args.search.now.seen.now c.args.order.now in
    search (rules, by)
