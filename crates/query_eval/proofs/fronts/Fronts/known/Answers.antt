use Rattle.std.proofs.Common.{rules, ◌≡◌, true}
use Rattle.tap_rows.specs.Kept.{In}
use Rattle.query_eval.specs.RunFronts.{IsFrontOf}
use Rattle.query_eval.proofs.fronts.Fronts.known.Goals as goal

pub returns-then-is_front_of : goal.returns-then-is_front_of
returns-then-is_front_of c =
    let i : In c.in-Some.front c.args.self.now.fronts.items = search rules in
    let t : c.is_front_of.result ≡ true = search rules in
    let by = c.is_front_of.ensures t in
    let o : IsFrontOf c.args.kind c.args.first.0 c.in-Some.front = search (rules, by) in
    record { own = o; known = i }
