use Rattle.std.proofs.Common.{◌≡◌, ◌-◌}
use Rattle.query_eval.proofs.box_fronts.BoxFronts.set_places.Given as goal

abbrev pub invariant-fronts : goal.invariant-fronts
invariant-fronts l = l.self.fronts.items ≡ l.fn.self.fronts.items

abbrev pub decreases-fronts : goal.decreases-fronts
decreases-fronts l = l.count - l.place
