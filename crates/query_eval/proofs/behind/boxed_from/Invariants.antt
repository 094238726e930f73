use Rattle.std.proofs.Common.{◌-◌}
use Rattle.query_eval.specs.BoxFronts.{IsBoxedFront}
use Rattle.query_eval.proofs.behind.boxed_from.Given as goal

abbrev pub invariant-walk : goal.invariant-walk
invariant-walk l = IsBoxedFront l.search.seen.now l.boxed l.docs

abbrev pub decreases-walk : goal.decreases-walk
decreases-walk l = l.count - l.boxed
