use Rattle.std.proofs.Common.{◌-◌, length, take}
use Rattle.tap_rows.specs.Kept.{Each}
use Rattle.query_eval.specs.Fronts.{IsDone}
use Rattle.query_eval.proofs.behind.done_from.Given as goal

abbrev pub invariant-walk : goal.invariant-walk
invariant-walk l = Each (IsDone l.search.seen.now (length l.into.places.items) l.into.hits.items l.mark) (take l.done l.docs)

abbrev pub decreases-walk : goal.decreases-walk
decreases-walk l = l.count - l.done
