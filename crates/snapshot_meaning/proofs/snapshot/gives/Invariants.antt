use Rattle.std.proofs.Common.{◌≡◌, ◌++◌, drop}
use Rattle.tql_core.specs.Condition.{condition}
use Rattle.snapshot_meaning.specs.Seen.{seen, given_nums}
use Rattle.snapshot_meaning.proofs.snapshot.gives.Given as goal

-- the numbers are those so far and those of the documents that are left
abbrev pub invariant-loop-doc : goal.invariant-loop-doc
invariant-loop-doc l =
    given_nums (condition l.cond) (seen l.docs l.notes) l.s l.docs
    ≡ l.nums ++ given_nums (condition l.cond) (seen l.docs l.notes) l.s (drop l.doc-index l.docs)
