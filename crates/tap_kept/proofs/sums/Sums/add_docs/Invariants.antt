use Rattle.std.proofs.Common.{◌≡◌, drop, length}
use Rattle.tap_kept.specs.Starting.{summed}
use Rattle.tap_kept.proofs.sums.Sums.add_docs.Given as goal

-- the sums with all rows are those with the rows that are left
abbrev pub invariant-loop-doc : goal.invariant-loop-doc
invariant-loop-doc l = summed (λ doc. doc.arrival) (λ doc. length doc.text) l.fn.self l.docs
    ≡ summed (λ doc. doc.arrival) (λ doc. length doc.text) l.sums (drop l.doc-index l.docs)
