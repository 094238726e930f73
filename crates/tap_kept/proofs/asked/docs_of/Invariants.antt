use Rattle.std.proofs.Common.{◌≡◌, ◌++◌, map, drop}
use Rattle.tap_kept.proofs.asked.docs_of.Given as goal

-- the documents of the hits that are left are appended to those that are there
abbrev pub invariant-loop-hit : goal.invariant-loop-hit
invariant-loop-hit l = map (λ hit. hit.doc) l.hits ≡ l.docs ++ map (λ hit. hit.doc) (drop l.hit-index l.hits)
