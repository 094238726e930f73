use Rattle.vote_scores.proofs.CountingLaws.{Counting}
use Rattle.vote_scores.proofs.scores.Scores.counts.Given as goal

abbrev pub invariant-loop-key : goal.invariant-loop-key
invariant-loop-key l = Counting l.fn.kind l.fn.self l.counts l.key-iterator
