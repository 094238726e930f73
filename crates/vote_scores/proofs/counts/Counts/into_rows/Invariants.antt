use Rattle.std.proofs.Common.{◌≡◌, ◌++◌}
use Rattle.vote_scores.proofs.counts.Counts.into_rows.Given as goal

-- the scores are those that were moved, and then those that are left
abbrev pub invariant-loop-score : goal.invariant-loop-score
invariant-loop-score l = l.fn.self ≡ l.scores.items ++ l.score-iterator
