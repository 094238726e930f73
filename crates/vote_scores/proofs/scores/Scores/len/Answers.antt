use Rattle.std.proofs.Common.{subst}
use Rattle.vote_scores.specs.Tally.{VotesAreDistinct}
use Rattle.vote_scores.proofs.EntryLaws.{distinct}
use Rattle.vote_scores.proofs.scores.Scores.len.Goals as goal

pub returns-clause-distinct : goal.returns-clause-distinct
returns-clause-distinct c = subst VotesAreDistinct c.self.view_is (distinct c.self.inside.votes.entries c.len.ensures.unique)
