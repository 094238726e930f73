use Rattle.query_eval.proofs.Meanings.{lowest_law}
use Rattle.query_eval.proofs.laws.lowest_hits_are_the_meaning.Goals as goal

pub returns : goal.returns
returns c = lowest_law
