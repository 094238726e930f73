use Rattle.tql_lex.proofs.Longest.{longest}
use Rattle.tql_lex.proofs.laws.tokens_are_the_longest.Goals as goal

pub returns : goal.returns
returns c = longest
