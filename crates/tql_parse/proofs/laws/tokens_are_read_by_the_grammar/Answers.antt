use Rattle.tql_parse.proofs.GrammarLaws.{read_by_grammar}
use Rattle.tql_parse.proofs.laws.tokens_are_read_by_the_grammar.Goals as goal

pub returns : goal.returns
returns c = read_by_grammar
