use Rattle.tql_parse.proofs.Queries.{one_query}
use Rattle.tql_parse.proofs.laws.one_tree.Goals as goal

pub returns : goal.returns
returns c = one_query
