use Rattle.tql_types.proofs.ScopeLaws.{typed-is-query}
use Rattle.tql_types.proofs.laws.typed_conditions_are_queries.Goals as goal

pub returns : goal.returns
returns c = typed-is-query
