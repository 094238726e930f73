use Rattle.std.proofs.Common.{subst}
use Rattle.tql_tree.specs.declared.tree.Tree.{Tree}
use Rattle.tql_tree.specs.Syntax.{syntax}
use Rattle.tql_parse.specs.Reading.{ParseGives}
use Rattle.tql_parse.proofs.Complete.{query_is}
use Rattle.tql_parse.proofs.Queries.{query_found}
use Rattle.tql_parse.proofs.Proper.{found_proper}
use Rattle.tql_parse.proofs.Faults.{gives_unexpected, gives_deep, gives_ended}
use Rattle.tql_parse.proofs.parser.parse.Goals as goal

pub returns-clause-found : goal.returns-clause-found
returns-clause-found c = query_found 32 c.args.tokens.now syntax c.query.result c.query.ensures

pub returns-clause-proper : goal.returns-clause-proper
returns-clause-proper c =
    found_proper 32 c.args.tokens.now syntax c.query.result (query_found 32 c.args.tokens.now syntax c.query.result c.query.ensures)

pub returns-clause-only : goal.returns-clause-only
returns-clause-only c = λ x h. subst (λ f. ParseGives syntax c.query.result f) (query_is 32 c.args.tokens.now x h) c.query.ensures

pub returns-clause-unexpected : goal.returns-clause-unexpected
returns-clause-unexpected c = gives_unexpected Tree syntax c.query.result 32 c.args.tokens.now c.query.ensures

pub returns-clause-deep : goal.returns-clause-deep
returns-clause-deep c = gives_deep Tree syntax c.query.result 32 c.args.tokens.now c.query.ensures

pub returns-clause-ended : goal.returns-clause-ended
returns-clause-ended c = gives_ended Tree syntax c.query.result 32 c.args.tokens.now c.query.ensures
