use Rattle.tql_lex.proofs.Ordered.{lexed_order, lexed_numbers}
use Rattle.tql_lex.proofs.laws.tokens_are_in_order.Goals as goal

pub returns : goal.returns
returns c = λ text tokens e. (lexed_order text tokens e, lexed_numbers text tokens e)
