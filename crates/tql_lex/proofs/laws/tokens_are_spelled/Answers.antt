use Rattle.tql_lex.proofs.Spelled.{are_lexed}
use Rattle.tql_lex.proofs.Spelling.{lexed_are}
use Rattle.tql_lex.proofs.Ordered.{lexed_within}
use Rattle.tql_lex.proofs.laws.tokens_are_spelled.Goals as goal

pub returns : goal.returns
returns c = λ text tokens. (λ e. (lexed_within text tokens e, lexed_are text tokens e), are_lexed text tokens)
