use Rattle.tql_lex.proofs.Ordered.{gives_order, gives_numbers}
use Rattle.tql_lex.proofs.lexer.lex.Goals as goal

pub returns-clause-spans : goal.returns-clause-spans
returns-clause-spans c = gives_order c.args.text.now c.read.result (λ tokens. tokens.items) c.read.ensures

pub returns-clause-numbers : goal.returns-clause-numbers
returns-clause-numbers c = gives_numbers c.args.text.now c.read.result (λ tokens. tokens.items) c.read.ensures
