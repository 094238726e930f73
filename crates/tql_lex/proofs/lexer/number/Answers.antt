use Rattle.tql_lex.specs.Tokens.{is_digit}
use Rattle.tql_lex.proofs.Runs.{run_all}
use Rattle.tql_lex.proofs.lexer.number.Goals as goal

pub number_of-requires : goal.number_of-requires
number_of-requires c = rw c.digits_len-len.ensures.value (run_all is_digit c.args.text.now)
