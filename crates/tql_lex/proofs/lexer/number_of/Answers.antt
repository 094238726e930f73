use Rattle.std.proofs.Common.{arith}
use Rattle.std.proofs.lemmas.Grind.{common_steps}
use Rattle.tql_lex.proofs.Runs.{value-grows-step}
use Rattle.tql_lex.proofs.lexer.number_of.Goals as goal

pub returns-then-n-digit : goal.returns-then-n-digit
returns-then-n-digit c =
    let grows = value-grows-step c.loop-b.n c.args.text.now c.loop-b.b-index c.loop-b-test.true in
    grind (arith, common_steps)
