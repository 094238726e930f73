use Rattle.std.proofs.Common.{◌≡◌, ◌∙◌, arith}
use Rattle.std.proofs.lemmas.Result.{err_from_is_err_and}
use Rattle.tql_lex.specs.Tokens.{lexed, tokens_from}
use Rattle.tql_lex.proofs.Runs.{tokens-on, tokens-fails, lexed-short, rest_is}
use Rattle.tql_lex.proofs.lexer.read.Goals as goal

pub returns-in_err-token : goal.returns-in_err-token
returns-in_err-token c =
    let p = err_from_is_err_and c.from_residual.result c.from_residual.ensures.1 in
    let e : lexed c.args.text.now ≡ tokens_from 0 0 c.args.text.now = lexed-short c.args.text.now c.loop-at.invariant.short in
    rw (p.1, p.2) (tokens-fails c.args.text.now c.loop-at.at c.loop-at-test.true (c.loop-at.invariant.stops c.loop-at-test.true)
    c.in_err-token.field-0.0 c.loop-at.tokens.items (lexed c.args.text.now) (e ∙ c.loop-at.invariant.value)
    (rw (rest_is c.loop-at.at c.args.text.now) at c.in_err-token.ensures.value))

pub loop-at-preserved : goal.loop-at-preserved
loop-at-preserved c = record {
  value = rw c.in_ok-push.ensures.items (tokens-on c.args.text.now c.loop-at.at c.in_ok-token.token c.after_blanks-at-in-loop-at.result
      c.loop-at.tokens.items _ c.loop-at-test.true (c.loop-at.invariant.stops c.loop-at-test.true)
      c.loop-at.invariant.value (rw (rest_is c.loop-at.at c.args.text.now) at c.in_ok-token.ensures.value)
      (omega (arith, c.in_ok-token.ensures.within)) c.after_blanks-at-in-loop-at.ensures.same);
  within = c.after_blanks-at-in-loop-at.ensures.within;
  short = c.loop-at.invariant.short;
  stops = c.after_blanks-at-in-loop-at.ensures.stops;
}
