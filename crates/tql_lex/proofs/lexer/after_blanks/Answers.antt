use Rattle.std.proofs.Common.{◌≡◌, ◌∙◌, drop, refl}
use Rattle.std.proofs.lemmas.List.{drop-drop}
use Rattle.tql_lex.specs.Tokens.{run, is_between_tokens}
use Rattle.tql_lex.proofs.Runs.{tokens_blanks, rest_is}
use Rattle.tql_lex.proofs.lexer.after_blanks.Goals as goal

pub returns-clause-same : goal.returns-clause-same
returns-clause-same c =
    let e : c.blank_len.result ≡ run is_between_tokens (drop c.args.at c.args.text.now) =
    rw (rest_is c.args.at c.args.text.now) at c.blank_len.ensures.value in
    tokens_blanks c.args.at (drop c.args.at c.args.text.now)
    ∙ rw (e, drop-drop (run is_between_tokens (drop c.args.at c.args.text.now)) c.args.at c.args.text.now) refl
