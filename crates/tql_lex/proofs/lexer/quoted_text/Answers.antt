use Rattle.std.proofs.Common.{◌∙◌, rules, arith, length-drop, ◌≡◌, ◌<◌, length, drop, take, ◌++◌, ◌+◌, ◌-◌, ap}
use Rattle.tql_lex.specs.Tokens.{width}
use Rattle.tql_lex.proofs.Quotes.{quoted_step, quoted-closes}
use Rattle.tql_lex.proofs.lexer.quoted_text.Goals as goal

pub loop-width-preserved : goal.loop-width-preserved
loop-width-preserved c =
    let one : c.loop-width.at + 1 - c.loop-width.at ≡ 1 = omega arith in
    let slice : c.loop-width.content ++ take (c.loop-width.at + 1 - c.loop-width.at) (drop c.loop-width.at c.args.text.now)
    ≡ c.loop-width.content ++ take 1 (drop c.loop-width.at c.args.text.now) =
    ap (λ n. c.loop-width.content ++ take n (drop c.loop-width.at c.args.text.now)) one in
    record {
      value = quoted_step c.args.text.now c.loop-width.content c.push_slice.new.self c.loop-width.at c.loop-width.width
          c.loop-width.invariant.value c.loop-width.invariant.next (omega arith) (c.in_ok-push_slice.ensures.ok ∙ slice);
      next = search rules;
      within = omega arith;
    }

pub returns-then-at-text-clause-value : goal.returns-then-at-text-clause-value
returns-then-at-text-clause-value c =
    let none : width (drop c.loop-width.at c.args.text.now) ≡ 0 = omega (arith, c.loop-width.invariant.next) in
    let some : 0 < length (drop c.loop-width.at c.args.text.now) = omega (arith, length-drop c.loop-width.at c.args.text.now) in
    quoted-closes c.args.text.now c.loop-width.content c.loop-width.at c.loop-width.invariant.value none some
