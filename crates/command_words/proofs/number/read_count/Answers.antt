use Rattle.std.proofs.Common.{arith, sym}
use Rattle.command_words.proofs.Numbers.{a_number, no_number}
use Rattle.command_words.proofs.number.read_count.Goals as goal

pub returns-in_default-clause-value : goal.returns-in_default-clause-value
returns-in_default-clause-value c = sym (no_number c.args.text.now c.in_default.ensures.value.0)

pub returns-then-n-le-COUNT_LIMIT-clause-value : goal.returns-then-n-le-COUNT_LIMIT-clause-value
returns-then-n-le-COUNT_LIMIT-clause-value c =
    sym (a_number c.args.text.now c.in-Ok.n c.in-Ok.ensures.value.0.0.0 c.in-Ok.ensures.value.0.1 (omega arith) (omega arith))
