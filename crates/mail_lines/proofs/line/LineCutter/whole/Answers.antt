use Rattle.std.proofs.Common.{arith, rules, []}
use Rattle.mail_lines.proofs.Ends.{whole-lines, whole-ended, ended-later}
use Rattle.mail_lines.proofs.line.LineCutter.whole.Goals as goal

pub returns-clause-between : goal.returns-clause-between
returns-clause-between c = c.is_between.ensures (search rules)

pub returns-clause-until : goal.returns-clause-until
returns-clause-until c = λ n lt. ended-later [] c.args.piece.now c.end_of_line-len.result n tt c.end_of_line-len.ensures.value (omega arith)

pub returns-clause-lines : goal.returns-clause-lines
returns-clause-lines c = λ rest. whole-lines c.args.piece.now _ rest c.end_of_line-len.result c.end_of_line-len.ensures.value (omega arith)
    (omega arith) c.without_carriage_return.ensures.value

pub returns-clause-ended : goal.returns-clause-ended
returns-clause-ended c = λ rest. whole-ended c.args.piece.now _ rest c.end_of_line-len.result c.end_of_line-len.ensures.value (omega arith)
    (omega arith) c.without_carriage_return.ensures.value
