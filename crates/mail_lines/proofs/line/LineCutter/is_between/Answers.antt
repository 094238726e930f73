use Rattle.std.proofs.Common.{rules, arith}
use Rattle.mail_lines.proofs.Ends.{between-lines}
use Rattle.mail_lines.proofs.line.LineCutter.is_between.Goals as goal

pub returns : goal.returns
returns c = λ _. between-lines c.self.inside.front c.self.inside.failed c.args.self.now c.self.view_is (omega arith) (search rules)
