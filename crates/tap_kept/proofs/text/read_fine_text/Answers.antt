use Rattle.std.proofs.Common.{sym}
use Rattle.tql_core.specs.Condition.{condition}
use Rattle.tap_kept.proofs.TextLaws.{read-fine}
use Rattle.tap_kept.proofs.text.read_fine_text.Goals as goal

pub returns-clause-fine : goal.returns-clause-fine
returns-clause-fine c = (read-fine c.args.source.now (condition c.in_ok-cond.cond) c.in_ok-cond.ensures.cond).1

pub returns-clause-cond : goal.returns-clause-cond
returns-clause-cond c = sym (read-fine c.args.source.now (condition c.in_ok-cond.cond) c.in_ok-cond.ensures.cond).0
