use Rattle.tql_core.specs.Condition.{condition}
use Rattle.tap_kept.proofs.VariableLaws.{read-few, read-query}
use Rattle.tap_kept.proofs.TextLaws.{fault-refused}
use Rattle.tap_kept.proofs.text.read_text.Goals as goal

pub returns-in-Err-clause-refusal : goal.returns-in-Err-clause-refusal
returns-in-Err-clause-refusal c = fault-refused c.args.source.now c.in-Err.fault c.refusal_of.result c.in-Err.ensures c.refusal_of.ensures

pub returns-in-Ok-clause-vars : goal.returns-in-Ok-clause-vars
returns-in-Ok-clause-vars c = read-few c.args.source.now (condition c.in-Ok.cond) c.in-Ok.ensures

pub returns-in-Ok-clause-scoped : goal.returns-in-Ok-clause-scoped
returns-in-Ok-clause-scoped c = (read-query c.args.source.now (condition c.in-Ok.cond) c.in-Ok.ensures).0

pub returns-in-Ok-clause-bounded : goal.returns-in-Ok-clause-bounded
returns-in-Ok-clause-bounded c = (read-query c.args.source.now (condition c.in-Ok.cond) c.in-Ok.ensures).1
