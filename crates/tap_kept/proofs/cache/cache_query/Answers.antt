use Rattle.std.proofs.Common.{sym}
use Rattle.tql_core.specs.Condition.{condition}
use Rattle.restart_core.specs.Starts.{condition_text}
use Rattle.tap_kept.proofs.TextLaws.{read-fine}
use Rattle.tap_kept.proofs.VariableLaws.{read-query}
use Rattle.tap_kept.proofs.cache.cache_query.Goals as goal

pub new-requires-clause-cond : goal.new-requires-clause-cond
new-requires-clause-cond c = sym (read-fine (condition_text c.args.row.source) (condition c.args.cond) c.requires.cond).0

pub new-requires-clause-scoped : goal.new-requires-clause-scoped
new-requires-clause-scoped c = (read-query (condition_text c.args.row.source) (condition c.args.cond) c.requires.cond).0

pub new-requires-clause-bounded : goal.new-requires-clause-bounded
new-requires-clause-bounded c = (read-query (condition_text c.args.row.source) (condition c.args.cond) c.requires.cond).1
