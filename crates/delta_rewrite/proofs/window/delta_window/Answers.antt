use Rattle.tql_core.specs.Condition.{condition}
use Rattle.time_marks.proofs.Fits.{query_fits}
use Rattle.delta_rewrite.proofs.window.delta_window.Goals as goal

pub unsettled-requires-clause-fits : goal.unsettled-requires-clause-fits
unsettled-requires-clause-fits c = query_fits (condition c.args.cond.now) c.requires.query.scoped
