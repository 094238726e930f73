use Rattle.tql_core.specs.Condition.{condition}
use Rattle.time_marks.proofs.Fits.{query_fits}
use Rattle.time_marks.proofs.rising_marks.rising_from.Goals as goal

pub marks_from-requires : goal.marks_from-requires
marks_from-requires c = query_fits (condition c.args.cond.now) c.requires
