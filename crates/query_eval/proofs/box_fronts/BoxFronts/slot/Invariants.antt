use Rattle.std.proofs.Common.{◌-◌}
use Rattle.query_eval.specs.declared.box_fronts.TheConstants.{NEAR}
use Rattle.query_eval.proofs.box_fronts.BoxFronts.slot.Given as goal

abbrev pub decreases-near : goal.decreases-near
decreases-near l = NEAR - l.step
