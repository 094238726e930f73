use Rattle.std.proofs.Common.{length}
use Rattle.filter_rules.proofs.rating.+rate.Given as goal

abbrev pub decreases-rate : goal.decreases-rate
decreases-rate l = length l.rules.now
