use Rattle.access_plan.proofs.Reached.{reaches_are_enough, binding_keeps_same}
use Rattle.access_plan.proofs.laws.reaches_are_enough.Goals as goal

pub returns-clause-enough : goal.returns-clause-enough
returns-clause-enough c = reaches_are_enough

pub returns-clause-next : goal.returns-clause-next
returns-clause-next c = binding_keeps_same
