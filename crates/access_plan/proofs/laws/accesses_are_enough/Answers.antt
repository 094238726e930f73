use Rattle.access_plan.proofs.Enough.{accesses_are_enough as law}
use Rattle.access_plan.proofs.laws.accesses_are_enough.Goals as goal

pub returns : goal.returns
returns c = law
