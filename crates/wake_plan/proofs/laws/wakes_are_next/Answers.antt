use Rattle.wake_plan.proofs.NextLaws.{wakes_are_next as law}
use Rattle.wake_plan.proofs.laws.wakes_are_next.Goals as goal

pub returns : goal.returns
returns c = law
