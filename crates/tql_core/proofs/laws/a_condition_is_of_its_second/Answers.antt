use Rattle.tql_core.proofs.OfTheSecond.{of-the-second}
use Rattle.tql_core.proofs.laws.a_condition_is_of_its_second.Goals as goal

pub returns : goal.returns
returns c = of-the-second
