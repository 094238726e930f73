use Rattle.access_plan.proofs.Served.{orders_serve as law}
use Rattle.access_plan.proofs.laws.orders_serve.Goals as goal

pub returns : goal.returns
returns c = law
