use Rattle.access_plan.proofs.Enough.{accesses_keep_tables as law}
use Rattle.access_plan.proofs.laws.accesses_keep_tables.Goals as goal

pub returns : goal.returns
returns c = law
