use Rattle.access_plan.proofs.Enough.{inner_accesses_are_enough as enough, inner_accesses_keep_tables as table}
use Rattle.access_plan.proofs.laws.inner_accesses_are_enough.Goals as goal

pub returns-clause-enough : goal.returns-clause-enough
returns-clause-enough c = enough

pub returns-clause-table : goal.returns-clause-table
returns-clause-table c = table
